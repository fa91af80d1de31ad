-- The words that name a value, each found by its word in a table.
use Rattle.std.proofs.Common.{◌≡◌, Bool, true, false, cond, List, [], ◌∷◌, Option, Some, refl, sym, ap, ◌∙◌, ◌⊎◌, inl, inr}
use Rattle.std.specs.List.{find}
use Rattle.std.proofs.lemmas.Option.{same_Some}
use Rattle.heap_tuple.specs.declared.shape.Align.{Align}
use Rattle.heap_tuple.specs.declared.shape.Align.TheVariants as aligns
use Rattle.catalog.specs.declared.types.BaseType.{BaseType}
use Rattle.catalog.specs.declared.types.BaseType.TheVariants as types
use Rattle.dump_grammar.specs.declared.statement.NextKind.{NextKind}
use Rattle.dump_grammar.specs.declared.statement.NextKind.TheVariants as kinds
use Rattle.dump_grammar.specs.Pieces.{keyword, plain, kind_word, type_word, align_word, flag_word}
use Rattle.dump_grammar.specs.Spelling.{Word, Writes}
use Rattle.dump_read.specs.declared.heads.Verb.{Verb}
use Rattle.dump_read.specs.declared.heads.Verb.TheVariants as verbs
use Rattle.dump_read.specs.declared.heads.Object.{Object}
use Rattle.dump_read.specs.declared.heads.Object.TheVariants as objects
use Rattle.dump_read.specs.Takes.{is_key, is_plain, kind_in, type_in, align_in, flag_in, next_kinds, base_types, alignments}
use Rattle.dump_read.specs.Form.{verb_word, verb_in, object_word, object_in, verbs_all, objects_all}
use Rattle.dump_read.proofs.OneWord.{Value, Always, key_back, plain_back}

pub pick : {A : Type 0} (b : Bool) (y x : A) (r : Option A) → cond b (Some y) r ≡ Some x → ((b ≡ true) × (y ≡ x)) ⊎ (r ≡ Some x)
pick true y x r e = inl (refl, same_Some y x e)
pick false y x r e = inr e

-- what is found passes the test
pub found : {A : Type 0} (test : A → Bool) (xs : List A) (x : A) → find test xs ≡ Some x → test x ≡ true
found test [] x e = absurd cc
found {A} test (y ∷ ys) x e = elim (pick (test y) y x (find test ys) e) [ inl p ↦ ap test (sym p.1) ∙ p.0 | inr q ↦ found test ys x q ]

kind_forth : (w : Word) (x : NextKind) → Writes w (plain (kind_word x)) → kind_in w ≡ Some x
unfolding kind_in is_plain
kind_forth w kinds.Role h = ap kind_in h
kind_forth w kinds.Tablespace h = ap kind_in h
kind_forth w kinds.Database h = ap kind_in h
kind_forth w kinds.TypeOid h = ap kind_in h
kind_forth w kinds.Label h = ap kind_in h
kind_forth w kinds.Table h = ap kind_in h
kind_forth w kinds.TableFile h = ap kind_in h
kind_forth w kinds.Toast h = ap kind_in h
kind_forth w kinds.ToastFile h = ap kind_in h
kind_forth w kinds.ToastIndex h = ap kind_in h
kind_forth w kinds.ToastIndexFile h = ap kind_in h
kind_forth w kinds.Index h = ap kind_in h
kind_forth w kinds.IndexFile h = ap kind_in h
kind_forth w kinds.Sequence h = ap kind_in h
kind_forth w kinds.SequenceFile h = ap kind_in h

kind_back : (w : Word) (x : NextKind) → kind_in w ≡ Some x → Writes w (plain (kind_word x))
unfolding kind_in
kind_back w x e = plain_back (kind_word x) w (found (λ y. is_plain (kind_word y) w) next_kinds x e)

pub kind_value : Value kind_in (λ x. plain (kind_word x)) Always
kind_value = record { back = λ w x e. (tt, kind_back w x e); forth = λ w x _ h. kind_forth w x h }

type_forth : (w : Word) (x : BaseType) → Writes w (plain (type_word x)) → type_in w ≡ Some x
unfolding type_in is_plain
type_forth w types.Bool h = ap type_in h
type_forth w types.Int2 h = ap type_in h
type_forth w types.Int4 h = ap type_in h
type_forth w types.Oid h = ap type_in h
type_forth w types.Float4 h = ap type_in h
type_forth w types.Date h = ap type_in h
type_forth w types.RegCollation h = ap type_in h
type_forth w types.RegConfig h = ap type_in h
type_forth w types.RegDictionary h = ap type_in h
type_forth w types.RegNamespace h = ap type_in h
type_forth w types.RegOper h = ap type_in h
type_forth w types.RegOperator h = ap type_in h
type_forth w types.RegProc h = ap type_in h
type_forth w types.RegProcedure h = ap type_in h
type_forth w types.Int8 h = ap type_in h
type_forth w types.Float8 h = ap type_in h
type_forth w types.Timestamp h = ap type_in h
type_forth w types.TimestampTz h = ap type_in h
type_forth w types.Uuid h = ap type_in h
type_forth w types.Name h = ap type_in h
type_forth w types.AclItem h = ap type_in h
type_forth w types.Text h = ap type_in h
type_forth w types.VarChar h = ap type_in h
type_forth w types.Bytea h = ap type_in h
type_forth w types.Numeric h = ap type_in h
type_forth w types.Jsonb h = ap type_in h

type_back : (w : Word) (x : BaseType) → type_in w ≡ Some x → Writes w (plain (type_word x))
unfolding type_in
type_back w x e = plain_back (type_word x) w (found (λ y. is_plain (type_word y) w) base_types x e)

pub type_value : Value type_in (λ x. plain (type_word x)) Always
type_value = record { back = λ w x e. (tt, type_back w x e); forth = λ w x _ h. type_forth w x h }

align_forth : (w : Word) (x : Align) → Writes w (plain (align_word x)) → align_in w ≡ Some x
unfolding align_in is_plain
align_forth w aligns.C h = ap align_in h
align_forth w aligns.S h = ap align_in h
align_forth w aligns.I h = ap align_in h
align_forth w aligns.D h = ap align_in h

align_back : (w : Word) (x : Align) → align_in w ≡ Some x → Writes w (plain (align_word x))
unfolding align_in
align_back w x e = plain_back (align_word x) w (found (λ y. is_plain (align_word y) w) alignments x e)

pub align_value : Value align_in (λ x. plain (align_word x)) Always
align_value = record { back = λ w x e. (tt, align_back w x e); forth = λ w x _ h. align_forth w x h }

flag_forth : (w : Word) (x : Bool) → Writes w (keyword (flag_word x)) → flag_in w ≡ Some x
unfolding flag_in is_key
flag_forth w true h = ap flag_in h
flag_forth w false h = ap flag_in h

flag_back : (w : Word) (x : Bool) → flag_in w ≡ Some x → Writes w (keyword (flag_word x))
unfolding flag_in
flag_back w x e = key_back (flag_word x) w (found (λ y. is_key (flag_word y) w) (true ∷ false ∷ []) x e)

pub flag_value : Value flag_in (λ x. keyword (flag_word x)) Always
flag_value = record { back = λ w x e. (tt, flag_back w x e); forth = λ w x _ h. flag_forth w x h }

verb_forth : (w : Word) (x : Verb) → Writes w (keyword (verb_word x)) → verb_in w ≡ Some x
unfolding verb_in is_key
verb_forth w verbs.Bootstrap h = ap verb_in h
verb_forth w verbs.Set h = ap verb_in h
verb_forth w verbs.Create h = ap verb_in h
verb_forth w verbs.Alter h = ap verb_in h
verb_forth w verbs.Connect h = ap verb_in h
verb_forth w verbs.Add h = ap verb_in h

verb_back : (w : Word) (x : Verb) → verb_in w ≡ Some x → Writes w (keyword (verb_word x))
unfolding verb_in
verb_back w x e = key_back (verb_word x) w (found (λ y. is_key (verb_word y) w) verbs_all x e)

pub verb_value : Value verb_in (λ x. keyword (verb_word x)) Always
verb_value = record { back = λ w x e. (tt, verb_back w x e); forth = λ w x _ h. verb_forth w x h }

object_forth : (w : Word) (x : Object) → Writes w (keyword (object_word x)) → object_in w ≡ Some x
unfolding object_in is_key
object_forth w objects.Role h = ap object_in h
object_forth w objects.Tablespace h = ap object_in h
object_forth w objects.Database h = ap object_in h
object_forth w objects.Schema h = ap object_in h
object_forth w objects.EnumType h = ap object_in h
object_forth w objects.Table h = ap object_in h
object_forth w objects.Index h = ap object_in h
object_forth w objects.Sequence h = ap object_in h

object_back : (w : Word) (x : Object) → object_in w ≡ Some x → Writes w (keyword (object_word x))
unfolding object_in
object_back w x e = key_back (object_word x) w (found (λ y. is_key (object_word y) w) objects_all x e)

pub object_value : Value object_in (λ x. keyword (object_word x)) Always
object_value = record { back = λ w x e. (tt, object_back w x e); forth = λ w x _ h. object_forth w x h }
