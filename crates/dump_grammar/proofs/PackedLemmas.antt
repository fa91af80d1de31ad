-- Columns that are packed, as more texts and columns come behind them.
use Rattle.std.proofs.Common.{◌≡◌, ◌<◌, ◌≤◌, ◌+◌, ℕ, suc, zero, length, arith, Bool, true, false, List, [], ◌∷◌, ◌++◌, map, Option, Some, None, refl}
use Rattle.std.specs.Prelude.{is_some}
use Rattle.std.specs.List.{list_all}
use Rattle.std.proofs.lemmas.List.{get_or_append_left, get_or-append-add, length-append, map-append}
use Rattle.std.proofs.Math.Seq.{get_or-append_seam}
use Rattle.std.proofs.lemmas.Bool.{le-leb, leb-true}
use Rattle.csv.specs.Records.{field_at}
use Rattle.catalog.proofs.ListLemmas.{map_same, all-mono, all-push}
use Rattle.dump_grammar.specs.declared.columns.NamedKind.{NamedKind}
use Rattle.dump_grammar.specs.declared.columns.NamedKind.TheVariants as named
use Rattle.dump_grammar.specs.declared.columns.ColumnText.{ColumnText}
use Rattle.dump_grammar.specs.declared.column_texts.PackedKind.{PackedKind}
use Rattle.dump_grammar.specs.declared.column_texts.PackedKind.TheVariants as packed
use Rattle.dump_grammar.specs.declared.column_texts.Packed.{Packed}
use Rattle.dump_grammar.specs.Packed.{text_at, text_count, missing_count, kind_at, missing_at, column_at, end_of, ends_by, kind_texts, missing_texts, texts_of, packed_kind, packed_as}

-- ---- a field of a record

none_is_some : {A : Type 0} (x : A) (o : Option A) → o ≡ None → o ≡ Some x → ⊥
none_is_some x None n e = absurd cc
none_is_some x (Some y) n e = absurd cc

pub field_there : (texts : List (List ℕ)) (place : ℕ) (text : List ℕ) → field_at texts place ≡ Some text → text_at texts place ≡ text
unfolding field_at
field_there [] place text e = absurd (none_is_some text (field_at [] place) refl e)
field_there (t ∷ ts) zero text e = cc
field_there (t ∷ ts) (suc n) text e = field_there ts n text e

pub field_stands : (texts : List (List ℕ)) (place : ℕ) → place < length texts → field_at texts place ≡ None → ⊥
unfolding field_at
field_stands [] place h e = omega (arith, h)
field_stands (t ∷ ts) zero h e = none_is_some t (field_at (t ∷ ts) zero) e refl
field_stands (t ∷ ts) (suc n) h e = field_stands ts n (omega (arith, h)) e

-- ---- behind more texts a column is the same

text_kept : (texts more : List (List ℕ)) (place : ℕ) → place < length texts → text_at (texts ++ more) place ≡ text_at texts place
text_kept texts more place h = get_or_append_left texts more [] place h

kind_kept : (texts more : List (List ℕ)) (place : ℕ) (kind : PackedKind) → place + text_count kind ≤ length texts → kind_at (texts ++ more) place kind ≡ kind_at texts place kind
kind_kept texts more place (packed.Base base) h = refl
kind_kept texts more place packed.Enum h = rw (text_kept texts more place (omega (arith, h)), text_kept texts more (place + 1) (omega (arith, h))) refl
kind_kept texts more place (packed.Dropped bytes align) h = refl

missing_kept : (texts more : List (List ℕ)) (place : ℕ) (has : Bool) → place + missing_count has ≤ length texts → missing_at (texts ++ more) place has ≡ missing_at texts place has
missing_kept texts more place false h = refl
missing_kept texts more place true h = rw (text_kept texts more place (omega (arith, h))) refl

column_kept : (texts more : List (List ℕ)) (c : Packed) → end_of c ≤ length texts → column_at (texts ++ more) c ≡ column_at texts c
column_kept texts more c h =
    rw (text_kept texts more c.first (omega (arith, h)), kind_kept texts more (c.first + 1) c.kind (omega (arith, h)), missing_kept texts more (c.first + 1 + text_count c.kind) c.has_missing h) refl

columns_kept : (texts more : List (List ℕ)) (cs : List Packed) → list_all (ends_by (length texts)) cs ≡ true → map (column_at (texts ++ more)) cs ≡ map (column_at texts) cs
columns_kept texts more cs h =
    map_same (ends_by (length texts)) (column_at (texts ++ more)) (column_at texts) (λ c ends. column_kept texts more c (leb-true (end_of c) (length texts) ends)) cs h

-- ---- a column that comes behind them

text_behind : (texts more : List (List ℕ)) (place n : ℕ) → place ≡ length texts + n → text_at (texts ++ more) place ≡ text_at more n
text_behind texts more place n e = rw e (get_or-append-add texts more n [])

text_first : (texts more : List (List ℕ)) (t : List ℕ) → text_at (texts ++ t ∷ more) (length texts) ≡ t
text_first texts more t = get_or-append_seam texts t more []

back_of : (texts : List (List ℕ)) (name : List ℕ) (kind : NamedKind) (missing : Option (List ℕ))
    → column_at (texts ++ texts_of (record { name = name; kind = kind; missing = missing })) (packed_as (length texts) (record { name = name; kind = kind; missing = missing })) ≡ record { name = name; kind = kind; missing = missing }
back_of texts name (named.Base base) None = rw (text_first texts [] name) refl
back_of texts name (named.Base base) (Some b) = rw (text_first texts (b ∷ []) name, text_behind texts (name ∷ b ∷ []) (length texts + 1 + 0) 1 (omega arith)) refl
back_of texts name (named.Dropped bytes align) None = rw (text_first texts [] name) refl
back_of texts name (named.Dropped bytes align) (Some b) = rw (text_first texts (b ∷ []) name, text_behind texts (name ∷ b ∷ []) (length texts + 1 + 0) 1 (omega arith)) refl
back_of texts name (named.Enum schema kind) None =
    rw (text_first texts (schema ∷ kind ∷ []) name, text_behind texts (name ∷ schema ∷ kind ∷ []) (length texts + 1) 1 (omega arith), text_behind texts (name ∷ schema ∷ kind ∷ []) (length texts + 1 + 1) 2 (omega arith)) refl
back_of texts name (named.Enum schema kind) (Some b) =
    rw (text_first texts (schema ∷ kind ∷ b ∷ []) name, text_behind texts (name ∷ schema ∷ kind ∷ b ∷ []) (length texts + 1) 1 (omega arith), text_behind texts (name ∷ schema ∷ kind ∷ b ∷ []) (length texts + 1 + 1) 2 (omega arith), text_behind texts (name ∷ schema ∷ kind ∷ b ∷ []) (length texts + 1 + 2) 3 (omega arith)) refl

-- all columns, with one more
pub added : (texts all : List (List ℕ)) (cs more : List Packed) (n : ℕ) (p : Packed) (c : ColumnText) → list_all (ends_by (length texts)) cs ≡ true
    → n ≡ length texts → p ≡ packed_as n c → all ≡ texts ++ texts_of c → more ≡ cs ++ p ∷ [] → map (column_at all) more ≡ map (column_at texts) cs ++ c ∷ []
added texts all cs more n p c h i g e f =
    rw (e, f, g, i, map-append (column_at (texts ++ texts_of c)) cs (packed_as (length texts) c ∷ []), columns_kept texts (texts_of c) cs h, back_of texts c.name c.kind c.missing) refl

-- ---- where the texts of columns end

kind_length : (kind : NamedKind) → length (kind_texts kind) ≡ text_count (packed_kind kind)
kind_length (named.Base base) = refl
kind_length (named.Enum schema kind) = refl
kind_length (named.Dropped bytes align) = refl

missing_length : (missing : Option (List ℕ)) → length (missing_texts missing) ≡ missing_count (is_some missing)
missing_length None = refl
missing_length (Some bytes) = refl

texts_length : (c : ColumnText) → length (texts_of c) ≡ suc (text_count (packed_kind c.kind) + missing_count (is_some c.missing))
texts_length c = rw (length-append (kind_texts c.kind) (missing_texts c.missing), kind_length c.kind, missing_length c.missing) refl

ends_more : (m n : ℕ) (cs : List Packed) → m ≤ n → list_all (ends_by m) cs ≡ true → list_all (ends_by n) cs ≡ true
ends_more m n cs h all = all-mono (ends_by m) (ends_by n) (λ c ends. le-leb (end_of c) n (omega (arith, h, leb-true (end_of c) m ends))) cs all

pub added_end : (texts all : List (List ℕ)) (cs more : List Packed) (n : ℕ) (p : Packed) (c : ColumnText) → list_all (ends_by (length texts)) cs ≡ true
    → n ≡ length texts → p ≡ packed_as n c → all ≡ texts ++ texts_of c → more ≡ cs ++ p ∷ [] → list_all (ends_by (length all)) more ≡ true
added_end texts all cs more n p c h i g e f =
    let long : length all ≡ length texts + length (texts_of c) = rw e (length-append texts (texts_of c)) in
    let count = texts_length c in
    rw (f, g, i) (all-push (ends_by (length all)) cs (packed_as (length texts) c) (ends_more (length texts) (length all) cs (omega (arith, long)) h) (le-leb (end_of (packed_as (length texts) c)) (length all) (omega (arith, long, count))))
