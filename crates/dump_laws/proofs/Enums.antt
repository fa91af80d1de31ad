-- The statements of a database's enums and their labels lead to them.
use Rattle.std.proofs.Common.{◌≡◌, ℕ, true, false, List, [], ◌∷◌, ◌++◌, map, Option, Some, None, Ok, refl, sym, ap, subst, ◌∙◌}
use Rattle.std.specs.Prelude.{nat_eq, option_map}
use Rattle.std.specs.List.{list_any, flat_map}
use Rattle.catalog.specs.declared.owners.Role.{Role}
use Rattle.catalog.specs.declared.enums.EnumType.{EnumType}
use Rattle.catalog.specs.declared.enums.Label.{Label}
use Rattle.catalog.specs.Lists.{are_distinct}
use Rattle.catalog.specs.Cluster.{DatabaseObjects, Cluster}
use Rattle.catalog.specs.Spaces.{enum_has, same_name, enum_name}
use Rattle.catalog.specs.Lookups.{enum_is}
use Rattle.catalog.specs.Forms.{has_role}
use Rattle.catalog.specs.Refusals.{enum_refusal, label_refusal}
use Rattle.catalog.specs.Changes.{with_enum, add_enum, labelled, with_label, add_label}
use Rattle.catalog.proofs.ListLemmas.{and_left, or_left, or_both, not_false, nat_eq-turned}
use Rattle.catalog.proofs.SpaceLemmas.{any_map}
use Rattle.catalog.proofs.CauseLemmas.{no_cause}
use Rattle.catalog.proofs.DatabaseLemmas.{same_name-turned}
use Rattle.catalog_laws.specs.Unrefused.{EachBehind, with_enums}
use Rattle.catalog_laws.proofs.Behind
use Rattle.dump_grammar.specs.declared.statement.NextKind.TheVariants as kinds
use Rattle.dump_grammar.specs.declared.statement.Statement.TheVariants.{CreateEnum, AddLabel}
use Rattle.dump_grammar.specs.Canonical.{role_name, label_statements, enum_statements}
use Rattle.dump_rules.specs.Rules.{State, no_numbers, found, taken, role_oid, enum_oid, step, Replays}
use Rattle.dump_laws.proofs.Lookups.{same_name-itself}
use Rattle.dump_laws.proofs.Replaying.{each_replays}
use Rattle.dump_laws.proofs.Databases.{find_at, change_at, nat_eq-itself, with_one, numbered_within, within, IsPlace, step_number, found_connected, found_role, changed_within}

-- ---- an enum without its labels

abbrev cut : EnumType → List Label → EnumType
cut k labels = record k { labels = labels }

bare_free : (roles : List Role) (d : DatabaseObjects) (k : EnumType) → enum_refusal roles d k ≡ None → enum_refusal roles d (cut k []) ≡ None
bare_free roles d k free =
    let f = no_cause _ _ _ _ _ free in
    Behind.uncaused f.stands refl (or_both _ _ (or_left _ _ f.oids) refl) (or_both _ _ (or_left _ _ f.names) refl) refl

step_enum : (c : Cluster) (before after : List DatabaseObjects) (d : DatabaseObjects) (k : EnumType) → IsPlace c before d.oid → enum_refusal c.roles d k ≡ None
    → step (numbered_within c before after d (record no_numbers { type_oid = Some k.oid })) (CreateEnum k.schema k.name (role_name c.roles k.owner)) ≡ Ok (within c before after (add_enum (cut k []) d))
unfolding step
step_enum c before after d k place free =
    let here : State = within c before after d in
    let owned : has_role c.roles k.owner ≡ true = and_left _ _ (not_false _ (no_cause _ _ _ _ _ free).stands) in
    ap (taken here.session)
    (found_connected c before after d (record no_numbers { type_oid = Some k.oid }) (λ (x : DatabaseObjects). found (role_oid here.catalog (role_name c.roles k.owner)) (λ o. with_enum here.catalog x.oid (record k { owner = o; labels = [] }))) place.alone
    ∙ found_role here.catalog k.owner (λ o. with_enum here.catalog d.oid (record k { owner = o; labels = [] })) place.roles_differ owned
    ∙ changed_within c before after d (λ (x : DatabaseObjects). enum_refusal c.roles x (cut k [])) (add_enum (cut k [])) place.alone (bare_free c.roles d k free))

-- ---- its labels

-- no enum before has that OID or that name
record IsNewEnum (ks : List EnumType) (k : EnumType) : Type 0 where
  unused : list_any (enum_has k.oid) ks ≡ false
  unnamed : list_any (enum_is k.schema k.name) ks ≡ false

step_label : (c : Cluster) (before after : List DatabaseObjects) (d : DatabaseObjects) (ks : List EnumType) (k : EnumType) (labels : List Label) (l : Label) → IsPlace c before d.oid → IsNewEnum ks k
    → label_refusal (with_enums d (ks ++ cut k labels ∷ [])) k.oid l ≡ None
    → step (numbered_within c before after (with_enums d (ks ++ cut k labels ∷ [])) (record no_numbers { label = Some l.oid })) (AddLabel k.schema k.name l.text) ≡ Ok (within c before after (with_enums d (ks ++ cut k (labels ++ l ∷ []) ∷ [])))
unfolding step
step_label c before after d ks k labels l place new free =
    let whole : DatabaseObjects = with_enums d (ks ++ cut k labels ∷ []) in
    let here : State = within c before after whole in
    let known : enum_oid whole k.schema k.name ≡ Some k.oid =
    ap (option_map (λ (x : EnumType). x.oid)) (find_at (enum_is k.schema k.name) ks (cut k labels) [] new.unnamed (same_name-itself (enum_name k))) in
    ap (taken here.session)
    (found_connected c before after whole (record no_numbers { label = Some l.oid }) (λ (x : DatabaseObjects). found (enum_oid x k.schema k.name) (λ n. with_label here.catalog x.oid n l)) place.alone
    ∙ ap (λ (o : Option ℕ). found o (λ n. with_label here.catalog d.oid n l)) known
    ∙ changed_within c before after whole (λ (x : DatabaseObjects). label_refusal x k.oid l) (add_label k.oid l) place.alone free
    ∙ ap (λ (x : List EnumType). Ok (with_one c before after (with_enums d x))) (change_at (enum_has k.oid) (labelled l) ks (cut k labels) [] new.unused (nat_eq-itself k.oid)))

labels_replay : (c : Cluster) (before after : List DatabaseObjects) (d : DatabaseObjects) (ks : List EnumType) (k : EnumType) → IsPlace c before d.oid → IsNewEnum ks k
    → EachBehind (λ labels label. label_refusal (with_enums d (ks ++ cut k labels ∷ [])) k.oid label ≡ None) k.labels
    → Replays (within c before after (with_enums d (ks ++ cut k [] ∷ []))) (flat_map (label_statements k) k.labels) (within c before after (with_enums d (ks ++ k ∷ [])))
labels_replay c before after d ks k place new free =
    each_replays (λ labels. within c before after (with_enums d (ks ++ cut k labels ∷ []))) (label_statements k) [] k.labels
    (λ labels l more e. (
      numbered_within c before after (with_enums d (ks ++ cut k labels ∷ [])) (record no_numbers { label = Some l.oid }),
      step_number c before after (with_enums d (ks ++ cut k labels ∷ [])) no_numbers kinds.Label l.oid,
      (within c before after (with_enums d (ks ++ cut k (labels ++ l ∷ []) ∷ [])), step_label c before after d ks k labels l place new (free labels l more e), refl),
    ))

-- ---- all enums

oid_turned : (oid : ℕ) (ks : List EnumType) → list_any (enum_has oid) ks ≡ list_any (λ (x : EnumType). nat_eq oid x.oid) ks
oid_turned oid [] = refl
oid_turned oid (k ∷ ks) = rw (nat_eq-turned k.oid oid, oid_turned oid ks) refl

new_enum : (ks : List EnumType) (k : EnumType) (more : List EnumType) → are_distinct nat_eq (map (λ (x : EnumType). x.oid) (ks ++ k ∷ more)) ≡ true → are_distinct same_name (map enum_name (ks ++ k ∷ more)) ≡ true → IsNewEnum ks k
new_enum ks k more oids names =
    record {
      unused = oid_turned k.oid ks ∙ sym (any_map (nat_eq k.oid) (λ (x : EnumType). x.oid) ks) ∙ Behind.end_free nat_eq nat_eq-turned (λ (x : EnumType). x.oid) [] ks k more oids;
      unnamed = sym (any_map (same_name (enum_name k)) enum_name ks) ∙ Behind.end_free same_name same_name-turned enum_name [] ks k more names;
    }

enum_replays : (c : Cluster) (before after : List DatabaseObjects) (d : DatabaseObjects) (ks : List EnumType) (k : EnumType) → IsPlace c before d.oid → IsNewEnum ks k
    → enum_refusal c.roles (with_enums d ks) k ≡ None → EachBehind (λ labels label. label_refusal (with_enums d (ks ++ cut k labels ∷ [])) k.oid label ≡ None) k.labels
    → Replays (within c before after (with_enums d ks)) (enum_statements c.roles k) (within c before after (with_enums d (ks ++ k ∷ [])))
enum_replays c before after d ks k place new free labels_free = (
  numbered_within c before after (with_enums d ks) (record no_numbers { type_oid = Some k.oid }),
  step_number c before after (with_enums d ks) no_numbers kinds.TypeOid k.oid,
  (within c before after (with_enums d (ks ++ cut k [] ∷ [])), step_enum c before after (with_enums d ks) k place free, labels_replay c before after d ks k place new labels_free),
)

pub enums_replay : (c : Cluster) (before after : List DatabaseObjects) (d : DatabaseObjects) → IsPlace c before d.oid
    → are_distinct nat_eq (map (λ (x : EnumType). x.oid) d.enums) ≡ true → are_distinct same_name (map enum_name d.enums) ≡ true
    → EachBehind (λ ks kind. enum_refusal c.roles (with_enums d ks) kind ≡ None) d.enums
    → EachBehind (λ ks kind. EachBehind (λ labels label. label_refusal (with_enums d (ks ++ record kind { labels = labels } ∷ [])) kind.oid label ≡ None) kind.labels) d.enums
    → Replays (within c before after (with_enums d [])) (flat_map (enum_statements c.roles) d.enums) (within c before after (with_enums d d.enums))
enums_replay c before after d place oids names free labels_free =
    each_replays (λ ks. within c before after (with_enums d ks)) (enum_statements c.roles) [] d.enums
    (λ ks k more e.
    enum_replays c before after d ks k place
    (new_enum ks k more (subst (λ (l : List EnumType). are_distinct nat_eq (map (λ (x : EnumType). x.oid) l) ≡ true) e oids) (subst (λ (l : List EnumType). are_distinct same_name (map enum_name l) ≡ true) e names))
    (free ks k more e) (labels_free ks k more e))
