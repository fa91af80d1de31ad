-- What it says that an object isn't refused.
use Rattle.std.proofs.Common.{◌≡◌, ℕ, Bool, true, false, List, [], ◌∷◌, Some, None, refl, ap, ◌∙◌, arith, rules}
use Rattle.std.specs.Prelude.{◌≢◌, Option, not, ◌&&◌, ◌||◌, nat_lt, nat_le, nat_eq, map}
use Rattle.std.specs.List.{list_any, list_all}
use Rattle.std.proofs.lemmas.Bool.Decides.{nat_tests}
use Rattle.catalog.specs.declared.error.CatalogError.TheVariants.{NoSuch, OutOfMemory}
use Rattle.catalog.specs.declared.enums.Label.{Label}
use Rattle.catalog.specs.declared.enums.EnumType.{EnumType}
use Rattle.catalog.specs.Lists.{are_distinct, clash}
use Rattle.catalog.specs.Cluster.{DatabaseObjects}
use Rattle.catalog.specs.Spaces.{FilePlace, same_place, place_in}
use Rattle.catalog.specs.Forms.{is_32_bits}
use Rattle.catalog.specs.Refusals.{first_cause, label_refusal_in, is_system_number}
use Rattle.catalog.specs.Valid.{is_user_number, is_user_place}
use Rattle.catalog.proofs.ListLemmas.{and_both, and_left, and_right, or_left, or_right, or_both, not_false}
use Rattle.catalog.proofs.SpaceLemmas.{any_map}

pub record NoCause (no_such too_many oid_taken name_taken file_taken : Bool) : Type 0 where
  pub stands : no_such ≡ false
  pub few : too_many ≡ false
  pub oids : oid_taken ≡ false
  pub names : name_taken ≡ false
  pub files : file_taken ≡ false

pub no_cause : (a b c d e : Bool) → first_cause a b c d e ≡ None → NoCause a b c d e
unfolding first_cause
no_cause true b c d e h = cc
no_cause false true c d e h = cc
no_cause false false true d e h = cc
no_cause false false false true e h = cc
no_cause false false false false true h = cc
no_cause false false false false false h = record { stands = refl; few = refl; oids = refl; names = refl; files = refl }

pub absent : (b c d e : Bool) → first_cause true b c d e ≡ Some NoSuch
unfolding first_cause
absent b c d e = refl

-- want of memory refuses no object
pub never_memory : (a b c d e : Bool) → first_cause a b c d e ≢ Some OutOfMemory
unfolding first_cause
never_memory true b c d e h = cc
never_memory false true c d e h = cc
never_memory false false true d e h = cc
never_memory false false false true e h = cc
never_memory false false false false true h = cc
never_memory false false false false false h = cc

pub label_never_memory : (d : DatabaseObjects) (label : Label) (kind : Option EnumType) → label_refusal_in d label kind ≢ Some OutOfMemory
label_never_memory d label None h = cc
label_never_memory d label (Some kind) h = never_memory _ _ _ _ _ h

pub same_causes : {a a' b b' c c' d d' e e' : Bool} → a ≡ a' → b ≡ b' → c ≡ c' → d ≡ d' → e ≡ e' → first_cause a b c d e ≡ first_cause a' b' c' d' e'
same_causes p q r s t = λ i. first_cause (p i) (q i) (r i) (s i) (t i)

pub and_false : (a : Bool) → (a && false) ≡ false
and_false true = refl
and_false false = refl

pub user_number : (n : ℕ) → is_system_number n ≡ false → is_32_bits n ≡ true → is_user_number n ≡ true
user_number n h k = and_both (not (is_system_number n)) (is_32_bits n) (ap not h) k

pub user_numbers : (ns : List ℕ) → list_any is_system_number ns ≡ false → list_all is_32_bits ns ≡ true → list_all is_user_number ns ≡ true
user_numbers [] h k = refl
user_numbers (n ∷ ns) h k =
    and_both (is_user_number n) (list_all is_user_number ns)
    (user_number n (or_left _ _ h) (and_left _ _ k)) (user_numbers ns (or_right _ _ h) (and_right _ _ k))

pub user_places : (tablespace : ℕ) (ns : List ℕ) → list_all is_user_number ns ≡ true → list_all is_user_place (map (place_in tablespace) ns) ≡ true
user_places tablespace [] h = refl
user_places tablespace (n ∷ ns) h =
    and_both (is_user_number n) (list_all is_user_place (map (place_in tablespace) ns)) (and_left _ _ h) (user_places tablespace ns (and_right _ _ h))

nat_eq-itself : (n : ℕ) → nat_eq n n ≡ true
nat_eq-itself n = search rules

distinct_places : (tablespace : ℕ) (ns : List ℕ) → are_distinct same_place (map (place_in tablespace) ns) ≡ are_distinct nat_eq ns
distinct_places tablespace [] = refl
distinct_places tablespace (n ∷ ns) =
    rw (any_map (same_place (place_in tablespace n)) (place_in tablespace) ns, nat_eq-itself tablespace, distinct_places tablespace ns) refl

pub places_free : (tablespace : ℕ) (ns : List ℕ) (used : List FilePlace) → (not (are_distinct nat_eq ns) || list_any (λ n. list_any (same_place (place_in tablespace n)) used) ns) ≡ false → clash same_place (map (place_in tablespace) ns) used ≡ false
places_free tablespace ns used h =
    or_both _ _ (ap not (distinct_places tablespace ns ∙ not_false _ (or_left _ _ h)))
    (any_map (λ x. list_any (same_place x) used) (place_in tablespace) ns ∙ or_right _ _ h)

pub not_above : (limit n : ℕ) → nat_lt limit n ≡ false → nat_le n limit ≡ true
not_above limit n h = grind (arith, nat_tests)
