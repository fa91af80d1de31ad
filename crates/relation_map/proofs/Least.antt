-- The least OID with a fault.
use Rattle.std.proofs.Common.{◌≡◌, ◌∙◌, ℕ, ◌+◌, ◌<◌, ◌≤◌, Bool, true, false, ◌||◌, List, [], ◌∷◌, drop, Option, Some, None, IfSome, IfNone, refl, sym, ap, subst, nat_eq, arith}
use Rattle.std.specs.Prelude.{slice_get, is_some, nat_lt, if◌then◌else◌}
use Rattle.std.specs.List.{find, list_any}
use Rattle.std.proofs.lemmas.Bool.{eqb-true, ltb-true, ltb-false}
use Rattle.relation_map.specs.declared.error.MapError.{MapError}
use Rattle.relation_map.specs.declared.named.Named.{Named}
use Rattle.relation_map.specs.Named.{named_has}
use Rattle.relation_map.specs.Pairs.{fault_between, fault_among, lesser, least_fault, IsLeastFault}
use Rattle.relation_map.proofs.Lists.{split_at, found_any}

-- below the least so far
abbrev pub Below : Option ℕ → ℕ → Type 0
Below None q = Unit {0}
Below (Some least) q = q < least

abbrev pub IsFaulty : (ℕ → Option MapError) → Option ℕ → Type 0
IsFaulty faults None = Unit {0}
IsFaulty faults (Some least) = is_some (faults least) ≡ true

nothing : {X : Type 0} (found : Option X) → is_some found ≡ false → found ≡ None
nothing None e = refl
nothing (Some x) e = absurd (cc e)

module _ (faults : ℕ → Option MapError) where
  pub least_next : (xs : List Named) (i : ℕ) (x : Named) (least next total : Option ℕ) → slice_get xs i ≡ Some x → next ≡ lesser least x.oid (is_some (faults x.oid))
      → least_fault faults (drop i xs) least ≡ total → least_fault faults (drop (i + 1) xs) next ≡ total
  least_next xs i x least next total h is so_far =
      ap (least_fault faults (drop (i + 1) xs)) is ∙ ap (λ l. least_fault faults l least) (sym (split_at xs i x h)) ∙ so_far

  lesser_down : (least : Option ℕ) (oid q : ℕ) (b : Bool) → Below (lesser least oid b) q → Below least q
  lesser_down None oid q b below = tt
  lesser_down (Some least) oid q false below = below
  lesser_down (Some least) oid q true below = by (nat_lt oid least) refl below
    where
      by : (b : Bool) → nat_lt oid least ≡ b → Below (if b then Some oid else Some least) q → q < least
      by true e below = let lt : oid < least = ltb-true oid least e in omega arith
      by false e below = below

  lesser_here : (least : Option ℕ) (oid q : ℕ) → Below (lesser least oid true) q → q < oid
  lesser_here None oid q below = below
  lesser_here (Some least) oid q below = by (nat_lt oid least) refl below
    where
      by : (b : Bool) → nat_lt oid least ≡ b → Below (if b then Some oid else Some least) q → q < oid
      by true e below = below
      by false e below = let le : least ≤ oid = ltb-false oid least e in omega arith

  lesser_faulty : (least : Option ℕ) (oid : ℕ) (b : Bool) → is_some (faults oid) ≡ b → IsFaulty faults least → IsFaulty faults (lesser least oid b)
  lesser_faulty None oid true is faulty = is
  lesser_faulty None oid false is faulty = tt
  lesser_faulty (Some least) oid false is faulty = faulty
  lesser_faulty (Some least) oid true is faulty = by (nat_lt oid least)
    where
      by : (b : Bool) → IsFaulty faults (if b then Some oid else Some least)
      by true = is
      by false = faulty

  pub least_down : (xs : List Named) (least : Option ℕ) (q : ℕ) → Below (least_fault faults xs least) q → Below least q
  least_down [] least q below = below
  least_down (x ∷ xs) least q below = lesser_down least x.oid q (is_some (faults x.oid)) (least_down xs (lesser least x.oid (is_some (faults x.oid))) q below)

  pub least_faulty : (xs : List Named) (least : Option ℕ) → IsFaulty faults least → IsFaulty faults (least_fault faults xs least)
  least_faulty [] least faulty = faulty
  least_faulty (x ∷ xs) least faulty = least_faulty xs (lesser least x.oid (is_some (faults x.oid))) (lesser_faulty least x.oid (is_some (faults x.oid)) refl faulty)

  clear_here : (least : Option ℕ) (oid q : ℕ) (b : Bool) → is_some (faults oid) ≡ b → oid ≡ q → Below (lesser least oid b) q → faults q ≡ None
  clear_here least oid q true is same below = let lt : q < oid = lesser_here least oid q below in absurd (omega arith)
  clear_here least oid q false is same below = ap faults (sym same) ∙ nothing (faults oid) is

  -- each of them below the least has none
  pub least_clear : (xs : List Named) (least : Option ℕ) (q : ℕ) → Below (least_fault faults xs least) q → list_any (named_has q) xs ≡ true → faults q ≡ None
  least_clear [] least q below there = absurd (cc there)
  least_clear (x ∷ xs) least q below there = by (nat_eq x.oid q) refl (least_clear xs (lesser least x.oid (is_some (faults x.oid))) q below) there
    where
      by : (b : Bool) → nat_eq x.oid q ≡ b → (list_any (named_has q) xs ≡ true → faults q ≡ None) → (b || list_any (named_has q) xs) ≡ true → faults q ≡ None
      by true e later there = clear_here least x.oid q (is_some (faults x.oid)) refl (eqb-true x.oid q e) (least_down xs (lesser least x.oid (is_some (faults x.oid))) q below)
      by false e later there = later there

module _ (database : ℕ) (old new : List Named) where
  abbrev among : ℕ → Option MapError
  among oid = fault_among database old new oid

  clear_by : (q : ℕ) (of_old of_new : Option Named) → find (named_has q) old ≡ of_old → find (named_has q) new ≡ of_new
      → (list_any (named_has q) old ≡ true → among q ≡ None) → (list_any (named_has q) new ≡ true → among q ≡ None) → among q ≡ None
  clear_by q (Some x) of_new is_old is_new in_old in_new = in_old (found_any (named_has q) old x is_old)
  clear_by q None (Some x) is_old is_new in_old in_new = in_new (found_any (named_has q) new x is_new)
  clear_by q None None is_old is_new in_old in_new = (λ i. fault_between database q (is_old i) (is_new i))

  clear : (least of_old : Option ℕ) → of_old ≡ least_fault among old None → least ≡ least_fault among new of_old → (q : ℕ) → Below least q → among q ≡ None
  clear least of_old first second q below =
      let below_both : Below (least_fault among new of_old) q = subst (λ l. Below l q) second below in
      let below_old : Below of_old q = least_down among new of_old q below_both in
      clear_by q (find (named_has q) old) (find (named_has q) new) refl refl
      (λ there. least_clear among old None q (subst (λ l. Below l q) first below_old) there)
      (λ there. least_clear among new of_old q below_both there)

  pub none_faulty : (least of_old : Option ℕ) → of_old ≡ least_fault among old None → least ≡ least_fault among new of_old → least ≡ None → (oid : ℕ) → among oid ≡ None
  none_faulty least of_old first second none oid = clear least of_old first second oid (subst (λ l. Below l oid) (sym none) tt)

  faulty : (least of_old : Option ℕ) → of_old ≡ least_fault among old None → least ≡ least_fault among new of_old → IsFaulty among least
  faulty least of_old first second =
      subst (IsFaulty among) (sym second) (least_faulty among new of_old (subst (IsFaulty among) (sym first) (least_faulty among old None tt)))

  pub least_is : (least of_old : Option ℕ) (oid : ℕ) (fault : Option MapError) → of_old ≡ least_fault among old None → least ≡ least_fault among new of_old → least ≡ Some oid → fault ≡ among oid
      → IfSome fault (λ error. IsLeastFault among error)
  least_is least of_old oid None first second is at = tt
  least_is least of_old oid (Some error) first second is at = record {
    oid = oid;
    is = sym at;
    least = λ other lt. clear least of_old first second other (subst (λ l. Below l other) (sym is) lt);
  }

  pub least_there : (least of_old : Option ℕ) (oid : ℕ) (fault : Option MapError) → of_old ≡ least_fault among old None → least ≡ least_fault among new of_old → least ≡ Some oid → fault ≡ among oid
      → IfNone fault ((other : ℕ) → among other ≡ None)
  least_there least of_old oid (Some error) first second is at = tt
  least_there least of_old oid None first second is at =
      let there : is_some (among oid) ≡ true = subst (IsFaulty among) is (faulty least of_old first second) in
      let none : is_some (among oid) ≡ false = ap is_some (sym at) in
      absurd (cc (there, none))
