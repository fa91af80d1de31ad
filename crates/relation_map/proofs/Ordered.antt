-- The databases of two clusters, gone through one after another.
use Rattle.std.proofs.Common.{◌≡◌, ◌≢◌, ◌∙◌, ℕ, zero, suc, ◌+◌, ◌<◌, ◌≤◌, Bool, true, false, not, cond, ◌||◌, ◌&&◌, List, [], ◌∷◌, ◌++◌, map, drop, take, length, Option, Some, None, Result, Ok, Err, IfErr, refl, sym, ap, subst, append_assoc, nat_eq, arith}
use Rattle.std.specs.Prelude.{slice_get, is_some}
use Rattle.std.specs.List.{AllByRecursion, find, filter, list_any}
use Rattle.std.proofs.lemmas.Bool.{eqb-true, eq-eqb}
use Rattle.std.specs.Prelude.{bytes_eq}
use Rattle.std.proofs.lemmas.Slice.Eq.{bytes_eq-Decides}
use Rattle.std.proofs.lemmas.List.{map-append, take_all}
use Rattle.std.proofs.lemmas.List.Elements.{filter-append}
use Rattle.catalog.specs.Lists.{are_distinct}
use Rattle.catalog.specs.Cluster.{DatabaseObjects, Cluster}
use Rattle.catalog.specs.Spaces.{database_has, database_oids}
use Rattle.catalog.specs.Valid.{IsValid}
use Rattle.catalog.proofs.ListLemmas.{and_left, and_right, not_true}
use Rattle.catalog.proofs.SpaceLemmas.{any_map}
use Rattle.relation_map.specs.declared.error.MapError.{MapError}
use Rattle.relation_map.specs.declared.error.MapError.TheVariants.{Unmatched, NameDiffers, OutOfMemory}
use Rattle.relation_map.specs.declared.named.Named.{Named}
use Rattle.relation_files.specs.Places.{Site}
use Rattle.relation_map.specs.Named.{relations_named, named_has, same_named}
use Rattle.relation_map.specs.Pairs.{entry_among, database_entries, relations_if, relations_at, fault_between, fault_among, fault_at, HasNoFault, AreMatched, IsLeastFault, IsFirstFaultOf, IsFirstFault, new_alone, database_order}
use Rattle.relation_map.proofs.Lists.{split_at, whole_at, found_any, found_passes, number_same}

-- ---- what a list with distinct numbers has of one number

module _ {A : Type 0} (key : A → ℕ) where
  not_there : (xs : List A) (i : ℕ) (x : A) (k : ℕ) → list_any (nat_eq k) (map key xs) ≡ false → slice_get xs i ≡ Some x → nat_eq k (key x) ≡ false
  not_there xs i x k none h = by (nat_eq k (key x)) refl
    where
      any_in : (ys : List A) (j : ℕ) → slice_get ys j ≡ Some x → nat_eq k (key x) ≡ true → list_any (nat_eq k) (map key ys) ≡ true
      any_in [] j h e = absurd (cc h)
      any_in (y ∷ ys) zero h e = let same : y ≡ x = cc h in ap (λ z. nat_eq k (key z) || list_any (nat_eq k) (map key ys)) same ∙ ap (λ b. b || list_any (nat_eq k) (map key ys)) e
      any_in (y ∷ ys) (suc j) h e = by_first (nat_eq k (key y)) (any_in ys j h e)
        where
          by_first : (b : Bool) → list_any (nat_eq k) (map key ys) ≡ true → (b || list_any (nat_eq k) (map key ys)) ≡ true
          by_first true there = refl
          by_first false there = there

      by : (b : Bool) → nat_eq k (key x) ≡ b → nat_eq k (key x) ≡ false
      by true e = let there = any_in xs i h e in absurd (cc (there, none))
      by false e = e

  pub find_distinct : (xs : List A) (i : ℕ) (x : A) → are_distinct nat_eq (map key xs) ≡ true → slice_get xs i ≡ Some x → find (λ y. nat_eq (key y) (key x)) xs ≡ Some x
  find_distinct [] i x distinct h = absurd (cc h)
  find_distinct (y ∷ ys) zero x distinct h =
      let same : y ≡ x = cc h in
      ap (λ b. cond b (Some y) (find (λ z. nat_eq (key z) (key x)) ys)) (ap (λ z. nat_eq (key z) (key x)) same ∙ number_same (key x)) ∙ ap Some same
  find_distinct (y ∷ ys) (suc i) x distinct h =
      let others : list_any (nat_eq (key y)) (map key ys) ≡ false = not_true (list_any (nat_eq (key y)) (map key ys)) (and_left (not (list_any (nat_eq (key y)) (map key ys))) (are_distinct nat_eq (map key ys)) distinct) in
      let rest : are_distinct nat_eq (map key ys) ≡ true = and_right (not (list_any (nat_eq (key y)) (map key ys))) (are_distinct nat_eq (map key ys)) distinct in
      ap (λ b. cond b (Some y) (find (λ z. nat_eq (key z) (key x)) ys)) (not_there ys i x (key y) others h) ∙ find_distinct ys i x rest h

-- ---- all of them

all_append : (P : ℕ → Type 0) (xs ys : List ℕ) → AllByRecursion P xs → AllByRecursion P ys → AllByRecursion P (xs ++ ys)
all_append P [] ys front back = back
all_append P (x ∷ xs) ys front back = (front.0, all_append P xs ys front.1 back)

all_has : (P : ℕ → Type 0) (xs : List ℕ) (q : ℕ) → AllByRecursion P xs → list_any (nat_eq q) xs ≡ true → P q
all_has P [] q all there = absurd (cc there)
all_has P (x ∷ xs) q all there = by (nat_eq q x) refl (all_has P xs q all.1) there
  where
    by : (b : Bool) → nat_eq q x ≡ b → (list_any (nat_eq q) xs ≡ true → P q) → (b || list_any (nat_eq q) xs) ≡ true → P q
    by true e later there = subst P (sym (eqb-true q x e)) all.0
    by false e later there = later there

taken_more : {A : Type 0} (xs : List A) (i : ℕ) (x : A) → slice_get xs i ≡ Some x → take (i + 1) xs ≡ take i xs ++ x ∷ []
taken_more [] i x h = absurd (cc h)
taken_more (y ∷ ys) zero x h = let same : y ≡ x = cc h in ap (λ z. z ∷ []) same
taken_more (y ∷ ys) (suc i) x h = let next : suc i + 1 ≡ suc (i + 1) = omega arith in ap (λ k. take k (y ∷ ys)) next ∙ ap (λ l. y ∷ l) (taken_more ys i x h)

-- one database more
pub all_next : (P : ℕ → Type 0) (ds : List DatabaseObjects) (i : ℕ) (d : DatabaseObjects) → slice_get ds i ≡ Some d → P d.oid → AllByRecursion P (database_oids (take i ds)) → AllByRecursion P (database_oids (take (i + 1) ds))
all_next P ds i d h here so_far =
    subst (λ l. AllByRecursion P (database_oids l)) (sym (taken_more ds i d h))
    (subst (AllByRecursion P) (sym (map-append (λ (e : DatabaseObjects). e.oid) (take i ds) (d ∷ [])))
    (all_append P (database_oids (take i ds)) (d.oid ∷ []) so_far (here, tt)))

pub all_end : (P : ℕ → Type 0) (ds : List DatabaseObjects) (n : ℕ) → length ds ≤ n → AllByRecursion P (database_oids (take n ds)) → AllByRecursion P (database_oids ds)
all_end P ds n le all = subst (λ l. AllByRecursion P (database_oids l)) (take_all n ds le) all

pub first_at : (faults : ℕ → ℕ → Option MapError) (ds : List DatabaseObjects) (i : ℕ) (d : DatabaseObjects) (error : MapError) → slice_get ds i ≡ Some d → AllByRecursion (λ earlier. (oid : ℕ) → faults earlier oid ≡ None) (database_oids (take i ds))
    → IsLeastFault (faults d.oid) error → IsFirstFaultOf faults (database_oids ds) error
first_at faults ds i d error h none_before first = record {
  before = database_oids (take i ds);
  database = d.oid;
  behind = database_oids (drop (i + 1) ds);
  order = ap database_oids (whole_at ds i d h) ∙ map-append (λ (e : DatabaseObjects). e.oid) (take i ds) (d ∷ drop (i + 1) ds);
  none_before = none_before;
  first = first;
}

-- ---- the databases that the old cluster lacks

abbrev pub is_alone : Cluster → DatabaseObjects → Bool
is_alone old d = not (is_some (find (database_has d.oid) old.databases))

module _ (old : Cluster) where
  alone-append : (xs ys : List DatabaseObjects) → new_alone old (xs ++ ys) ≡ new_alone old xs ++ new_alone old ys
  alone-append xs ys = ap database_oids (filter-append (is_alone old) xs ys) ∙ map-append (λ (e : DatabaseObjects). e.oid) (filter (is_alone old) xs) (filter (is_alone old) ys)

  alone_first : (d : DatabaseObjects) (ds : List DatabaseObjects) (found : Option DatabaseObjects) → find (database_has d.oid) old.databases ≡ found → found ≡ None → new_alone old (d ∷ ds) ≡ d.oid ∷ new_alone old ds
  alone_first d ds found is none =
      ap (λ o. database_oids (cond (not (is_some o)) (d ∷ filter (is_alone old) ds) (filter (is_alone old) ds))) (is ∙ none)

  all_one : (P : ℕ → Type 0) (d : DatabaseObjects) (found : Option DatabaseObjects) → find (database_has d.oid) old.databases ≡ found → (found ≡ None → P d.oid) → AllByRecursion P (database_oids (cond (not (is_some found)) (d ∷ []) []))
  all_one P d None is here = (here refl, tt)
  all_one P d (Some x) is here = tt

  pub alone_next : (P : ℕ → Type 0) (ds : List DatabaseObjects) (i : ℕ) (d : DatabaseObjects) → slice_get ds i ≡ Some d → (find (database_has d.oid) old.databases ≡ None → P d.oid)
      → AllByRecursion P (new_alone old (take i ds)) → AllByRecursion P (new_alone old (take (i + 1) ds))
  alone_next P ds i d h here so_far =
      subst (λ l. AllByRecursion P (new_alone old l)) (sym (taken_more ds i d h))
      (subst (AllByRecursion P) (sym (alone-append (take i ds) (d ∷ [])))
      (all_append P (new_alone old (take i ds)) (new_alone old (d ∷ [])) so_far (all_one P d (find (database_has d.oid) old.databases) refl here)))

  pub alone_end : (P : ℕ → Type 0) (ds : List DatabaseObjects) (n : ℕ) → length ds ≤ n → AllByRecursion P (new_alone old (take n ds)) → AllByRecursion P (new_alone old ds)
  alone_end P ds n le all = subst (λ l. AllByRecursion P (new_alone old l)) (take_all n ds le) all

  pub alone_at : (faults : ℕ → ℕ → Option MapError) (ds : List DatabaseObjects) (i : ℕ) (d : DatabaseObjects) (error : MapError) → slice_get ds i ≡ Some d → find (database_has d.oid) old.databases ≡ None
      → AllByRecursion (λ earlier. (oid : ℕ) → faults earlier oid ≡ None) (new_alone old (take i ds)) → IsLeastFault (faults d.oid) error → IsFirstFaultOf faults (new_alone old ds) error
  alone_at faults ds i d error h none none_before first = record {
    before = new_alone old (take i ds);
    database = d.oid;
    behind = new_alone old (drop (i + 1) ds);
    order = ap (new_alone old) (whole_at ds i d h) ∙ alone-append (take i ds) (d ∷ drop (i + 1) ds) ∙ ap (λ l. new_alone old (take i ds) ++ l) (alone_first d (drop (i + 1) ds) (find (database_has d.oid) old.databases) refl none);
    none_before = none_before;
    first = first;
  }

  -- a database of the new cluster is one of the old one or alone
  alone_there : (ds : List DatabaseObjects) (q : ℕ) → find (database_has q) old.databases ≡ None → list_any (database_has q) ds ≡ true → list_any (nat_eq q) (new_alone old ds) ≡ true
  alone_there [] q none there = absurd (cc there)
  alone_there (d ∷ ds) q none there = by (nat_eq d.oid q) refl (alone_there ds q none) there
    where
      more : (b : Bool) → list_any (nat_eq q) (new_alone old ds) ≡ true → list_any (nat_eq q) (database_oids (cond b (d ∷ filter (is_alone old) ds) (filter (is_alone old) ds))) ≡ true
      more false later = later
      more true later = by_first (nat_eq q d.oid)
        where
          by_first : (b : Bool) → (b || list_any (nat_eq q) (new_alone old ds)) ≡ true
          by_first true = refl
          by_first false = later

      by : (b : Bool) → nat_eq d.oid q ≡ b → (list_any (database_has q) ds ≡ true → list_any (nat_eq q) (new_alone old ds) ≡ true) → (b || list_any (database_has q) ds) ≡ true → list_any (nat_eq q) (new_alone old (d ∷ ds)) ≡ true
      by true e later there =
          let same : d.oid ≡ q = eqb-true d.oid q e in
          let lacks : find (database_has d.oid) old.databases ≡ None = ap (λ n. find (database_has n) old.databases) same ∙ none in
          ap (list_any (nat_eq q)) (alone_first d ds (find (database_has d.oid) old.databases) refl lacks)
          ∙ ap (λ b. b || list_any (nat_eq q) (new_alone old ds)) (ap (nat_eq q) same ∙ number_same q)
      by false e later there = more (is_alone old d) (later there)

-- ---- both together

pub first_front : (faults : ℕ → ℕ → Option MapError) (xs ys : List ℕ) (error : MapError) → IsFirstFaultOf faults xs error → IsFirstFaultOf faults (xs ++ ys) error
first_front faults xs ys error f = record {
  before = f.before;
  database = f.database;
  behind = f.behind ++ ys;
  order = ap (λ l. l ++ ys) f.order ∙ append_assoc f.before (f.database ∷ f.behind) ys;
  none_before = f.none_before;
  first = f.first;
}

pub first_back : (faults : ℕ → ℕ → Option MapError) (xs ys : List ℕ) (error : MapError) → AllByRecursion (λ earlier. (oid : ℕ) → faults earlier oid ≡ None) xs → IsFirstFaultOf faults ys error → IsFirstFaultOf faults (xs ++ ys) error
first_back faults xs ys error all f = record {
  before = xs ++ f.before;
  database = f.database;
  behind = f.behind;
  order = ap (λ l. xs ++ l) f.order ∙ sym (append_assoc xs f.before (f.database ∷ f.behind));
  none_before = all_append (λ earlier. (oid : ℕ) → faults earlier oid ≡ None) xs f.before all f.none_before;
  first = f.first;
}

turned : (k q : ℕ) → nat_eq k q ≡ true → nat_eq q k ≡ true
turned k q e = eq-eqb q k (sym (eqb-true k q e))

oids_have : (ds : List DatabaseObjects) (q : ℕ) → list_any (database_has q) ds ≡ true → list_any (nat_eq q) (database_oids ds) ≡ true
oids_have [] q there = absurd (cc there)
oids_have (d ∷ ds) q there = by (nat_eq d.oid q) refl (oids_have ds q) there
  where
    or_later : (b : Bool) → list_any (nat_eq q) (database_oids ds) ≡ true → (b || list_any (nat_eq q) (database_oids ds)) ≡ true
    or_later true later = refl
    or_later false later = later

    by : (b : Bool) → nat_eq d.oid q ≡ b → (list_any (database_has q) ds ≡ true → list_any (nat_eq q) (database_oids ds) ≡ true) → (b || list_any (database_has q) ds) ≡ true → (nat_eq q d.oid || list_any (nat_eq q) (database_oids ds)) ≡ true
    by true e later there = ap (λ b. b || list_any (nat_eq q) (database_oids ds)) (turned d.oid q e)
    by false e later there = or_later (nat_eq q d.oid) (later there)

module _ (old new : Cluster) where
  matched_by : (q : ℕ) (of_old of_new : Option DatabaseObjects) → find (database_has q) old.databases ≡ of_old → find (database_has q) new.databases ≡ of_new
      → (list_any (database_has q) old.databases ≡ true → HasNoFault old new q) → (find (database_has q) old.databases ≡ None → list_any (database_has q) new.databases ≡ true → HasNoFault old new q) → HasNoFault old new q
  matched_by q (Some d) of_new is_old is_new in_old in_new = in_old (found_any (database_has q) old.databases d is_old)
  matched_by q None (Some d) is_old is_new in_old in_new = in_new is_old (found_any (database_has q) new.databases d is_new)
  matched_by q None None is_old is_new in_old in_new = λ oid. (λ i. fault_among q (relations_if (is_old i)) (relations_if (is_new i)) oid)

  pub all_matched : AllByRecursion (HasNoFault old new) (database_oids old.databases) → AllByRecursion (HasNoFault old new) (new_alone old new.databases) → AreMatched old new
  all_matched of_old of_new q =
      matched_by q (find (database_has q) old.databases) (find (database_has q) new.databases) refl refl
      (λ there. all_has (HasNoFault old new) (database_oids old.databases) q of_old (oids_have old.databases q there))
      (λ none there. all_has (HasNoFault old new) (new_alone old new.databases) q of_new (alone_there old new.databases q none there))

-- ---- equal catalogs

bytes_same : (xs : List ℕ) → bytes_eq xs xs ≡ true
bytes_same xs = (bytes_eq-Decides xs xs).1 refl

same_itself : (x : Named) → same_named x x ≡ true
same_itself x = rw (bytes_same x.schema, bytes_same x.name) refl

none_between : (database oid : ℕ) (found : Option Named) → fault_between database oid found found ≡ None
none_between database oid None = refl
none_between database oid (Some x) = ap (λ b. cond b None (Some (NameDiffers database oid))) (same_itself x)

no_fault : (old new : Cluster) (error : MapError) → old ≡ new → IsFirstFault old new error → ⊥
no_fault old new error same f =
    let none : fault_at old new f.database f.first.oid ≡ None =
    ap (λ c. fault_at old c f.database f.first.oid) (sym same) ∙ none_between f.database f.first.oid (find (named_has f.first.oid) (relations_at old f.database)) in
    cc (none, f.first.is)

pub only_memory : {T : Type 0} (old new : Cluster) (result : Result T MapError) → old ≡ new → IfErr result (λ error. error ≢ OutOfMemory → IsFirstFault old new error) → IfErr result (λ error. error ≡ OutOfMemory)
only_memory old new (Ok value) same cause = tt
only_memory old new (Err OutOfMemory) same cause = refl
only_memory old new (Err (Unmatched database oid side)) same cause = absurd (no_fault old new (Unmatched database oid side) same (cause (λ e. cc e)))
only_memory old new (Err (NameDiffers database oid)) same cause = absurd (no_fault old new (NameDiffers database oid) same (cause (λ e. cc e)))

-- ---- a database of the old cluster

module _ (old new : Cluster) (valid : IsValid old) (i : ℕ) (d : DatabaseObjects) (there : slice_get old.databases i ≡ Some d) (oid : ℕ) (same : oid ≡ d.oid) (found : Option DatabaseObjects) (is : found ≡ find (database_has oid) new.databases) where
  here : find (database_has d.oid) old.databases ≡ Some d
  here = find_distinct (λ (e : DatabaseObjects). e.oid) old.databases i d valid.database_oids_differ there

  like : found ≡ find (database_has d.oid) new.databases
  like = is ∙ ap (λ n. find (database_has n) new.databases) same

  same_faults : ◌≡◌ {A = ℕ → Option MapError} (fault_among oid (relations_if (Some d)) (relations_if found)) (fault_at old new d.oid)
  same_faults = (λ j q. fault_among (same j) (relations_if (sym here j)) (relations_if (like j)) q)

  pub same_entries : (from to : Site) → map (entry_among from to oid (relations_if found)) (relations_named d) ≡ database_entries from to new d
  same_entries from to = (λ j. map (entry_among from to (same j) (relations_if (like j))) (relations_named d))

  pub matched_here : ((q : ℕ) → fault_among oid (relations_if (Some d)) (relations_if found) q ≡ None) → HasNoFault old new d.oid
  matched_here none q = sym (λ j. same_faults j q) ∙ none q

  pub fault_here : (error : MapError) → AllByRecursion (HasNoFault old new) (database_oids (take i old.databases)) → IsLeastFault (fault_among oid (relations_if (Some d)) (relations_if found)) error
      → IsFirstFaultOf (fault_at old new) (database_oids old.databases) error
  fault_here error before first = first_at (fault_at old new) old.databases i d error there before (subst (λ (f : ℕ → Option MapError). IsLeastFault f error) same_faults first)

-- ---- a database of the new cluster

module _ (old new : Cluster) (oid other : ℕ) (same : oid ≡ other) where
  pub none_along : (find (database_has oid) old.databases ≡ None → HasNoFault old new oid) → find (database_has other) old.databases ≡ None → HasNoFault old new other
  none_along none = let P : ℕ → Type 0 = λ n. find (database_has n) old.databases ≡ None → HasNoFault old new n in subst P same none

  pub alone_along : find (database_has oid) old.databases ≡ None → find (database_has other) old.databases ≡ None
  alone_along none = ap (λ n. find (database_has n) old.databases) (sym same) ∙ none

  pub fault_along : (error : MapError) → IsLeastFault (fault_at old new oid) error → IsLeastFault (fault_at old new other) error
  fault_along error first = let P : ℕ → Type 0 = λ n. IsLeastFault (fault_at old new n) error in subst P same first
