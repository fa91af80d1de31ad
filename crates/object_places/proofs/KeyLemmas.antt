-- What a map has at any key, after one key was given a value.
use Rattle.std.proofs.Common.{◌≡◌, ℕ, zero, suc, arith, rules, ◌<◌, Bool, true, false, List, [], ◌∷◌, length, get_or, take, Option, Some, refl, sym, ap, subst, ◌∙◌, ⊎_elim}
use Rattle.std.specs.Prelude.{◌&&◌, ◌||◌, nat_eq, bytes_eq}
use Rattle.std.specs.List.{list_any}
use Rattle.std.specs.Ordering.{is_eq, nat_cmp}
use Rattle.std.specs.Cmp.{eq_by_cmp_equiv, Equal-is}
use Rattle.std.specs.Cmp.Lexicographic.{slice_cmp, bytes_decides, nat_list_cmp_total, nat_list_eq_equiv}
use Rattle.std.specs.Map.{lookup, IsKeyTest, AreApart, KeepsOthers}
use Rattle.std.specs.BTreeMap as tree
use Rattle.std.specs.BTreeMap.{BTreeMap}
use Rattle.std.specs.declared.vec.Vec.{Vec}
use Rattle.std.proofs.lemmas.Map.Text.{is_eq-slice_cmp}
use Rattle.std.proofs.lemmas.Map.Lookups.{exact_pairs, exact_unsigned}
use Rattle.std.specs.declared.alloc.Global.{Global}
use Rattle.object_places.specs.Places.{file_cmp, place_among}
use Rattle.std.proofs.lemmas.Bool.{cases_Bool}

-- ---- keys that are texts

apart : (bs cs ks : List ℕ) → bytes_eq bs cs ≡ false → is_eq (slice_cmp nat_cmp bs ks) ≡ true → is_eq (slice_cmp nat_cmp cs ks) ≡ false
apart bs cs ks n y =
    let here : bytes_eq bs ks ≡ true = sym (is_eq-slice_cmp bs ks) ∙ y in
    is_eq-slice_cmp cs ks ∙ nat_list_eq_equiv.symm cs ks ∙ sym (nat_list_eq_equiv.congr bs ks cs here) ∙ n

module _ {K : Type 0} (eq : K → K → Bool) (test : K → Bool) where
  other_entries : {X : Type 0} (old new : List (K × X)) → KeepsOthers eq test old new → (other : K → Bool) → IsKeyTest eq other → AreApart test other → lookup other new ≡ lookup other old
  unfolding KeepsOthers
  other_entries old new h = h

module _ {A X : Type 0} (bs : List ℕ) (m n : BTreeMap (Vec ℕ A) X) (w : Option X) where
  pub text_put : tree.UpdatesBy (λ a b. slice_cmp nat_cmp a.items b.items) (λ k. slice_cmp nat_cmp bs k.items) m n w → tree.get_by (λ k. slice_cmp nat_cmp bs k.items) n ≡ w
  text_put h = h.1

  pub text_kept : tree.UpdatesBy (λ a b. slice_cmp nat_cmp a.items b.items) (λ k. slice_cmp nat_cmp bs k.items) m n w → (cs : List ℕ) → bytes_eq bs cs ≡ false → tree.get_by (λ k. slice_cmp nat_cmp cs k.items) n ≡ tree.get_by (λ k. slice_cmp nat_cmp cs k.items) m
  text_kept h cs e = other_entries _ _ _ _ h.3 _ (λ x y. (eq_by_cmp_equiv nat_list_cmp_total).congr cs x.items y.items) (λ k. apart bs cs k.items e)

-- ---- the keys of a loop that goes over numbers

or_left : (a b : Bool) → (a || b) ≡ false → a ≡ false
or_left true b h = h
or_left false b h = refl

or_right : (a b : Bool) → (a || b) ≡ false → b ≡ false
or_right true b h = cc
or_right false b h = h

-- an answer over all numbers is one over those before the next, and over the next
pub none_before : {X : Type 0} (p : X → Bool) (xs : List X) (i : ℕ) (d : X) → i < length xs → list_any p xs ≡ false → (list_any p (take i xs) ≡ false) × (p (get_or xs i d) ≡ false)
none_before p [] i d h k = absurd (omega (arith, h))
none_before p (x ∷ xs) zero d h k = (refl, or_left _ _ k)
none_before p (x ∷ xs) (suc i) d h k =
    let lt : i < length xs = omega (arith, h) in
    let r = none_before p xs i d lt (or_right (p x) (list_any p xs) k) in
    (rw (or_left (p x) (list_any p xs) k, r.0) refl, r.1)

-- the same of files
pub no_file_before : (b : Bool) (p : ℕ → Bool) (xs : List ℕ) (i : ℕ) → i < length xs → (b && list_any p xs) ≡ false → ((b && list_any p (take i xs)) ≡ false) × ((b && p (get_or xs i 0)) ≡ false)
no_file_before false p xs i h k = (refl, refl)
no_file_before true p xs i h k = none_before p xs i 0 h k

nat_eq-itself : (n : ℕ) → nat_eq n n ≡ true
nat_eq-itself n = search rules

-- ---- keys that are files

pub file_apart : (a b : ℕ × ℕ) → (nat_eq b.0 a.0 && nat_eq b.1 a.1) ≡ false → is_eq (file_cmp a b) ≡ false
file_apart a b h =
    ⊎_elim
    (λ y.
    let same : a ≡ b = exact_pairs nat_cmp nat_cmp exact_unsigned exact_unsigned a b ((Equal-is (file_cmp a b)).0 y) in
    let here : (nat_eq b.0 b.0 && nat_eq b.1 b.1) ≡ true = rw (nat_eq-itself b.0, nat_eq-itself b.1) refl in
    let there : (nat_eq b.0 a.0 && nat_eq b.1 a.1) ≡ true = subst (λ (x : ℕ × ℕ). (nat_eq b.0 x.0 && nat_eq b.1 x.1) ≡ true) (sym same) here in
    cc)
    (λ n. n)
    (cases_Bool (is_eq (file_cmp a b)))

-- ---- names in schemas

and_rest : (a b : Bool) → a ≡ true → (a && b) ≡ false → b ≡ false
and_rest true b h k = k
and_rest false b h k = cc

and_first : (a b : Bool) → (a && b) ≡ true → a ≡ true
and_first true b h = refl
and_first false b h = h

and_second : (a b : Bool) → (a && b) ≡ true → b ≡ true
and_second true b h = h
and_second false b h = cc

module _ (schema name : List ℕ) (m n : BTreeMap (Vec ℕ Global) (BTreeMap (Vec ℕ Global) ℕ)) (names : BTreeMap (Vec ℕ Global) ℕ) where
  abbrev of_schema : List ℕ → BTreeMap (Vec ℕ Global) (BTreeMap (Vec ℕ Global) ℕ) → Option (BTreeMap (Vec ℕ Global) ℕ)
  of_schema s l = tree.get_by (λ k. slice_cmp nat_cmp s k.items) l

  -- where the schema's names are the same but for one name, so are all
  pub other_names : tree.UpdatesBy (λ a b. slice_cmp nat_cmp a.items b.items) (λ k. slice_cmp nat_cmp schema k.items) m n (Some names) → ((q : List ℕ) → bytes_eq q name ≡ false → place_among q (Some names) ≡ place_among q (of_schema schema m))
      → (s q : List ℕ) → (bytes_eq s schema && bytes_eq q name) ≡ false → place_among q (of_schema s n) ≡ place_among q (of_schema s m)
  other_names updates others s q h =
      ⊎_elim
      (λ y.
      let same : s ≡ schema = (bytes_decides s schema).0 y in
      let here : place_among q (of_schema schema n) ≡ place_among q (of_schema schema m) = ap (place_among q) (text_put schema m n (Some names) updates) ∙ others q (and_rest _ _ y h) in
      subst (λ l. place_among q (of_schema l n) ≡ place_among q (of_schema l m)) (sym same) here)
      (λ e. ap (place_among q) (text_kept schema m n (Some names) updates s (nat_list_eq_equiv.symm schema s ∙ e)))
      (cases_Bool (bytes_eq s schema))

  pub name_put : (place : ℕ) → tree.UpdatesBy (λ a b. slice_cmp nat_cmp a.items b.items) (λ k. slice_cmp nat_cmp schema k.items) m n (Some names) → place_among name (Some names) ≡ Some place
      → (s q : List ℕ) → (bytes_eq s schema && bytes_eq q name) ≡ true → place_among q (of_schema s n) ≡ Some place
  name_put place updates here s q h =
      let same : s ≡ schema = (bytes_decides s schema).0 (and_first _ _ h) in
      let same_name : q ≡ name = (bytes_decides q name).0 (and_second _ _ h) in
      (λ i. place_among (same_name i) (of_schema (same i) n)) ∙ ap (place_among name) (text_put schema m n (Some names) updates) ∙ here
