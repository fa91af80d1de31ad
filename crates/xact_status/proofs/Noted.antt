-- What a pass over parts knows: the numbers that came, and the least that came twice.
use Rattle.std.proofs.Common.{◌≡◌, ◌<◌, ◌≤◌, ◌+◌, ℕ, true, false, cond, eqb, ltb, ne_eqb, eq-eqb, lt-ltb, ltb-true, ltb-false, inl, inr, ◌⊎◌, List, [], ◌∷◌, ◌++◌, Option, Some, None, refl, sym, ap, ◌∙◌, arith, min}
use Rattle.std.proofs.Math.Nat.{min-eq_left, min-eq_right}
use Rattle.std.proofs.lemmas.Bool.{cases_eq, cases_lt}
use Rattle.std.proofs.lemmas.List.Sums.{sum_by-append}
use Rattle.std.specs.Prelude.{is_some, MatchOption}
use Rattle.std.specs.Option.{option_map_or}
use Rattle.std.specs.Ordering.{nat_cmp}
use Rattle.std.specs.Cmp.{nat_cmp_total, unsigned_tied}
use Rattle.std.specs.FinMap as map
use Rattle.std.specs.FinMap.{FinMap, nat_cmp-IsAntisymmetric, get-empty, get-insert, get-from_entries, from_entries_push}
use Rattle.xact_status.specs.Parts.{count_of, IsLeastTwice}

abbrev pub Map : Type 0
Map = FinMap nat_cmp (List ℕ)

-- the segments hold each part, and no number comes twice
pub record IsWhole (parts : List (ℕ × List ℕ)) (segments : Map) : Type 0 where
  pub once : (number : ℕ) → count_of number parts ≤ 1
  pub same : segments ≡ map.from_entries parts

pub record IsNoted (parts : List (ℕ × List ℕ)) (segments : Map) (twice : Option ℕ) : Type 0 where
  pub numbers : (number : ℕ) → is_some (map.get segments number) ≡ ltb 0 (count_of number parts)
  pub outcome : MatchOption twice (IsWhole parts segments) (IsLeastTwice parts)

-- one part more raises the count of its number, and of no other
count_of-push : (number : ℕ) (parts : List (ℕ × List ℕ)) (k : ℕ) (bytes : List ℕ) → ((number ≡ k) × (count_of number (parts ++ (k, bytes) ∷ []) ≡ count_of number parts + 1)) ⊎ ((number ≡ k → ⊥) × (count_of number (parts ++ (k, bytes) ∷ []) ≡ count_of number parts))
count_of-push number parts k bytes =
    let more = sum_by-append (λ (part : ℕ × List ℕ). cond (eqb part.0 number) 1 0) parts ((k, bytes) ∷ []) in
    elim (cases_eq number k) [ inl same ↦ inl (same, more ∙ rw (eq-eqb k number (sym same)) (omega arith)) | inr apart ↦ inr (apart, more ∙ rw (ne_eqb k number (λ same. apart (sym same))) (omega arith)) ]

none_of : {A : Type 0} (o : Option A) → is_some o ≡ false → o ≡ None
none_of None e = refl
none_of (Some x) e = cc

-- which numbers have come, after one part more
numbers-push : (parts : List (ℕ × List ℕ)) (segments : Map) (k : ℕ) (bytes : List ℕ) → ((number : ℕ) → is_some (map.get segments number) ≡ ltb 0 (count_of number parts)) → (number : ℕ) → is_some (map.get (map.insert segments k bytes) number) ≡ ltb 0 (count_of number (parts ++ (k, bytes) ∷ []))
numbers-push parts segments k bytes known number =
    ap is_some (get-insert nat_cmp_total segments k bytes number ∙ ap (λ b. cond b (Some bytes) (map.get segments number)) (unsigned_tied number k))
    ∙ (elim (count_of-push number parts k bytes) [ inl same ↦ rw (eq-eqb number k same.0, same.1) (sym (lt-ltb 0 (count_of number parts + 1) (omega arith))) | inr apart ↦ rw (ne_eqb number k apart.0, apart.1) (known number) ])

pub noted-start : IsNoted [] map.empty None
noted-start = record { numbers = λ number. ap is_some (get-empty nat_cmp number); outcome = record { once = λ number. omega arith; same = refl } }

whole-push : (parts : List (ℕ × List ℕ)) (segments : Map) (k : ℕ) (bytes : List ℕ) → map.get segments k ≡ None → count_of k parts ≡ 0 → IsWhole parts segments → IsWhole (parts ++ (k, bytes) ∷ []) (map.insert segments k bytes)
whole-push parts segments k bytes none zero_times whole =
    let absent : map.find nat_cmp k parts ≡ None = sym (get-from_entries nat_cmp_total parts k) ∙ ap (λ m. map.get m k) (sym whole.same) ∙ none in
    record {
      once = λ number. elim (count_of-push number parts k bytes) [ inl same ↦ let here : count_of number parts ≡ 0 = ap (λ n. count_of n parts) same.0 ∙ zero_times in omega (arith, same.1) | inr apart ↦ omega (arith, apart.1, whole.once number) ];
      same = sym (from_entries_push nat_cmp_total nat_cmp-IsAntisymmetric parts k bytes absent ∙ ap (λ m. map.insert m k bytes) (sym whole.same));
    }

-- a number that is new leaves the least of those that came twice
least-fresh : (parts : List (ℕ × List ℕ)) (k : ℕ) (bytes : List ℕ) (n : ℕ) → count_of k parts ≡ 0 → IsLeastTwice parts n → IsLeastTwice (parts ++ (k, bytes) ∷ []) n
least-fresh parts k bytes n zero_times least = record {
  comes_twice = elim (count_of-push n parts k bytes) [ inl same ↦ omega (arith, same.1, least.comes_twice) | inr apart ↦ omega (arith, apart.1, least.comes_twice) ];
  least = λ other twice. elim (count_of-push other parts k bytes) [ inl same ↦ let here : count_of other parts ≡ 0 = ap (λ n. count_of n parts) same.0 ∙ zero_times in absurd (omega (arith, same.1)) | inr apart ↦ least.least other (omega (arith, apart.1)) ];
}

-- a number that came before is the least where none came twice
least-first : (parts : List (ℕ × List ℕ)) (k : ℕ) (bytes : List ℕ) → 0 < count_of k parts → ((number : ℕ) → count_of number parts ≤ 1) → IsLeastTwice (parts ++ (k, bytes) ∷ []) k
least-first parts k bytes came once = record {
  comes_twice = elim (count_of-push k parts k bytes) [ inl same ↦ omega (arith, same.1) | inr apart ↦ absurd (apart.0 refl) ];
  least = λ other twice. elim (count_of-push other parts k bytes) [ inl same ↦ omega (arith, same.0) | inr apart ↦ absurd (omega (arith, apart.1, once other)) ];
}

-- and else the lesser of the two
least-again : (parts : List (ℕ × List ℕ)) (k : ℕ) (bytes : List ℕ) (n : ℕ) → 0 < count_of k parts → IsLeastTwice parts n → IsLeastTwice (parts ++ (k, bytes) ∷ []) (min n k)
least-again parts k bytes n came least = record {
  comes_twice = elim (cases_lt n k) [ inl below ↦ let le : n ≤ k = omega arith in rw (min-eq_left le) (elim (count_of-push n parts k bytes) [ inl same ↦ omega (arith, same.1, least.comes_twice) | inr apart ↦ omega (arith, apart.1, least.comes_twice) ]) | inr lt ↦ rw (min-eq_right lt) (elim (count_of-push k parts k bytes) [ inl same ↦ omega (arith, same.1) | inr apart ↦ absurd (apart.0 refl) ]) ];
  least = λ other twice. elim (count_of-push other parts k bytes) [ inl same ↦ omega (arith, same.0) | inr apart ↦ let le : n ≤ other = least.least other (omega (arith, apart.1)) in omega arith ];
}

-- what is known after a part whose number is new
pub noted-fresh : (parts : List (ℕ × List ℕ)) (segments : Map) (k : ℕ) (bytes : List ℕ) (twice : Option ℕ) → is_some (map.get segments k) ≡ false → IsNoted parts segments twice → IsNoted (parts ++ (k, bytes) ∷ []) (map.insert segments k bytes) twice
noted-fresh parts segments k bytes twice fresh noted = record { numbers = numbers-push parts segments k bytes noted.numbers; outcome = outcome_of twice noted.outcome } where
  zero_times : count_of k parts ≡ 0
  zero_times = let none : ltb 0 (count_of k parts) ≡ false = sym (noted.numbers k) ∙ fresh in omega (arith, ltb-false _ _ none)

  outcome_of : (t : Option ℕ) → MatchOption t (IsWhole parts segments) (IsLeastTwice parts) → MatchOption t (IsWhole (parts ++ (k, bytes) ∷ []) (map.insert segments k bytes)) (IsLeastTwice (parts ++ (k, bytes) ∷ []))
  outcome_of None whole = whole-push parts segments k bytes (none_of _ fresh) zero_times whole
  outcome_of (Some n) least = least-fresh parts k bytes n zero_times least

-- what is known after a part whose number came before
pub noted-again : (parts : List (ℕ × List ℕ)) (segments : Map) (k : ℕ) (bytes : List ℕ) (twice : Option ℕ) → is_some (map.get segments k) ≡ true → IsNoted parts segments twice → IsNoted (parts ++ (k, bytes) ∷ []) (map.insert segments k bytes) (Some (option_map_or (λ known. min known k) twice k))
noted-again parts segments k bytes twice again noted = record { numbers = numbers-push parts segments k bytes noted.numbers; outcome = outcome_of twice noted.outcome } where
  came : 0 < count_of k parts
  came = ltb-true _ _ (sym (noted.numbers k) ∙ again)

  outcome_of : (t : Option ℕ) → MatchOption t (IsWhole parts segments) (IsLeastTwice parts) → IsLeastTwice (parts ++ (k, bytes) ∷ []) (option_map_or (λ known. min known k) t k)
  outcome_of None whole = least-first parts k bytes came whole.once
  outcome_of (Some n) least = least-again parts k bytes n came least
