-- Carrying what was carried.
use Rattle.std.proofs.Common.{◌≡◌, ℕ, zero, suc, ◌+◌, ◌&&◌, ◌++◌, ◌∙◌, Bool, true, false, List, [], ◌∷◌, Option, None, refl, ap, sym, arith, if◌then◌else◌, add-one, add-zero, zero-add}
use Rattle.std.specs.List.{list_all, range_with_len}
use Rattle.std.proofs.lemmas.List.Folds.{list_all-append}
use Rattle.xact_status.specs.Files.{SegmentFiles}
use Rattle.relation_files.specs.declared.relation.Fork.{Fork}
use Rattle.relation_files.specs.Carried.{belongs, is_reached, carried}

range_more : (a n : ℕ) → range_with_len a (suc n) ≡ range_with_len a n ++ (a + n) ∷ []
range_more a zero = ap (λ x. x ∷ []) (sym (add-zero a))
range_more a (suc n) =
    let same : a + 1 + n ≡ a + suc n = omega arith in
    ap (λ xs. a ∷ xs) (range_more (a + 1) n ∙ ap (λ x. range_with_len (a + 1) n ++ x ∷ []) same)

and_true : (b : Bool) → (b && true) ≡ b
and_true true = refl
and_true false = refl

-- a segment behind this one is reached where this one is, and belongs to the fork
pub reached_more : (fork : Fork) (files : SegmentFiles) (n : ℕ) → is_reached fork files (n + 1) ≡ (is_reached fork files n && belongs fork n (files n))
reached_more fork files n =
    let P : ℕ → Bool = λ k. belongs fork k (files k) in
    ap (λ m. list_all P (range_with_len 0 m)) (add-one n)
    ∙ ap (list_all P) (range_more 0 n)
    ∙ list_all-append P (range_with_len 0 n) ((0 + n) ∷ [])
    ∙ ap (λ b. is_reached fork files n && b) (and_true (P (0 + n)) ∙ ap P (zero-add n))

both_true : (a b : Bool) → (a && b) ≡ true → b ≡ true
both_true true b is = is
both_true false b is = absurd (cc is)

belongs_by : (fork : Fork) (n : ℕ) (file : Option (List ℕ)) (test : Bool) → (test ≡ true → belongs fork n file ≡ true) → belongs fork n (if test then file else None) ≡ test
belongs_by fork n file true does = does refl
belongs_by fork n file false does = refl

-- of the carried files exactly the carried ones belong to the fork
belongs_carried : (fork : Fork) (files : SegmentFiles) (n : ℕ) → belongs fork n (carried fork files n) ≡ is_reached fork files (n + 1)
unfolding carried
belongs_carried fork files n =
    belongs_by fork n (files n) (is_reached fork files (n + 1))
    (λ reached. both_true (is_reached fork files n) (belongs fork n (files n)) (sym (reached_more fork files n) ∙ reached))

twice : (a b : Bool) → (a && (a && b)) ≡ (a && b)
twice true b = refl
twice false b = refl

reached_carried : (fork : Fork) (files : SegmentFiles) (n : ℕ) → is_reached fork (carried fork files) n ≡ is_reached fork files n
reached_carried fork files zero = refl
reached_carried fork files (suc n) =
    ap (is_reached fork (carried fork files)) (sym (add-one n))
    ∙ reached_more fork (carried fork files) n
    ∙ (λ i. reached_carried fork files n i && belongs_carried fork files n i)
    ∙ ap (λ b. is_reached fork files n && b) (reached_more fork files n)
    ∙ twice (is_reached fork files n) (belongs fork n (files n))
    ∙ sym (reached_more fork files n)
    ∙ ap (is_reached fork files) (add-one n)

one_test : (test : Bool) (file : Option (List ℕ)) → (if test then (if test then file else None) else None) ≡ (if test then file else None)
one_test true file = refl
one_test false file = refl

-- Carrying what was carried carries all of it.
pub carried_again : (fork : Fork) (files : SegmentFiles) (n : ℕ) → carried fork (carried fork files) n ≡ carried fork files n
unfolding carried
carried_again fork files n =
    ap (λ test. if test then carried fork files n else None) (reached_carried fork files (n + 1))
    ∙ one_test (is_reached fork files (n + 1)) (files n)
