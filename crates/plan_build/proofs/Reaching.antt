-- The segments that a plan has of a fork are those that are carried.
use Rattle.std.proofs.Common.{◌≡◌, ◌⊎◌, ◌∙◌, ◌&&◌, inl, inr, ℕ, zero, suc, ◌+◌, ◌<◌, ◌≤◌, ◌^◌, ◌-◌, Bool, true, false, [], ◌∷◌, if◌then◌else◌, refl, sym, ap, subst, arith, add-one}
use Rattle.std.proofs.lemmas.Bool.{cases_order}
use Rattle.xact_status.specs.Files.{SegmentFiles}
use Rattle.relation_files.specs.declared.relation.Fork.{Fork}
use Rattle.relation_files.specs.Carried.{belongs, is_reached}
use Rattle.relation_files.proofs.Carried.{reached_more}
use Rattle.plan_build.specs.Planned.{segments_from, segments_of, most_segments, HasEnd}
use Rattle.plan_build.proofs.Adding.{most_segments_is}
use Rattle.plan_build.proofs.Lists.{Among}

left_true : (a b : Bool) → (a && b) ≡ true → a ≡ true
left_true true b is = refl
left_true false b is = is

right_true : (a b : Bool) → (a && b) ≡ true → b ≡ true
right_true true b is = is
right_true false b is = absurd (cc is)

true_both : (a b : Bool) → a ≡ true → b ≡ true → (a && b) ≡ true
true_both a b one two = λ i. one i && two i

module _ (fork : Fork) (files : SegmentFiles) where
  -- where a segment is reached, those before it belong to the fork
  before_reached : (n k : ℕ) → is_reached fork files n ≡ true → k < n → belongs fork k (files k) ≡ true
  before_reached zero k reached below = absurd (omega arith)
  before_reached (suc n) k reached below = by (cases_order k n) (before_reached n k (left_true (is_reached fork files n) (belongs fork n (files n)) both))
    where
      both : (is_reached fork files n && belongs fork n (files n)) ≡ true
      both = sym (reached_more fork files n) ∙ ap (is_reached fork files) (add-one n) ∙ reached

      by : (k ≡ n) ⊎ ((k < n) ⊎ (n < k)) → (k < n → belongs fork k (files k) ≡ true) → belongs fork k (files k) ≡ true
      by (inl same) earlier = ap (λ m. belongs fork m (files m)) same ∙ right_true (is_reached fork files n) (belongs fork n (files n)) both
      by (inr (inl less)) earlier = earlier less
      by (inr (inr more)) earlier = absurd (omega arith)

  pub reached_next : (n : ℕ) → is_reached fork files n ≡ true → belongs fork n (files n) ≡ true → is_reached fork files (n + 1) ≡ true
  reached_next n reached is = reached_more fork files n ∙ true_both (is_reached fork files n) (belongs fork n (files n)) reached is

  pub belongs_here : (n : ℕ) → is_reached fork files (n + 1) ≡ true → belongs fork n (files n) ≡ true
  belongs_here n reached = before_reached (n + 1) n reached (omega arith)

  -- what is in the plan is carried
  pub record IsReached (from most n : ℕ) : Type 0 where
    pub reached : is_reached fork files (n + 1) ≡ true
    pub behind : from ≤ n
    pub within : n < from + most

  in_test : (from most n : ℕ) → is_reached fork files from ≡ true → (b : Bool) → belongs fork from (files from) ≡ b
      → (is_reached fork files (from + 1) ≡ true → Among (segments_from fork files (from + 1) most) n → IsReached (from + 1) most n)
      → Among (if b then from ∷ segments_from fork files (from + 1) most else []) n → IsReached from (suc most) n
  in_test from most n reached false is later none = absurd none
  in_test from most n reached true is later (inl same) = record {
    reached = ap (λ m. is_reached fork files (m + 1)) same ∙ reached_next from reached is;
    behind = omega arith;
    within = omega arith;
  }
  in_test from most n reached true is later (inr one) =
      let further = later (reached_next from reached is) one in
      record { reached = further.reached; behind = (let le = further.behind in omega arith); within = (let lt = further.within in omega arith) }

  pub in_plan : (from most n : ℕ) → is_reached fork files from ≡ true → Among (segments_from fork files from most) n → IsReached from most n
  in_plan from zero n reached none = absurd none
  in_plan from (suc most) n reached one = in_test from most n reached (belongs fork from (files from)) refl (in_plan (from + 1) most n) one

  -- and what is carried is in the plan
  of_plan : (from most n : ℕ) → is_reached fork files (n + 1) ≡ true → from ≤ n → n < from + most → Among (segments_from fork files from most) n
  of_plan from zero n reached le lt = absurd (omega arith)
  of_plan from (suc most) n reached le lt = subst (λ b. Among (if b then from ∷ segments_from fork files (from + 1) most else []) n) (sym (before_reached (n + 1) from reached (omega arith)))
      (by (cases_order n from) (of_plan (from + 1) most n reached))
    where
      by : (n ≡ from) ⊎ ((n < from) ⊎ (from < n)) → (from + 1 ≤ n → n < from + 1 + most → Among (segments_from fork files (from + 1) most) n) → Among (from ∷ segments_from fork files (from + 1) most) n
      by (inl same) later = inl same
      by (inr (inl less)) later = absurd (omega arith)
      by (inr (inr more)) later = inr (later (omega arith) (omega arith))

  pub planned_is_carried : (n : ℕ) → Among (segments_of fork files) n → (is_reached fork files (n + 1) ≡ true) × (n < 2 ^ 32)
  planned_is_carried n one =
      let most : ℕ = most_segments in
      let whole : most ≡ 2 ^ 32 - 1 = most_segments_is in
      let is = in_plan 0 most_segments n refl one in
      (is.reached, (let lt : n < 0 + most = is.within in omega arith))

  pub carried_is_planned : HasEnd fork files → (n : ℕ) → is_reached fork files (n + 1) ≡ true → Among (segments_of fork files) n
  carried_is_planned (last, below, ends) n reached = of_plan 0 most_segments n reached (omega arith) (by (cases_order n last))
    where
      by : (n ≡ last) ⊎ ((n < last) ⊎ (last < n)) → n < 0 + most_segments
      by (inl same) = absurd (not_both (before_reached (n + 1) last reached (omega arith)))
        where
          not_both : belongs fork last (files last) ≡ true → ⊥
          not_both is = absurd (cc (is, ends))
      by (inr (inl less)) = let most : ℕ = most_segments in let lt : last < most = below in omega arith
      by (inr (inr more)) = absurd (not_both (before_reached (n + 1) last reached (omega arith)))
        where
          not_both : belongs fork last (files last) ≡ true → ⊥
          not_both is = absurd (cc (is, ends))
