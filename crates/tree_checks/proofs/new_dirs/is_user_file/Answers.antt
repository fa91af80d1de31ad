use Rattle.std.proofs.Common.{◌≡◌, ◌≤◌, ◌+◌, ◌-◌, ◌*◌, ◌∙◌, ℕ, suc, true, false, List, [], ◌∷◌, drop, get_or, sym, ap, subst, arith}
use Rattle.std.specs.Prelude.{nat_le, if◌then◌else◌}
use Rattle.std.proofs.Math.Seq.{drop-cons}
use Rattle.tree_checks.specs.NewDirs.{is_digit, number_after, leading_number}
use Rattle.tree_checks.proofs.new_dirs.is_user_file.Goals as goal

-- more digits make no lesser number
number_grows : (n : ℕ) (bs : List ℕ) → n ≤ number_after n bs
number_grows n [] = omega arith
number_grows n (b ∷ bs) =
    elim (is_digit b) as (λ t. n ≤ (if t then number_after (n * 10 + (b - 48)) bs else n)) [
      | true ↦ (let more = number_grows (n * 10 + (b - 48)) bs in omega (arith, more))
      | false ↦ omega arith
    ]

digit_on : (n b : ℕ) (bs : List ℕ) → is_digit b ≡ true → n * 10 + (b - 48) ≤ number_after n (b ∷ bs)
digit_on n b bs digit = subst (λ t. n * 10 + (b - 48) ≤ (if t then number_after (n * 10 + (b - 48)) bs else n)) (sym digit) (number_grows (n * 10 + (b - 48)) bs)

at_least : (n : ℕ) → 16384 ≤ n → true ≡ nat_le 16384 n
at_least n le = grind arith

pub returns-then-number-ge16384 : goal.returns-then-number-ge16384
returns-then-number-ge16384 c =
    let items : List ℕ = c.as_bytes-b-items.result.now in
    let i : ℕ = c.loop-b.b-index in
    let b : ℕ = get_or items i 0 in
    let is : leading_number c.args.name.now ≡ number_after c.loop-b.number (b ∷ drop (suc i) items) = c.loop-b.invariant.rest ∙ ap (number_after c.loop-b.number) (drop-cons items i 0 c.loop-b-test.true) in
    let digit : is_digit b ≡ true = sym c.is_digit.ensures ∙ c.if-not-is_digit.false in
    let more = digit_on c.loop-b.number b (drop (suc i) items) digit in
    let enough = c.if-number-ge16384.true in
    let big : 16384 ≤ number_after c.loop-b.number (b ∷ drop (suc i) items) = omega (arith, more, enough) in
    at_least (leading_number c.args.name.now) (subst (λ n. 16384 ≤ n) (sym is) big)
