-- Numbers written into a record and read back.
use Rattle.std.proofs.Common.{◌≡◌, ℕ, zero, suc, ◌+◌, ◌-◌, ◌*◌, ◌^◌, ◌<◌, ◌≤◌, inl, inr, List, [], ◌++◌, length, take, drop, get_or, refl, sym, ap, ◌∙◌, length-drop, arith}
use Rattle.std.proofs.lemmas.List.{append-nil, drop_all, drop_at, get_or-append-add, get_or-drop, get_or-take, get_or_append_left, length-take-le, take_all}
use Rattle.std.proofs.lemmas.Bool.{cases_lt}
use borrow.Rule.Slice.PartMut.{put_mid, mid_of, post_of}
use Rattle.byteorder.specs.Endian.{little_bytes, little_from, little_number}
use Rattle.byteorder.specs.Numbers.{length-bytes_low_first, little_number-reads_back}
use Rattle.control_file.specs.ControlRecord.{KeepsOutside, number_at}

-- a number is read from its own bytes alone
little_from-same : (i n : ℕ) (xs ys : List ℕ) → ((k : ℕ) → i ≤ k → k < i + n → get_or xs k 0 ≡ get_or ys k 0) → little_from i n xs ≡ little_from i n ys
little_from-same i zero xs ys h = refl
little_from-same i (suc n) xs ys h =
    ap (λ v. v + 256 * little_from (suc i) n xs) (h i (omega arith) (omega arith))
    ∙ ap (λ v. get_or ys i 0 + 256 * v) (little_from-same (suc i) n xs ys (λ k low high. h k (omega arith) (omega arith)))

pub number_at-same : (place n : ℕ) (xs ys : List ℕ) → ((k : ℕ) → place ≤ k → k < place + n → get_or xs k 0 ≡ get_or ys k 0) → number_at place n xs ≡ number_at place n ys
unfolding number_at
number_at-same place n xs ys h =
    little_from-same 0 n (drop place xs) (drop place ys)
    (λ k low high. get_or-drop place xs k 0 ∙ h (place + k) (omega arith) (omega arith) ∙ sym (get_or-drop place ys k 0))

-- what a record holds after n bytes of a number were written at a place
written-bytes : (p n v : ℕ) (old part : List ℕ) → length old ≡ 296 → p + n ≤ 296
    → part ≡ little_bytes n v ++ drop n (mid_of p (296 - p) old)
    → put_mid p (296 - p) old part ≡ take p old ++ (little_bytes n v ++ drop n (drop p old))
written-bytes p n v old part long fits part_is =
    let size : length (drop p old) ≡ length old - p = length-drop p old in
    let short : length (drop p old) ≤ 296 - p = omega arith in
    let all : mid_of p (296 - p) old ≡ drop p old = take_all (296 - p) (drop p old) short in
    let none : post_of p (296 - p) old ≡ [] = drop_all (296 - p) (drop p old) short in
    ap (λ z. take p old ++ (part ++ z)) none
    ∙ ap (λ z. take p old ++ z) (append-nil part ∙ part_is ∙ ap (λ z. little_bytes n v ++ drop n z) all)

-- the number is read back
pub written-number : (p n v : ℕ) (old part : List ℕ) → length old ≡ 296 → p + n ≤ 296 → v < 256 ^ n
    → part ≡ little_bytes n v ++ drop n (mid_of p (296 - p) old)
    → number_at p n (put_mid p (296 - p) old part) ≡ v
unfolding number_at
written-number p n v old part long fits below part_is =
    let within : p ≤ length old = omega arith in
    ap (λ z. little_number n (drop p z)) (written-bytes p n v old part long fits part_is)
    ∙ ap (λ z. little_number n z) (drop_at (take p old) (little_bytes n v ++ drop n (drop p old)) p (length-take-le p old within))
    ∙ little_number-reads_back n v (drop n (drop p old)) below

-- and the other bytes are the same
pub written-kept : (p n v : ℕ) (old part : List ℕ) → length old ≡ 296 → p + n ≤ 296
    → part ≡ little_bytes n v ++ drop n (mid_of p (296 - p) old)
    → KeepsOutside p (p + n) old (put_mid p (296 - p) old part)
written-kept p n v old part long fits part_is i outside =
    let within : p ≤ length old = omega arith in
    let before : length (take p old) ≡ p = length-take-le p old within in
    let size : length (little_bytes n v) ≡ n = length-bytes_low_first 0 n v in
    let rest : List ℕ = drop n (drop p old) in
    ap (λ z. get_or z i 0) (written-bytes p n v old part long fits part_is)
    ∙ elim (cases_lt i p) as (λ _. get_or (take p old ++ (little_bytes n v ++ rest)) i 0 ≡ get_or old i 0) [
      | inl low ↦ (let front : i < length (take p old) = omega arith in
          get_or_append_left (take p old) (little_bytes n v ++ rest) 0 i front ∙ get_or-take p old i 0 low)
      | inr high ↦ (
          let there : p + n ≤ i = outside high in
          let at_front : i ≡ length (take p old) + (length (little_bytes n v) + (i - p - n)) = omega arith in
          let at_old : p + (n + (i - p - n)) ≡ i = omega arith in
          ap (λ z. get_or (take p old ++ (little_bytes n v ++ rest)) z 0) at_front
          ∙ get_or-append-add (take p old) (little_bytes n v ++ rest) (length (little_bytes n v) + (i - p - n)) 0
          ∙ get_or-append-add (little_bytes n v) rest (i - p - n) 0
          ∙ get_or-drop n (drop p old) (i - p - n) 0
          ∙ get_or-drop p old (n + (i - p - n)) 0
          ∙ ap (λ z. get_or old z 0) at_old)
    ]

-- two writes, the second right behind the first
pub kept-both : (low mid high : ℕ) (before between after : List ℕ) → low ≤ mid → mid ≤ high
    → KeepsOutside low mid before between → KeepsOutside mid high between after → KeepsOutside low high before after
kept-both low mid high before between after below above first second i outside =
    second i (λ past. outside (omega arith))
    ∙ first i (λ past. let far : high ≤ i = outside past in omega arith)

-- a number that stands before what was written
pub number_at-before : (place n low high : ℕ) (old new : List ℕ) → place + n ≤ low
    → KeepsOutside low high old new → number_at place n new ≡ number_at place n old
number_at-before place n low high old new before kept =
    number_at-same place n new old (λ k from to. kept k (λ past. absurd (omega arith)))
