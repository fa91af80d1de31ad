-- The names of relations' files, by the digits that they begin with.
use Rattle.std.proofs.Common.{◌≡◌, ◌∙◌, ℕ, ◌+◌, ◌<◌, ◌^◌, ◌%◌, ◌==◌, ◌&&◌, not, Bool, true, false, List, [], ◌∷◌, ◌++◌, length, take, drop, codes, refl, sym, ap, subst, arith}
use Rattle.std.specs.Prelude.{if◌then◌else◌, bytes_eq}
use Rattle.std.specs.List.{list_all}
use Rattle.std.specs.Fmt.{decimal}
use Rattle.std.proofs.Math.Seq.{take-append_seam, drop-append_seam}
use Rattle.std.proofs.lemmas.Fmt.{decimal_by_steps}
use Rattle.std.proofs.lemmas.List.{take-append-drop}
use Rattle.std.proofs.lemmas.List.Folds.{list_all-append}
use Rattle.std.proofs.lemmas.Bool.{and_parts, and_from, le-leb, eqb-true, false≢true}
use Rattle.std.proofs.lemmas.Slice.Eq.{bytes_eq-Decides}
use Rattle.tree_checks.specs.NewDirs.{is_digit}
use Rattle.file_checks.specs.RelationFiles.{is_segment_number, is_segment_suffix, is_other_suffix, is_other_file}
use Rattle.file_checks.specs.Kept.{is_plain, IsLeadingNumber}

digit : (d : ℕ) → d < 10 → is_digit (48 + d) ≡ true
digit d small = and_from _ _ (le-leb 48 (48 + d) (omega (arith, small))) (le-leb (48 + d) 57 (omega (arith, small)))

pub decimal_digits : (n : ℕ) → n < 2 ^ 64 → list_all is_digit (decimal n) ≡ true
decimal_digits = decimal_by_steps (λ n text. list_all is_digit text ≡ true)
    (λ n small. and_from (is_digit (48 + n)) true (digit n small) refl)
    (λ n text large digits. list_all-append is_digit text ((48 + n % 10) ∷ []) ∙ and_from _ _ digits (and_from (is_digit (48 + n % 10)) true (digit (n % 10) (omega arith)) refl))

-- digits, and what begins with none, are found in what they are put together to
pub one_split : (a b r q : List ℕ) → a ++ r ≡ b ++ q → list_all is_digit a ≡ true → list_all is_digit b ≡ true → is_plain r ≡ true → is_plain q ≡ true → (a ≡ b) × (r ≡ q)
one_split [] [] r q same da db pr pq = (refl, same)
one_split [] (y ∷ b) r q same da db pr pq = absurd (let two : not (is_digit y) ≡ true = ap is_plain (sym same) ∙ pr in let one = (and_parts (is_digit y) (list_all is_digit b) db).0 in false≢true (ap not (sym one) ∙ two))
one_split (x ∷ a) [] r q same da db pr pq = absurd (let two : not (is_digit x) ≡ true = ap is_plain same ∙ pq in let one = (and_parts (is_digit x) (list_all is_digit a) da).0 in false≢true (ap not (sym one) ∙ two))
one_split (x ∷ a) (y ∷ b) r q same da db pr pq =
    let first : x ≡ y = cc same in
    let rest : a ++ r ≡ b ++ q = cc same in
    let (tails, ends) = one_split a b r q rest (and_parts (is_digit x) (list_all is_digit a) da).1 (and_parts (is_digit y) (list_all is_digit b) db).1 pr pq in
    ((λ i. first i ∷ tails i), ends)

-- what stands behind a file number begins with no digit
pub other_plain : (suffix : List ℕ) → is_other_suffix suffix ≡ true → is_plain suffix ≡ true
other_plain [] is = refl
other_plain (c ∷ cs) is =
    by (bytes_eq (take 4 (c ∷ cs)) (codes "_fsm")) refl (bytes_eq (take 3 (c ∷ cs)) (codes "_vm")) refl is
  where
    begins : (d : ℕ) → not (is_digit d) ≡ true → (c == d) ≡ true → not (is_digit c) ≡ true
    begins d plain same = ap (λ x. not (is_digit x)) (eqb-true c d same) ∙ plain

    by : (free : Bool) → bytes_eq (take 4 (c ∷ cs)) (codes "_fsm") ≡ free → (map : Bool) → bytes_eq (take 3 (c ∷ cs)) (codes "_vm") ≡ map
        → is_segment_suffix (if free then drop 4 (c ∷ cs) else (if map then drop 3 (c ∷ cs) else c ∷ cs)) ≡ true → not (is_digit c) ≡ true
    by true free map vm is = begins 95 refl (and_parts (c == 95) (bytes_eq (take 3 cs) (codes "fsm")) free).0
    by false free true vm is = begins 95 refl (and_parts (c == 95) (bytes_eq (take 2 cs) (codes "vm")) vm).0
    by false free false vm is = begins 46 refl (and_parts (c == 46) (is_segment_number cs) is).0

module _ (number name : List ℕ) (leads : IsLeadingNumber number name) where
  pub behind_number : drop (length number) name ≡ leads.rest
  behind_number = ap (drop (length number)) leads.name_is ∙ drop-append_seam number leads.rest

  -- the file number of another file's name
  pub other_number : (file : ℕ) → file < 2 ^ 64 → is_other_file file name ≡ true → (number ≡ decimal file) × (is_other_suffix leads.rest ≡ true)
  other_number file small other =
      let (begins, ends) = and_parts (bytes_eq (take (length (decimal file)) name) (decimal file)) (is_other_suffix (drop (length (decimal file)) name)) other in
      let front : take (length (decimal file)) name ≡ decimal file = (bytes_eq-Decides (take (length (decimal file)) name) (decimal file)).0 begins in
      let whole : decimal file ++ drop (length (decimal file)) name ≡ number ++ leads.rest = ap (λ l. l ++ drop (length (decimal file)) name) (sym front) ∙ take-append-drop (length (decimal file)) name ∙ leads.name_is in
      let (same, rest) = one_split (decimal file) number (drop (length (decimal file)) name) leads.rest whole (decimal_digits file small) leads.digits (other_plain (drop (length (decimal file)) name) ends) leads.plain in
      (sym same, ap is_other_suffix (sym rest) ∙ ends)

  -- and what the name then tells
  pub other_of_number : (file : ℕ) → number ≡ decimal file → is_other_file file name ≡ is_other_suffix leads.rest
  other_of_number file same =
      let front : take (length number) name ≡ number = ap (take (length number)) leads.name_is ∙ take-append_seam number leads.rest in
      subst (λ d. (bytes_eq (take (length d) name) d && is_other_suffix (drop (length d) name)) ≡ is_other_suffix leads.rest) same
      (ap (λ b. b && is_other_suffix (drop (length number) name)) ((bytes_eq-Decides (take (length number) name) number).1 front) ∙ ap is_other_suffix behind_number)

  pub no_other : (file : ℕ) → file < 2 ^ 64 → (number ≡ decimal file → is_other_suffix leads.rest ≡ true → ⊥) → is_other_file file name ≡ false
  no_other file small never = by (is_other_file file name) refl
    where
      by : (b : Bool) → is_other_file file name ≡ b → b ≡ false
      by true is = let (same, other) = other_number file small is in absurd (never same other)
      by false is = refl
