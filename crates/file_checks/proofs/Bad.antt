-- The least bad names of a directory, with one name more.
use Rattle.std.proofs.Common.{◌≡◌, ◌∙◌, ℕ, ◌<◌, ◌^◌, Bool, true, false, cond, ◌&&◌, List, [], ◌∷◌, ◌++◌, Option, Some, None, refl, sym, ap, subst, arith, Decides}
use Rattle.std.specs.Prelude.{if◌then◌else◌, bytes_eq}
use Rattle.std.specs.Option.{option_map, unwrap_or}
use Rattle.std.specs.List.{find}
use Rattle.std.specs.Fmt.{decimal}
use Rattle.std.specs.FinMap.{FinMap, empty, get, get-empty}
use Rattle.std.proofs.lemmas.Slice.Eq.{bytes_eq-Decides}
use Rattle.fs_model.specs.Names.{Path, path_cmp}
use Rattle.fs_model.specs.declared.node.Node.TheVariants.{Dir}
use Rattle.fs_model.specs.State.{Names}
use Rattle.fs_model.specs.Calls.{children}
use Rattle.fs_model.specs.WellFormed.{IsTree}
use Rattle.fs_tools.specs.Children.{child_of}
use Rattle.tree_checks.specs.Findings.{IsLeast}
use Rattle.tree_checks.specs.MissingDirs.{is_no_file_in}
use Rattle.tree_checks.proofs.Leasts.{listed_least, none_least}
use Rattle.file_checks.specs.RelationFiles.{is_other_suffix, is_other_file, is_bad_file, IsBadFile}
use Rattle.file_checks.specs.Kept.{IsLeadingNumber, AreFirstBad, AreBadFiles, kept_at}
use Rattle.file_checks.proofs.Lists.{found_later, found_before}
use Rattle.file_checks.proofs.Locating.{same_child}
use Rattle.file_checks.proofs.Naming.{no_other, other_of_number}

find_same : {A : Type 0} (test : A → Bool) (xs : List A) (x : A) → test x ≡ false → find test (xs ++ x ∷ []) ≡ find test xs
find_same {A = A} test xs x fails = by (find test xs) refl
  where
    by : (o : Option A) → find test xs ≡ o → find test (xs ++ x ∷ []) ≡ o
    by None is = found_later test x xs is ∙ ap (λ b. cond b (Some x) None) fails
    by (Some y) is = found_before test x xs y is

module _ (names : Names) (dir : Path) (items : List (List ℕ)) (x : List ℕ) (bad : FinMap path_cmp Path) (so_far : AreFirstBad names dir items bad) where
  unchanged : ((file : ℕ) → file < 2 ^ 32 → is_bad_file names dir file x ≡ false) → AreFirstBad names dir (items ++ x ∷ []) bad
  unchanged fails file small = so_far file small ∙ ap (option_map (child_of dir)) (sym (find_same (is_bad_file names dir file) items x (fails file small)))

  -- a file is none of them
  pub file_passed : is_no_file_in names dir x ≡ false → AreFirstBad names dir (items ++ x ∷ []) bad
  file_passed file_there = unchanged (λ file small. by (is_other_file file x) (is_no_file_in names dir x) file_there)
    where
      by : (a b : Bool) → b ≡ false → (a && b) ≡ false
      by true b is = is
      by false b is = refl

  module _ (number : List ℕ) (leads : IsLeadingNumber number x) where
    -- nor is a name that is none of a relation's other files
    pub other_passed : is_other_suffix leads.rest ≡ false → AreFirstBad names dir (items ++ x ∷ []) bad
    other_passed fails =
        unchanged (λ file small. ap (λ b. b && is_no_file_in names dir x) (no_other number x leads file (omega (arith, small)) (λ same is. absurd (let e = sym fails ∙ is in cc e))))

    pub bad_added : (next : FinMap path_cmp Path) → is_other_suffix leads.rest ≡ true → is_no_file_in names dir x ≡ true → ((at : Path) → get next at ≡ kept_at (child_of dir number) (child_of dir x) bad at) → AreFirstBad names dir (items ++ x ∷ []) next
    bad_added next other none kept file small =
        kept (child_of dir (decimal file))
        ∙ ap (λ b. if b then Some (unwrap_or (get bad (child_of dir number)) (child_of dir x)) else get bad (child_of dir (decimal file))) (same_child dir (decimal file) number)
        ∙ by (bytes_eq (decimal file) number) (bytes_eq-Decides (decimal file) number)
      where
        test : List ℕ → Bool
        test = is_bad_file names dir file

        found_first : (o : Option (List ℕ)) → find test items ≡ o → test x ≡ true → Some (unwrap_or (option_map (child_of dir) o) (child_of dir x)) ≡ option_map (child_of dir) (find test (items ++ x ∷ []))
        found_first None is passes = ap (option_map (child_of dir)) (sym (found_later test x items is ∙ ap (λ b. cond b (Some x) None) passes))
        found_first (Some y) is passes = ap (option_map (child_of dir)) (sym (found_before test x items y is))

        by : (b : Bool) → Decides b (decimal file ≡ number) → (if b then Some (unwrap_or (get bad (child_of dir number)) (child_of dir x)) else get bad (child_of dir (decimal file))) ≡ option_map (child_of dir) (find test (items ++ x ∷ []))
        by true decides =
            let same : number ≡ decimal file = sym (decides.0 refl) in
            let passes : test x ≡ true = ap (λ b. b && is_no_file_in names dir x) (other_of_number number x leads file same ∙ other) ∙ none in
            ap (λ o. Some (unwrap_or o (child_of dir x))) (ap (λ n. get bad (child_of dir n)) same ∙ so_far file small) ∙ found_first (find test items) refl passes
        by false decides =
            so_far file small ∙ ap (option_map (child_of dir)) (sym (find_same test items x
            (ap (λ b. b && is_no_file_in names dir x) (no_other number x leads file (omega (arith, small)) (λ same is. absurd (let e = decides.1 (sym same) in cc e))))))

pub none_bad : (names : Names) (dir : Path) (bad : FinMap path_cmp Path) → bad ≡ empty → AreFirstBad names dir [] bad
none_bad names dir bad is file small = ap (λ (m : FinMap path_cmp Path). get m (child_of dir (decimal file))) is ∙ get-empty path_cmp (child_of dir (decimal file))

-- of all names of a directory the first is the least
pub listed_bad_files : (names : Names) (dir : Path) (items : List (List ℕ)) (bad : FinMap path_cmp Path) → items ≡ children names dir → AreFirstBad names dir items bad → AreBadFiles names dir bad
listed_bad_files names dir items bad is first file small =
    subst (IsLeast (IsBadFile names dir file)) (sym (first file small ∙ ap (λ l. option_map (child_of dir) (find (is_bad_file names dir file) l)) is)) (listed_least names dir (is_bad_file names dir file))

pub unlisted_bad_files : (names : Names) (dir : Path) (bad : FinMap path_cmp Path) → IsTree names → (get names dir ≡ Some Dir → ⊥) → bad ≡ empty → AreBadFiles names dir bad
unlisted_bad_files names dir bad tree other is file small =
    subst (IsLeast (IsBadFile names dir file)) (sym (none_bad names dir bad is file small)) (none_least names tree dir (is_bad_file names dir file) other)
