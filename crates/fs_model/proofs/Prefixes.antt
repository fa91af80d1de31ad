-- A path is under another where that one is its front.
use Rattle.std.proofs.Common.{◌≡◌, ◌++◌, ◌∙◌, ℕ, Bool, true, min, length, take, drop, ap, sym, arith, length-append, IsTrue}
use Rattle.std.proofs.lemmas.List.{take-append-drop}
use Rattle.std.proofs.Math.Seq.{take-append_seam}
use Rattle.fs_model.specs.Names.{Path, IsUnder, is_under, same_path}
use Rattle.fs_model.specs.PathLaws.{same_path_true, same_path_refl}

pub under : (top path : Path) (n : ℕ) (b : Bool) → n ≡ min (length top) (length path) → b ≡ same_path (take n path) top → (IsTrue b → IsUnder top path) × (IsUnder top path → IsTrue b)
under top path n b is_len is = (found, made)
  where
    found : IsTrue b → IsUnder top path
    found passes = (drop n path, sym (take-append-drop n path) ∙ ap (λ front. front ++ drop n path) (same_path_true (take n path) top (sym is ∙ passes)))

    made : IsUnder top path → IsTrue b
    made (rest, whole) =
        let len : n ≡ length top = omega (arith, simp length-append at (ap length whole)) in
        let front : take n path ≡ top = (λ i. take (len i) (whole i)) ∙ take-append_seam top rest in
        is ∙ ap (λ p. same_path p top) front ∙ same_path_refl top

-- the test tells it
pub is_under_true : (top path : Path) → is_under top path ≡ true → IsUnder top path
is_under_true top path e = (drop (length top) path, sym (take-append-drop (length top) path) ∙ ap (λ front. front ++ drop (length top) path) (same_path_true (take (length top) path) top e))

pub is_under_made : (top path : Path) → IsUnder top path → is_under top path ≡ true
is_under_made top path (rest, whole) = ap (λ p. same_path (take (length top) p) top) whole ∙ ap (λ p. same_path p top) (take-append_seam top rest) ∙ same_path_refl top
