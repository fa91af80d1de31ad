-- The text of a place is the text of its path.
use Rattle.std.proofs.Common.{◌≡◌, ◌∷◌, [], ◌∙◌, ℕ, List, sym, refl, arith}
use Rattle.fs_model.specs.Names.{Path}
use Rattle.fs_model.specs.PathText.{joined, text_of}

pub shown_root : (path : Path) (bytes : List ℕ) → bytes ≡ joined path → bytes ≡ [] → ◌≡◌ {A = List ℕ} (47 ∷ []) (text_of path)
shown_root [] bytes is none = refl
shown_root (name ∷ names) bytes is none = absurd (grind (arith, sym is ∙ none))

pub shown_other : (path : Path) (bytes : List ℕ) → bytes ≡ joined path → (bytes ≡ [] → ⊥) → bytes ≡ text_of path
shown_other [] bytes is some = absurd (some is)
shown_other (name ∷ names) bytes is some = is
