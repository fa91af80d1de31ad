-- The text of a path, one name after another.
use Rattle.std.proofs.Common.{◌≡◌, ◌<◌, ◌+◌, ◌++◌, ◌∷◌, [], ◌∙◌, ℕ, List, length, take, get_or, ap, sym, refl, append_assoc, add-one}
use Rattle.std.proofs.Math.Seq.{take-suc}
use Rattle.fs_model.specs.Names.{Path, slash}
use Rattle.fs_model.specs.PathText.{joined}

joined_push : (names : Path) (name : List ℕ) → joined (names ++ name ∷ []) ≡ joined names ++ (slash ∷ name)
joined_push [] name = ap (λ rest. slash ∷ rest) (append-nil name)
  where
    append-nil : (bytes : List ℕ) → bytes ++ [] ≡ bytes
    append-nil [] = refl
    append-nil (b ∷ bytes) = ap (λ rest. b ∷ rest) (append-nil bytes)
joined_push (first ∷ names) name =
    ap (λ rest. (slash ∷ first) ++ rest) (joined_push names name) ∙ sym (append_assoc (slash ∷ first) (joined names) (slash ∷ name))

-- one name more behind the first ones
pub joined_next : (names : Path) (index : ℕ) (name before marked after : List ℕ) → index < length names → name ≡ get_or names index name
    → before ≡ joined (take index names) → marked ≡ before ++ (slash ∷ []) → after ≡ marked ++ name → after ≡ joined (take (index + 1) names)
joined_next names index name before marked after below is was mark push =
    push ∙ ap (λ bytes. bytes ++ name) (mark ∙ ap (λ bytes. bytes ++ (slash ∷ [])) was)
    ∙ append_assoc (joined (take index names)) (slash ∷ []) name
    ∙ sym (joined_push (take index names) name)
    ∙ ap joined (ap (λ n. take index names ++ n ∷ []) is ∙ sym (take-suc names index name below) ∙ ap (λ n. take n names) (sym (add-one index)))
