-- The text of a path behind what was written before, one name after another.
use Rattle.std.proofs.Common.{◌≡◌, ◌<◌, ◌+◌, ◌++◌, ◌∷◌, [], ◌∙◌, ℕ, suc, List, length, take, drop, get_or, ap, refl, sym, arith, append_assoc, drop-cons}
use Rattle.std.proofs.lemmas.List.{take-append-drop}
use Rattle.fs_model.specs.Names.{Path, slash}
use Rattle.fs_model.specs.PathText.{joined, text_of}
use Rattle.fs_model.proofs.Joins.{joined_next}

-- one name more
pub named_next : (names : Path) (index : ℕ) (name start before after : List ℕ) → index < length names → name ≡ get_or names index name
    → before ≡ start ++ joined (take index names) → after ≡ before ++ (slash ∷ name) → after ≡ start ++ joined (take (index + 1) names)
named_next names index name start before after below is was push =
    let done = joined (take index names) in
    push ∙ ap (λ bytes. bytes ++ (slash ∷ name)) was ∙ append_assoc start done (slash ∷ name)
    ∙ ap (λ rest. start ++ rest) (sym (append_assoc done (slash ∷ []) name) ∙ joined_next names index name done (done ++ slash ∷ []) ((done ++ slash ∷ []) ++ name) below is refl refl refl)

joined_append : (names more : Path) → joined (names ++ more) ≡ joined names ++ joined more
joined_append [] more = refl
joined_append (first ∷ names) more = ap (λ rest. (slash ∷ first) ++ rest) (joined_append names more) ∙ sym (append_assoc (slash ∷ first) (joined names) (joined more))

-- the text of the names before one, of this one, and of those behind it
pub text_around : (names : Path) (index : ℕ) (name : List ℕ) → index < length names → name ≡ get_or names index name → (joined (take index names) ++ (slash ∷ name)) ++ joined (drop (suc index) names) ≡ text_of names
text_around names index name below is =
    append_assoc (joined (take index names)) (slash ∷ name) (joined (drop (suc index) names))
    ∙ ap (λ n. joined (take index names) ++ ((slash ∷ n) ++ joined (drop (suc index) names))) is
    ∙ ap (λ rest. joined (take index names) ++ joined rest) (sym (drop-cons names index name below))
    ∙ sym (joined_append (take index names) (drop index names)) ∙ ap joined (take-append-drop index names) ∙ text_is names index below
  where
    text_is : (names : Path) (index : ℕ) → index < length names → joined names ≡ text_of names
    text_is [] index below = absurd (omega arith)
    text_is (first ∷ names) index below = refl
