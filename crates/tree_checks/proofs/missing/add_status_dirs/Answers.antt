use Rattle.std.proofs.Common.{◌≡◌, ◌∙◌, ◌++◌, [], ◌∷◌, List, ap, append_assoc}
use Rattle.fs_model.specs.Names.{Path}
use Rattle.tree_checks.proofs.missing.add_status_dirs.Goals as goal

three_pushed : (front one two three : List Path) (a b c p q r : Path) → one ≡ front ++ a ∷ [] → two ≡ one ++ b ∷ [] → three ≡ two ++ c ∷ [] → a ≡ p → b ≡ q → c ≡ r → three ≡ front ++ p ∷ q ∷ r ∷ []
three_pushed front one two three a b c p q r first second third is_a is_b is_c =
    third ∙ ap (λ l. l ++ c ∷ []) (second ∙ ap (λ l. l ++ b ∷ []) first) ∙ append_assoc (front ++ a ∷ []) (b ∷ []) (c ∷ []) ∙ append_assoc front (a ∷ []) (b ∷ c ∷ []) ∙ (λ i. front ++ is_a i ∷ is_b i ∷ is_c i ∷ [])

pub returns : goal.returns
returns c =
    three_pushed c.args.dirs.now.items c.push.new.self.items c.push-2.new.self.items c.push-3.new.self.items _ _ _ _ _ _
    c.in_ok-push.ensures.items c.in_ok-push-2.ensures.items c.in_ok-push-3.ensures.items c.in_ok-join.ensures.path c.in_ok-join-2.ensures.path c.in_ok-join-3.ensures.path
