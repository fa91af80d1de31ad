-- Statements replayed one list after the other.
use Rattle.std.proofs.Common.{◌≡◌, List, [], ◌∷◌, ◌++◌, sym, ap, subst, ◌∙◌, append_assoc}
use Rattle.std.specs.List.{flat_map}
use Rattle.std.proofs.lemmas.List.{append-nil}
use Rattle.dump_grammar.specs.declared.statement.Statement.{Statement}
use Rattle.dump_rules.specs.Rules.{State, Replays}
use Rattle.catalog_laws.specs.Unrefused.{EachBehind}

pub Replays-append : (s m t : State) (xs ys : List Statement) → Replays s xs m → Replays m ys t → Replays s (xs ++ ys) t
Replays-append s m t [] ys h k = subst (λ (x : State). Replays x ys t) (sym h) k
Replays-append s m t (x ∷ xs) ys h k = (h.0, h.1, Replays-append h.0 m t xs ys h.2 k)

-- where the statements of each entry lead from those before it to those with it, the statements of all lead to all
rest_replays : {A : Type 0} (at : List A → State) (statements : A → List Statement) (whole front xs : List A) → whole ≡ front ++ xs
    → EachBehind (λ before x. Replays (at before) (statements x) (at (before ++ x ∷ []))) whole → Replays (at front) (flat_map statements xs) (at whole)
rest_replays at statements whole front [] is each = ap at (sym (append-nil front)) ∙ ap at (sym is)
rest_replays at statements whole front (x ∷ xs) is each =
    Replays-append (at front) (at (front ++ x ∷ [])) (at whole) (statements x) (flat_map statements xs) (each front x xs is)
    (rest_replays at statements whole (front ++ x ∷ []) xs (is ∙ sym (append_assoc front (x ∷ []) xs)) each)

pub each_replays : {A : Type 0} (at : List A → State) (statements : A → List Statement) (front xs : List A)
    → EachBehind (λ before x. Replays (at before) (statements x) (at (before ++ x ∷ []))) (front ++ xs) → Replays (at front) (flat_map statements xs) (at (front ++ xs))
each_replays {A = A} at statements front xs each = rest_replays at statements (front ++ xs) front xs (λ _. front ++ xs) each
