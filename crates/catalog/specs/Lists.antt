-- Lists whose entries are to differ, and a list with one entry changed.
use Rattle.std.specs.Prelude.{Bool, true, not, ◌&&◌, ◌||◌, List, [], ◌∷◌, if◌then◌else◌}
use Rattle.std.specs.List.{list_any}

-- whether no two entries are the same, by a test
abbrev pub are_distinct : {A : Type 0} → (A → A → Bool) → List A → Bool
are_distinct same [] = true
are_distinct same (x ∷ xs) = not (list_any (same x) xs) && are_distinct same xs

-- whether one of these is in use
abbrev pub in_use : {A : Type 0} → (A → A → Bool) → List A → List A → Bool
in_use same added used = list_any (λ x. list_any (same x) used) added

-- whether these can't join those in use: two of them are the same, or one is in use
abbrev pub clash : {A : Type 0} → (A → A → Bool) → List A → List A → Bool
clash same added used = not (are_distinct same added) || in_use same added used

-- the list with its first entry that passes changed
abbrev pub change_first : {A : Type 0} → (A → Bool) → (A → A) → List A → List A
change_first passes change [] = []
change_first passes change (x ∷ xs) = if passes x then change x ∷ xs else x ∷ change_first passes change xs
