-- What a check of files finds: a path, or none.
use Rattle.std.specs.Prelude.{◌≡◌, ◌≢◌, ◌⊎◌, Bool, if◌then◌else◌, List, [], ◌∷◌, Option, Some, None}
use Rattle.std.specs.Ordering.{is_lt}
use Rattle.std.specs.declared.cmp.Ordering.TheVariants.{Less}
use Rattle.fs_model.specs.Names.{Path, path_cmp}

-- the least path that has P, or none where no path has it
abbrev pub IsLeast : (Path → Type 0) → Option Path → Type 0
IsLeast P None = (path : Path) → P path → ⊥
IsLeast P (Some least) = P least × ((path : Path) → P path → path_cmp path least ≢ Less)

-- this path, where the test passes
abbrev pub found_if : Bool → Path → Option Path
found_if test path = if test then Some path else None

-- the first finding of two
abbrev pub IsFirstOf : (Option Path → Type 0) → (Option Path → Type 0) → Option Path → Type 0
IsFirstOf First Later None = First None × Later None
IsFirstOf First Later (Some path) = First (Some path) ⊎ (First None × Later (Some path))

-- the first finding of those that the things in a list have
abbrev pub IsFirstAmong : {A : Type 0} → (A → Option Path → Type 0) → List A → Option Path → Type 0
IsFirstAmong Finds [] found = found ≡ None
IsFirstAmong Finds (x ∷ xs) found = IsFirstOf (Finds x) (IsFirstAmong Finds xs) found

-- the lesser of two paths, where there are two
abbrev pub lesser : Option Path → Option Path → Option Path
lesser None two = two
lesser (Some one) None = Some one
lesser (Some one) (Some two) = if is_lt (path_cmp two one) then Some two else Some one
