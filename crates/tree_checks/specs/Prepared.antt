-- Prepared transactions.
use Rattle.std.specs.Prelude.{ℕ, Bool, true, false, not, ◌&&◌, List, [], ◌∷◌, ◌++◌, codes, Option, Some, None, is_some}
use Rattle.std.specs.FinMap.{get}
use Rattle.fs_model.specs.Names.{Path}
use Rattle.fs_model.specs.State.{Names}
use Rattle.tree_checks.specs.Looks.{names_at}

-- the directory that has a file for each prepared transaction
abbrev pub twophase_at : Path → Path
twophase_at root = root ++ codes "pg_twophase" ∷ []

-- whether these are the names in an empty directory; None stands for what is no directory
abbrev pub is_empty : Option (List (List ℕ)) → Bool
is_empty None = false
is_empty (Some []) = true
is_empty (Some (name ∷ names)) = false

-- whether something stands at the path that is no empty directory
abbrev pub is_filled : Names → Path → Bool
is_filled names path = is_some (get names path) && not (is_empty (names_at names path))
