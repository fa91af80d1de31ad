-- The files of relations by the directories that are kept for their tablespaces.
use Rattle.std.specs.Prelude.{ℕ, if◌then◌else◌, List, [], ◌∷◌, ◌++◌, Option, Some, None}
use Rattle.std.specs.Ordering.{nat_cmp}
use Rattle.std.specs.FinMap.{FinMap, get}
use Rattle.std.specs.Fmt.{decimal}
use Rattle.fs_model.specs.Names.{Path}
use Rattle.new_names.specs.declared.names.NewName.{NewName}
use Rattle.new_names.specs.declared.names.NewNode.TheVariants.{File}
use Rattle.catalog_server.specs.declared.relation.Relation.{Relation}
use Rattle.catalog_server.specs.ReplayNames.{is_new_relation}

-- the first of the two, where there is one
abbrev pub first_of : {X : Type 0} → Option X → Option X → Option X
first_of None later = later
first_of (Some x) later = Some x

-- an empty file in a database's directory, below the directory of a tablespace
abbrev pub file_in : Path → ℕ → ℕ → List NewName
file_in directory database file = record { path = directory ++ decimal database ∷ decimal file ∷ []; node = File [] } ∷ []

abbrev pub file_at : ℕ → ℕ → Option Path → List NewName
file_at database file None = []
file_at database file (Some directory) = file_in directory database file

-- a new relation's main file, by the directories of tablespaces
abbrev pub relation_in : FinMap nat_cmp Path → ℕ → List Relation → Relation → List NewName
relation_in directories database earlier relation =
    if is_new_relation earlier relation then file_at database relation.file (get directories relation.tablespace) else []
