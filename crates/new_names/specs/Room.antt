-- What has to stand, and what mustn't, before names are made in turn.
use Rattle.std.specs.Prelude.{◌≡◌, ◌≢◌, ◌⊎◌, List, [], ◌∷◌, Some, None}
use Rattle.std.specs.FinMap.{get}
use Rattle.fs_model.specs.declared.node.Node.TheVariants as node
use Rattle.fs_model.specs.Names.{Path, parent}
use Rattle.fs_model.specs.State.{FsState}
use Rattle.new_names.specs.declared.names.NewName.{NewName}
use Rattle.new_names.specs.declared.names.NewNode.TheVariants.{Dir}

-- none of these names is at the path
abbrev pub IsApart : List NewName → Path → Type 0
IsApart [] path = Unit {0}
IsApart (name ∷ names) path = (path ≢ name.path) × IsApart names path

-- a directory stands at the path, or is one of the names
abbrev pub HasDirectory : FsState → List NewName → Path → Type 0
HasDirectory s [] path = get s.names path ≡ Some node.Dir
HasDirectory s (name ∷ names) path = (name ≡ record { path = path; node = Dir }) ⊎ HasDirectory s names path

-- Each of the names is free in s, none is at the path of an earlier one, and each is in a directory that stands or is an
-- earlier name. The earlier ones begin with these, the latest first.
abbrev pub HasRoomAfter : FsState → List NewName → List NewName → Type 0
HasRoomAfter s earlier [] = Unit {0}
HasRoomAfter s earlier (name ∷ names) =
    (get s.names name.path ≡ None) × IsApart earlier name.path × HasDirectory s earlier (parent name.path) × HasRoomAfter s (name ∷ earlier) names

-- there is room for names that are made in this order
abbrev pub HasRoomFor : FsState → List NewName → Type 0
HasRoomFor s names = HasRoomAfter s [] names
