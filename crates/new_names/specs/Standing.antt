-- What stands once names were made.
use Rattle.std.specs.Prelude.{◌≡◌, ◌≢◌, ℕ, List, ◌∷◌, [], Some}
use Rattle.std.specs.List.{Contains}
use Rattle.std.specs.FinMap.{get}
use Rattle.fs_model.specs.declared.node.Node.{Node}
use Rattle.fs_model.specs.declared.node.Node.TheVariants as node
use Rattle.fs_model.specs.declared.effect.Effect.TheVariants.{NewDir}
use Rattle.fs_model.specs.Names.{Path, parent}
use Rattle.fs_model.specs.State.{FsState}
use Rattle.fs_model.specs.Effects.{apply, with_change}
use Rattle.fs_model.specs.Calls.{device_of}
use Rattle.fs_tools.specs.Made.{MakesFile}
use Rattle.new_names.specs.declared.names.NewName.{NewName}
use Rattle.new_names.specs.declared.names.NewNode.{NewNode}
use Rattle.new_names.specs.declared.names.NewNode.TheVariants.{Dir, File, Sym}

-- the path has this, a file with these bytes
abbrev pub Has : FsState → Path → NewNode → Type 0
Has s path Dir = get s.names path ≡ Some node.Dir
Has s path (File bytes) = (inode : ℕ) × (get s.names path ≡ Some (node.File inode)) × (get s.bytes inode ≡ Some bytes)
Has s path (Sym target) = get s.names path ≡ Some (node.Sym target)

abbrev pub AllStand : FsState → List NewName → Type 0
AllStand s names = (name : NewName) → Contains names name → Has s name.path name.node

-- the state t is s with the one name
abbrev pub Makes : FsState → Path → NewNode → FsState → Type 0
Makes s path Dir t = t ≡ apply s (NewDir path (device_of s (parent path)))
Makes s path (File bytes) t = MakesFile s path bytes t
Makes s path (Sym target) t = t ≡ with_change s ((path, Some (node.Sym target)) ∷ [])

-- what s has, t has too
pub record Adds (s t : FsState) : Type 0 where
  pub names : (path : Path) (found : Node) → get s.names path ≡ Some found → get t.names path ≡ Some found
  pub bytes : (inode : ℕ) (bytes : List ℕ) → get s.bytes inode ≡ Some bytes → get t.bytes inode ≡ Some bytes

-- the state t is s with the file at a path made anew
pub record Remakes (s : FsState) (path : Path) (content : List ℕ) (t : FsState) : Type 0 where
  pub file : Has t path (File content)
  pub names : (other : Path) → other ≢ path → get t.names other ≡ get s.names other
  pub bytes : (inode : ℕ) (found : List ℕ) → get s.bytes inode ≡ Some found → get t.bytes inode ≡ Some found
