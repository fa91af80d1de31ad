-- What an effect does to a state.
use Rattle.std.specs.Prelude.{ℕ, Bool, false, not, List, [], ◌∷◌, ◌++◌, Option, Some, None}
use Rattle.std.specs.Option.{unwrap_or}
use Rattle.std.specs.List.{filter}
use Rattle.std.specs.FinMap as map
use Rattle.fs_model.specs.declared.node.Node.{Node}
use Rattle.fs_model.specs.declared.node.Node.TheVariants.{Dir, File}
use Rattle.fs_model.specs.declared.effect.Effect.{Effect}
use Rattle.fs_model.specs.declared.effect.Effect.TheVariants.{Nothing, Names as ChangeNames, NewFile, NewDir, Bytes, KeepBytes, KeepNames}
use Rattle.fs_model.specs.Names.{Path, same_path, parent}
use Rattle.fs_model.specs.State.{Names, Contents, Change, FsState}

abbrev pub set_name : Names → Path → Option Node → Names
set_name names path (Some node) = map.insert names path node
set_name names path None = map.remove names path

-- the names with a change, the first pair of it first
abbrev pub changed : Names → Change → Names
changed names [] = names
changed names (pair ∷ pairs) = changed (set_name names pair.0 pair.1) pairs

-- the names with several changes, the first of them first
abbrev pub all_changed : Names → List Change → Names
all_changed names [] = names
all_changed names (change ∷ changes) = all_changed (changed names change) changes

-- whether the change is one of names in this directory
abbrev pub is_in : Path → Change → Bool
is_in dir [] = false
is_in dir (pair ∷ pairs) = same_path (parent pair.0) dir

-- an inode's bytes, where it has any
abbrev pub bytes_of : Contents → ℕ → List ℕ
bytes_of contents inode = unwrap_or (map.get contents inode) []

-- the names change now, and wait to be put on the disk
abbrev pub with_change : FsState → Change → FsState
with_change s change = record s { names = changed s.names change; pending = s.pending ++ change ∷ [] }

-- the inode has these bytes now, and they are not on the disk
abbrev pub with_bytes : FsState → ℕ → List ℕ → FsState
with_bytes s inode bytes = record s { bytes = map.insert s.bytes inode bytes; dirty = map.insert s.dirty inode tt }

abbrev pub apply : FsState → Effect → FsState
apply s Nothing = s
apply s (ChangeNames change) = with_change s change
apply s (NewFile path inode) = with_bytes (with_change s ((path, Some (File inode)) ∷ [])) inode []
apply s (NewDir path device) = let t = with_change s ((path, Some Dir) ∷ []) in record t { devices = map.insert s.devices path device }
apply s (Bytes inode bytes) = with_bytes s inode bytes
apply s (KeepBytes inode) = record s { bytes_kept = map.insert s.bytes_kept inode (bytes_of s.bytes inode); dirty = map.remove s.dirty inode }
apply s (KeepNames dir) = record s {
  names_kept = all_changed s.names_kept (filter (is_in dir) s.pending);
  pending = filter (λ change. not (is_in dir change)) s.pending;
}

-- several effects, the first of them first
abbrev pub apply_all : FsState → List Effect → FsState
apply_all s [] = s
apply_all s (effect ∷ effects) = apply_all (apply s effect) effects
