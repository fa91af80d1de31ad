-- What a rename that is put on the disk leaves.
use Rattle.std.specs.Prelude.{◌≡◌, ℕ, not, [], ◌∷◌, Some, None}
use Rattle.std.specs.List.{filter}
use Rattle.std.specs.FinMap.{get}
use Rattle.fs_model.specs.declared.node.Node.TheVariants.{File}
use Rattle.fs_model.specs.Names.{Path}
use Rattle.fs_model.specs.State.{FsState}
use Rattle.fs_model.specs.Effects.{changed, is_in}
use Rattle.fs_model.specs.Calls.{Call, Renames, SyncsDir}

-- The state t is s with the file of `from` under the name `to`, and the changes of their directory on the disk.
pub record IsRenamed (s : FsState) (from to dir : Path) (t : FsState) : Type 0 where
  pub inode : ℕ
  pub named : get s.names from ≡ Some (File inode)
  pub names : t.names ≡ changed s.names ((from, None) ∷ (to, Some (File inode)) ∷ [])
  pub pending : t.pending ≡ filter (λ change. not (is_in dir change)) s.pending
  pub dirty : t.dirty ≡ s.dirty

-- the rename, or the sync of the directory
abbrev pub Disables : Path → Path → Path → FsState → Call → Type 0
Disables control renamed dir s (Renames from to) = (from ≡ control) × (to ≡ renamed)
Disables control renamed dir s (SyncsDir path) = path ≡ dir
Disables control renamed dir s call = ⊥
