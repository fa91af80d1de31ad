-- What a crash may leave.
use Rattle.std.specs.Prelude.{◌≡◌, ℕ, Bool, true, false, not, List, [], ◌∷◌, Some, is_some, IsSomeAnd}
use Rattle.std.specs.FinMap as map
use Rattle.fs_model.specs.declared.node.Node.TheVariants.{File}
use Rattle.fs_model.specs.Names.{Path}
use Rattle.fs_model.specs.State.{Names, Change, FsState}
use Rattle.fs_model.specs.Effects.{all_changed}
use Rattle.fs_model.specs.Calls.{blocked, AreBytes}

-- the second list has some of the first list's changes, in their order
pub data IsSubsequence : List Change → List Change → Type 0 where
  none : IsSubsequence [] []
  with : {change : Change} {changes picked : List Change} → IsSubsequence changes picked → IsSubsequence (change ∷ changes) (change ∷ picked)
  without : {change : Change} {changes picked : List Change} → IsSubsequence changes picked → IsSubsequence (change ∷ changes) picked

-- whether each proper prefix is a directory
abbrev pub is_reached : Names → Path → Bool
is_reached names path = not (is_some (blocked names path))

-- the names without those that have a proper prefix that is no directory
abbrev pub reached : Names → Names
reached names = map.retain_keys names (is_reached names)

-- A crash of s may leave x: some of the pending changes came onto the disk, each whole, a file that was not on the disk has
-- any bytes, and all that is left is on the disk.
pub record Image (s x : FsState) : Type 0 where
  pub picked : List Change
  pub some : IsSubsequence s.pending picked
  pub names : x.names ≡ reached (all_changed s.names_kept picked)
  pub clean : (inode : ℕ) → map.contains_key s.dirty inode ≡ false → map.get x.bytes inode ≡ map.get s.bytes_kept inode
  pub torn : (inode : ℕ) → map.contains_key s.dirty inode ≡ true → IsSomeAnd (map.get x.bytes inode) AreBytes
  pub names_kept : x.names_kept ≡ x.names
  pub bytes_kept : x.bytes_kept ≡ x.bytes
  pub nothing_pending : x.pending ≡ []
  pub nothing_dirty : x.dirty ≡ map.empty
  pub devices : x.devices ≡ s.devices

-- All that has a name is on the disk.
pub record Settled (s : FsState) : Type 0 where
  pub nothing_pending : s.pending ≡ []
  pub names : s.names_kept ≡ s.names
  pub clean : (path : Path) (inode : ℕ) → map.get s.names path ≡ Some (File inode) → map.contains_key s.dirty inode ≡ false
  pub bytes : (path : Path) (inode : ℕ) → map.get s.names path ≡ Some (File inode) → map.get s.bytes_kept inode ≡ map.get s.bytes inode
