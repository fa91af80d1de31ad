-- What a crash leaves, as it is picked.
use Rattle.std.specs.Prelude.{ℕ, Bool, cond, List, [], ◌∷◌}
use Rattle.std.specs.Option.{unwrap_or}
use Rattle.std.specs.List.{AllByRecursion}
use Rattle.std.specs.Ordering.{nat_cmp}
use Rattle.std.specs.FinMap as map
use Rattle.fs_model.specs.Names.{Path}
use Rattle.fs_model.specs.State.{Names, Contents, Change, FsState}
use Rattle.fs_model.specs.Effects.{all_changed, bytes_of}
use Rattle.fs_model.specs.Calls.{AreBytes}
use Rattle.fs_model.specs.Crash.{reached}
use Rattle.fs_state.specs.Settled.{settled}

-- which waiting changes came onto the disk, by their places, and which bytes inodes have that were not on the disk
pub record Picked : Type 0 where
  pub changes : List Bool
  pub bytes : List (ℕ × List ℕ)

-- the changes at the places of `true`; those past the end are left out
abbrev pub chosen : List Change → List Bool → List Change
chosen [] picks = []
chosen (change ∷ changes) [] = chosen changes []
chosen (change ∷ changes) (pick ∷ picks) = cond pick (change ∷ chosen changes picks) (chosen changes picks)

-- the bytes that are named first for the inode, or else those that it has now
abbrev pub left_bytes : Contents → List (ℕ × List ℕ) → ℕ → List ℕ
left_bytes now named inode = unwrap_or (map.find nat_cmp inode named) (bytes_of now inode)

-- the contents with other bytes at these inodes
abbrev pub with_all : (ℕ → List ℕ) → Contents → List ℕ → Contents
with_all bytes contents [] = contents
with_all bytes contents (inode ∷ inodes) = with_all bytes (map.insert contents inode (bytes inode)) inodes

-- The image that the pick names: the changes that it picks are on the disk, each whole, names that are then not reached are
-- gone, and an inode that was not on the disk has the bytes that the pick names, or those that it has now.
abbrev pub image_of : FsState → Picked → FsState
image_of s pick = settled (reached (all_changed s.names_kept (chosen s.pending pick.changes))) (with_all (left_bytes s.bytes pick.bytes) s.bytes_kept (map.keys s.dirty)) s.devices

-- the names without those of these paths that fail the test
abbrev pub without_failing : (Path → Bool) → Names → List Path → Names
without_failing test names [] = names
without_failing test names (p ∷ paths) = without_failing test (cond (test p) names (map.remove names p)) paths

-- each list of bytes that the pick names has bytes alone
abbrev pub NamesBytes : Picked → Type 0
NamesBytes pick = AllByRecursion (λ item. AreBytes item.1) pick.bytes
