-- The directories that say how transactions ended, and what carrying them from one cluster to another leaves.
use Rattle.std.specs.Prelude.{◌++◌, List, [], ◌∷◌, codes}
use Rattle.fs_model.specs.Names.{Path}
use Rattle.fs_model.specs.State.{Names, FsState}
use Rattle.status_transfer.specs.Carried.{CarriesDir, HoldsFiles}

-- of the transactions
abbrev pub commit_log_dir : Path → Path
commit_log_dir root = root ++ codes "pg_xact" ∷ []

-- of the multixacts: where the members of each begin, and the members
abbrev pub offsets_dir : Path → Path
offsets_dir root = root ++ codes "pg_multixact" ∷ codes "offsets" ∷ []

abbrev pub members_dir : Path → Path
members_dir root = root ++ codes "pg_multixact" ∷ codes "members" ∷ []

abbrev pub multixact_dirs : Path → List Path
multixact_dirs root = offsets_dir root ∷ members_dir root ∷ []

abbrev pub status_dirs : Path → List Path
status_dirs root = commit_log_dir root ∷ multixact_dirs root

-- Both directories of multixacts of the new cluster have in t exactly the names and bytes that those of the old one have in s, in inodes that
-- s had not.
pub record CarriesMultixacts (s : FsState) (old new : Path) (t : FsState) : Type 0 where
  pub offsets : CarriesDir s (offsets_dir old) (offsets_dir new) t
  pub members : CarriesDir s (members_dir old) (members_dir new) t

-- the same of all three
pub record CarriesStatus (s : FsState) (old new : Path) (t : FsState) : Type 0 where
  pub commit_log : CarriesDir s (commit_log_dir old) (commit_log_dir new) t
  pub multixacts : CarriesMultixacts s old new t

-- the directories stand and hold files alone
pub record HoldsMultixacts (names : Names) (root : Path) : Type 0 where
  pub offsets : HoldsFiles names (offsets_dir root)
  pub members : HoldsFiles names (members_dir root)

pub record HoldsStatus (names : Names) (root : Path) : Type 0 where
  pub commit_log : HoldsFiles names (commit_log_dir root)
  pub multixacts : HoldsMultixacts names root
