-- The files that are shared inside the outermost directories are those shared inside all.
use Rattle.std.proofs.Common.{◌↔◌, ℕ, List, [], ◌∷◌, Result, Ok, Err}
use Rattle.std.specs.Prelude.{IfOk}
use Rattle.std.specs.List.{AllByRecursion}
use Rattle.fs_model.specs.declared.error.FsError.{FsError}
use Rattle.fs_model.specs.Names.{Path}
use Rattle.fs_model.specs.State.{Names, FsState}
use Rattle.tree_checks.specs.Shared.{old_regions, new_regions}
use Rattle.tree_checks.proofs.Leasts.{least_by}
use Rattle.shared_inodes.specs.Counted.{AreShared}
use Rattle.shared_inodes.specs.Regions.{Cover}
use Rattle.shared_inodes.specs.SharedInodes.{IsSharedIn, IsShared, IsNumberOf, IsSharedInode, IsSharedNumber}
use Rattle.shared_inodes.specs.declared.shared.SharedFiles.{SharedFiles}

each_as : (P Q : Path → Type 0) → ((path : Path) → P path → Q path) → (paths : List Path) → AllByRecursion P paths → AllByRecursion Q paths
each_as P Q to [] all = tt
each_as P Q to (path ∷ paths) all = (to path all.0, each_as P Q to paths all.1)

number_as : (P Q : Path → Type 0) → ((path : Path) → P path → Q path) → ((path : Path) → Q path → P path) → (number : ℕ) → IsNumberOf P number → IsNumberOf Q number
number_as P Q to from number (paths, all, is) = (paths, record { ascending = all.ascending; each = each_as P Q to paths all.each; whole = λ path has. all.whole path (from path has) }, is)

-- shared inside other directories with the same paths
shared_as : (names : Names) (tops tops_2 others others_2 : List Path) → Cover tops_2 tops → Cover others_2 others → (path : Path) → IsSharedIn names tops others path ↔ IsSharedIn names tops_2 others_2 path
shared_as names tops tops_2 others others_2 cover other_cover path = (
  λ shared. (shared.0, (cover.same path).0 shared.1, shared.2, (shared.3.0, (other_cover.same shared.3.0).0 shared.3.1, shared.3.2)),
  λ shared. (shared.0, (cover.same path).1 shared.1, shared.2, (shared.3.0, (other_cover.same shared.3.0).1 shared.3.1, shared.3.2)),
)

module _ (s : FsState) (old new : Path) (old_tops new_tops : List Path) (old_cover : Cover (old_regions s.names old) old_tops) (new_cover : Cover (new_regions s.names old new) new_tops) where
  to : (path : Path) → IsSharedIn s.names new_tops old_tops path → IsShared s.names old new path
  to path shared = (shared_as s.names new_tops (new_regions s.names old new) old_tops (old_regions s.names old) new_cover old_cover path).0 shared

  from : (path : Path) → IsShared s.names old new path → IsSharedIn s.names new_tops old_tops path
  from path shared = (shared_as s.names new_tops (new_regions s.names old new) old_tops (old_regions s.names old) new_cover old_cover path).1 shared

  pub least_found : (result : Result SharedFiles FsError) → IfOk result (AreShared s.names new_tops old_tops) → IfOk result (λ shared. IsSharedInode s old new shared.least)
  least_found (Ok shared) are = least_by (IsSharedIn s.names new_tops old_tops) (IsShared s.names old new) shared.least to from are.least
  least_found (Err error) are = tt

  pub number_found : (result : Result SharedFiles FsError) → IfOk result (AreShared s.names new_tops old_tops) → IfOk result (λ shared. IsSharedNumber s old new shared.count)
  number_found (Ok shared) are = number_as (IsSharedIn s.names new_tops old_tops) (IsShared s.names old new) to from shared.count are.count
  number_found (Err error) are = tt
