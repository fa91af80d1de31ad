-- What is kept of the names that are walked.
use Rattle.std.specs.Prelude.{◌+◌, ◌-◌, ◌^◌, ℕ, min, Bool, false, if◌then◌else◌, List, Option, Some, None}
use Rattle.std.specs.Ordering.{nat_cmp}
use Rattle.std.specs.FinMap.{FinMap, insert, contains_key}
use Rattle.fs_model.specs.declared.node.Kind.{Kind}
use Rattle.fs_model.specs.declared.node.Kind.TheVariants.{Dir, File, Sym}
use Rattle.fs_model.specs.declared.node.Stat.{Stat}
use Rattle.fs_model.specs.Names.{Path}
use Rattle.fs_model.specs.State.{Names}
use Rattle.tree_checks.specs.Findings.{IsLeast}
use Rattle.shared_inodes.specs.declared.shared.SharedFiles.{SharedFiles}
use Rattle.shared_inodes.specs.SharedInodes.{IsSharedIn, IsNumberOf}

abbrev pub Inodes : Type 0
Inodes = FinMap nat_cmp (Unit {0})

-- the inodes with that of what stands there, where it is a file
abbrev pub with_kind : Inodes → Kind → ℕ → Inodes
with_kind inodes Dir inode = inodes
with_kind inodes File inode = insert inodes inode tt
with_kind inodes Sym inode = inodes

abbrev pub with_inode : Inodes → Stat → Inodes
with_inode inodes stat = with_kind inodes stat.kind stat.identity.inode

-- whether what stands there is a file of one of the inodes
abbrev pub is_kind_in : Inodes → Kind → ℕ → Bool
is_kind_in inodes Dir inode = false
is_kind_in inodes File inode = contains_key inodes inode
is_kind_in inodes Sym inode = false

abbrev pub is_in : Inodes → Stat → Bool
is_in inodes stat = is_kind_in inodes stat.kind stat.identity.inode

-- the first of two paths, where there is one
abbrev pub or_path : Option Path → Path → Option Path
or_path None path = Some path
or_path (Some first) path = Some first

-- one more was found, behind the others
abbrev pub with_path : SharedFiles → Path → SharedFiles
with_path found path = record { count = min (found.count + 1) (2 ^ 64 - 1); least = or_path found.least path }

-- these were found, and what stands at the path counts where it is a file of one of the inodes
abbrev pub counted : Inodes → SharedFiles → Path → Stat → SharedFiles
counted inodes found path stat = if is_in inodes stat then with_path found path else found

-- the number and the least of the names inside the first directories of files that have one inside the others
pub record AreShared (names : Names) (tops others : List Path) (shared : SharedFiles) : Type 0 where
  pub count : IsNumberOf (IsSharedIn names tops others) shared.count
  pub least : IsLeast (IsSharedIn names tops others) shared.least
