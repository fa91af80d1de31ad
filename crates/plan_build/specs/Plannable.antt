-- What a plan by a file map needs of a state, and when a plan is of a state.
use Rattle.std.specs.Prelude.{◌≡◌, ◌≢◌, ◌<◌, ◌^◌, ℕ, true, List, [], ◌∷◌, Some, is_some}
use Rattle.std.specs.List.{AllByRecursion}
use Rattle.std.specs.FinMap.{get}
use Rattle.fs_model.specs.declared.node.Node.{Node}
use Rattle.fs_model.specs.declared.node.Node.TheVariants.{Dir, File, Sym}
use Rattle.fs_model.specs.State.{FsState}
use Rattle.relation_files.specs.declared.relation.Fork.{Fork}
use Rattle.relation_files.specs.declared.relation.Fork.TheVariants.{Main}
use Rattle.transfer_plan.specs.declared.plan.PlanItem.{PlanItem}
use Rattle.relation_map.specs.declared.map.MapEntry.{MapEntry}
use Rattle.relation_map.specs.Equal.{Carriage}
use Rattle.plan_build.specs.Planned.{file_at, files_in, carriages, plan_in, HasEnds}

abbrev pub IsFile : Node → Type 0
IsFile (File inode) = Unit {0}
IsFile Dir = ⊥
IsFile (Sym target) = ⊥

-- The first segment of the main fork is a file, and so is each other segment of a fork that stands in the old directory. The
-- new one is a directory, in which none of these names is one.
pub record IsPlannable (s : FsState) (entry : Carriage) : Type 0 where
  pub number : entry.file < 2 ^ 32
  pub first : is_some (files_in s entry.from_dir entry.file Main 0) ≡ true
  pub files : (fork : Fork) (segment : ℕ) (node : Node) → segment < 2 ^ 32 → get s.names (file_at entry.from_dir entry.file fork segment) ≡ Some node → IsFile node
  pub dir : get s.names entry.to_dir ≡ Some Dir
  pub no_dirs : (fork : Fork) (segment : ℕ) → segment < 2 ^ 32 → get s.names (file_at entry.to_dir entry.file fork segment) ≢ Some Dir

-- no later entry has this one's new directory and file number
abbrev pub IsAlone : Carriage → List Carriage → Type 0
IsAlone entry entries = AllByRecursion (λ other. entry.to_dir ≡ other.to_dir → entry.file ≡ other.file → ⊥) entries

abbrev pub AreAlone : List Carriage → Type 0
AreAlone [] = Unit {0}
AreAlone (entry ∷ entries) = IsAlone entry entries × AreAlone entries

-- no old directory is a new one too
abbrev pub AreOtherDirs : List Carriage → Type 0
AreOtherDirs entries = AllByRecursion (λ entry. AllByRecursion (λ other. entry.from_dir ≢ other.to_dir) entries) entries

-- The state has what a plan by these entries needs.
pub record CanBePlanned (s : FsState) (entries : List MapEntry) : Type 0 where
  pub each : AllByRecursion (IsPlannable s) (carriages entries)
  pub alone : AreAlone (carriages entries)
  pub dirs : AreOtherDirs (carriages entries)

-- The plan is the one of this state, which has what it needs.
pub record IsPlanOf (s : FsState) (entries : List MapEntry) (items : List PlanItem) : Type 0 where
  pub can : CanBePlanned s entries
  pub is : items ≡ plan_in s entries
  pub ends : AllByRecursion (HasEnds s) (carriages entries)
