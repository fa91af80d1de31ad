-- A name that no crash brings back.
use Rattle.std.specs.Prelude.{◌≡◌, ◌≢◌, Option, None}
use Rattle.std.specs.List.{AllByRecursion}
use Rattle.std.specs.FinMap.{get}
use Rattle.fs_model.specs.declared.node.Node.{Node}
use Rattle.fs_model.specs.Names.{Path}
use Rattle.fs_model.specs.State.{FsState}
use Rattle.fs_model.specs.Calls.{Call, Creates, MakesDir, MakesSymlink, Links, Renames}
use Rattle.fs_model.specs.WellFormed.{EachPair}

-- at this path there is nothing
abbrev pub IsGoneAt : Path → Path → Option Node → Type 0
IsGoneAt gone path node = path ≡ gone → node ≡ None

-- The path has no name, now or on the disk, and no waiting change makes one.
pub record Lacks (path : Path) (s : FsState) : Type 0 where
  pub now : get s.names path ≡ None
  pub kept : get s.names_kept path ≡ None
  pub waiting : AllByRecursion (EachPair (IsGoneAt path)) s.pending

-- a call that makes no name there
abbrev pub MakesNone : Path → Call → Type 0
MakesNone gone (Creates path) = path ≢ gone
MakesNone gone (MakesDir path) = path ≢ gone
MakesNone gone (MakesSymlink path target) = path ≢ gone
MakesNone gone (Links from to) = to ≢ gone
MakesNone gone (Renames from to) = to ≢ gone
MakesNone gone call = Unit {0}
