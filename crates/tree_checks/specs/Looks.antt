-- What looking at a path shows: nothing, where the look is refused.
use Rattle.std.specs.Prelude.{ℕ, Bool, true, false, if◌then◌else◌, List, Option, Some, None, Result, Ok, Err}
use Rattle.std.specs.FinMap.{get}
use Rattle.fs_model.specs.declared.error.FsError.{FsError}
use Rattle.fs_model.specs.declared.error.FsError.TheVariants as error
use Rattle.fs_model.specs.declared.node.Node.{Node}
use Rattle.fs_model.specs.declared.node.Node.TheVariants.{Dir, File, Sym}
use Rattle.fs_model.specs.declared.node.Kind.{Kind}
use Rattle.fs_model.specs.declared.node.Kind.TheVariants as kind
use Rattle.fs_model.specs.declared.node.Stat.{Stat}
use Rattle.fs_model.specs.Names.{Path}
use Rattle.fs_model.specs.State.{Names}
use Rattle.fs_model.specs.Calls.{children}
use Rattle.fs_model.specs.Trail.{DecidedBy}

abbrev pub kind_of : Option Node → Option Kind
kind_of None = None
kind_of (Some Dir) = Some kind.Dir
kind_of (Some (File inode)) = Some kind.File
kind_of (Some (Sym target)) = Some kind.Sym

-- the kind of what stands at a path, if anything does
abbrev pub kind_at : Names → Path → Option Kind
kind_at names path = kind_of (get names path)

abbrev pub is_dir : Option Kind → Bool
is_dir None = false
is_dir (Some kind.Dir) = true
is_dir (Some kind.File) = false
is_dir (Some kind.Sym) = false

abbrev pub is_file : Option Kind → Bool
is_file None = false
is_file (Some kind.Dir) = false
is_file (Some kind.File) = true
is_file (Some kind.Sym) = false

-- the names in a directory, in ascending order, where a directory stands
abbrev pub names_at : Names → Path → Option (List (List ℕ))
names_at names path = if is_dir (kind_at names path) then Some (children names path) else None

-- what a call showed: nothing where it was refused
abbrev pub seen_as : {T : Type 0} → Result T FsError → Result (Option T) FsError
seen_as (Ok value) = Ok (Some value)
seen_as (Err error.OutOfMemory) = Err error.OutOfMemory
seen_as (Err error.Failed) = Err error.Failed
seen_as (Err error) = Ok None

abbrev pub kind_in : Option Stat → Option Kind
kind_in None = None
kind_in (Some stat) = Some stat.kind

-- the answer is no refusal
abbrev pub IsNoRefusal : {T : Type 0} → Result T FsError → Type 0
IsNoRefusal result = DecidedBy None result
