-- The blocks of a segment file, and of those that were found.
use Rattle.std.specs.Prelude.{ℕ, ◌+◌, ◌-◌, ◌^◌, ◌≤◌, List, [], take, drop, length, ◌++◌, Option, Some, None, Result, Ok, Err}
use Rattle.std.specs.Option.{unwrap_or}
use Rattle.std.specs.List.{flat_map}
use Rattle.fs_model.specs.declared.error.FsError.{FsError}
use Rattle.fs_model.specs.declared.error.FsError.TheVariants as fs
use Rattle.fs_model.specs.declared.node.Kind.{Kind}
use Rattle.fs_model.specs.declared.node.Kind.TheVariants as kind
use Rattle.fs_model.specs.declared.node.Stat.{Stat}
use Rattle.fs_model.specs.Names.{Path}
use Rattle.fs_model.specs.State.{FsState}
use Rattle.fs_model.specs.Reading.{file_bytes}
use Rattle.cluster_meaning.specs.Blocks.{blocks_in, numbered}
use Rattle.fork_read.specs.declared.extents.Extent.{Extent}
use Rattle.fork_read.specs.declared.extents.Extents.{Extents}
use Rattle.fork_read.specs.declared.reads.TheConstants.{PIECE_BLOCKS}

-- ---- one call

-- what was found: nothing where the call was refused
abbrev pub found_as : {T : Type 0} → Result T FsError → Result (Option T) FsError
found_as (Ok value) = Ok (Some value)
found_as (Err fs.OutOfMemory) = Err fs.OutOfMemory
found_as (Err fs.Failed) = Err fs.Failed
found_as (Err error) = Ok None

abbrev pub size_by : Kind → ℕ → Option ℕ
size_by kind.File size = Some size
size_by kind.Dir size = None
size_by kind.Sym size = None

-- the size of a file; what is no file has none
abbrev pub size_of : Option Stat → Option ℕ
size_of None = None
size_of (Some stat) = size_by stat.kind stat.size

abbrev pub sized : Result (Option Stat) FsError → Result (Option ℕ) FsError
sized (Ok stat) = Ok (size_of stat)
sized (Err error) = Err error

-- ---- segments

-- the whole blocks of the file at a path
abbrev pub file_blocks : FsState → Path → List (List ℕ)
file_blocks s path = blocks_in (unwrap_or (file_bytes s path) [])

-- the blocks of a piece of the file at a path: those from a number on, as many as a piece has at most
abbrev pub piece_blocks : FsState → Path → ℕ → List (List ℕ)
piece_blocks s path n = take PIECE_BLOCKS (drop n (file_blocks s path))

-- the blocks of a segment that count, with their numbers in the fork
abbrev pub extent_blocks : FsState → Extent → List (ℕ × List ℕ)
extent_blocks s extent = numbered extent.first (take extent.blocks (file_blocks s extent.path))

-- The file of a segment has the blocks that count, and their numbers have 32 bits.
pub record IsBacked (s : FsState) (extent : Extent) : Type 0 where
  pub stand : extent.blocks ≤ length (file_blocks s extent.path)
  pub numbers : extent.first + extent.blocks ≤ 2 ^ 32 - 1

-- the blocks of the segments that were found, and of those behind them as many as may count
abbrev pub extents_told : FsState → Extents → List (List ℕ) → List (ℕ × List ℕ)
extents_told s extents behind =
    flat_map (extent_blocks s) extents.items.items ++ numbered (4294967295 - extents.room) (take extents.room behind)
