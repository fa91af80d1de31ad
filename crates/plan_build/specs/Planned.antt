-- The plan of a transfer by the entries of a file map.
use Rattle.std.specs.Prelude.{◌≡◌, ◌<◌, ◌^◌, ℕ, zero, suc, ◌+◌, ◌-◌, Bool, false, List, [], ◌∷◌, ◌++◌, map, if◌then◌else◌, Option, Some, None, is_some}
use Rattle.std.specs.List.{AllByRecursion, flat_map}
use Rattle.std.specs.FinMap.{get}
use Rattle.fs_model.specs.declared.node.Kind.{Kind}
use Rattle.fs_model.specs.declared.node.Kind.TheVariants.{Dir, File, Sym}
use Rattle.fs_model.specs.declared.node.Stat.{Stat}
use Rattle.fs_model.specs.Names.{Path}
use Rattle.fs_model.specs.State.{FsState}
use Rattle.fs_model.specs.Reading.{file_bytes}
use Rattle.xact_status.specs.Files.{SegmentFiles}
use Rattle.relation_files.specs.declared.relation.Fork.{Fork}
use Rattle.relation_files.specs.declared.relation.Fork.TheVariants.{Main, FreeSpace, Visibility}
use Rattle.relation_files.specs.Places.{file_name}
use Rattle.relation_files.specs.Carried.{belongs}
use Rattle.transfer_plan.specs.declared.plan.PlanItem.{PlanItem}
use Rattle.relation_map.specs.declared.map.MapEntry.{MapEntry}
use Rattle.relation_map.specs.Equal.{Carriage, carriage_of}

-- ---- the files of a fork

-- the path of a segment of a fork in a directory
unfoldable pub file_at : Path → ℕ → Fork → ℕ → Path
file_at dir file fork segment = dir ++ file_name (record { database = 0; tablespace = 0; file = file }) fork segment ∷ []

-- the files of a fork in a directory, by segment; what is no file counts as missing
abbrev pub files_in : FsState → Path → ℕ → Fork → SegmentFiles
files_in s dir file fork segment = file_bytes s (file_at dir file fork segment)

abbrev pub size_by : Kind → ℕ → Option ℕ
size_by File size = Some size
size_by Dir size = None
size_by Sym size = None

-- the size of a file; what is no file has none
abbrev pub size_of : Option Stat → Option ℕ
size_of None = None
size_of (Some stat) = size_by stat.kind stat.size

-- ---- the carried segments

-- the carried segments of a fork from this one on, of at most so many
abbrev pub segments_from : Fork → SegmentFiles → ℕ → ℕ → List ℕ
segments_from fork files segment zero = []
segments_from fork files segment (suc more) = if belongs fork segment (files segment) then segment ∷ segments_from fork files (segment + 1) more else []

-- how many segments of a fork a plan has at most. Kept folded: nothing may count up to it.
unfoldable pub most_segments : ℕ
most_segments = 2 ^ 32 - 1

-- the carried segments of a fork, in ascending order
abbrev pub segments_of : Fork → SegmentFiles → List ℕ
segments_of fork files = segments_from fork files 0 most_segments

-- A segment within these is missing or empty, so that the fork ends there.
abbrev pub HasEnd : Fork → SegmentFiles → Type 0
HasEnd fork files = (last : ℕ) × (last < most_segments) × (belongs fork last (files last) ≡ false)

-- each fork of a relation has its end
abbrev pub HasEnds : FsState → Carriage → Type 0
HasEnds s entry = (fork : Fork) → HasEnd fork (files_in s entry.from_dir entry.file fork)

-- ---- the plan

-- a segment of a fork, as the plan has it
abbrev pub item_of : FsState → Carriage → Fork → ℕ → PlanItem
item_of s entry fork segment = record {
  from = file_at entry.from_dir entry.file fork segment;
  to = file_at entry.to_dir entry.file fork segment;
  replaces = is_some (get s.names (file_at entry.to_dir entry.file fork segment));
}

abbrev pub fork_items : FsState → Carriage → Fork → List PlanItem
fork_items s entry fork = map (item_of s entry fork) (segments_of fork (files_in s entry.from_dir entry.file fork))

-- the carried files of a relation: the main fork, the free space map and the visibility map
abbrev pub relation_items : FsState → Carriage → List PlanItem
relation_items s entry = fork_items s entry Main ++ (fork_items s entry FreeSpace ++ fork_items s entry Visibility)

abbrev pub carriages : List MapEntry → List Carriage
carriages entries = map carriage_of entries

-- the carried files of the entries, in their order
unfoldable pub plan_in : FsState → List MapEntry → List PlanItem
plan_in s entries = flat_map (relation_items s) (carriages entries)

-- ---- adding to a plan

-- the segment is added, exactly where it belongs to its fork
pub record AddsSegment (s : FsState) (entry : Carriage) (fork : Fork) (segment : ℕ) (before after : List PlanItem) (more : Bool) : Type 0 where
  pub belongs : more ≡ belongs fork segment (files_in s entry.from_dir entry.file fork segment)
  pub items : after ≡ before ++ (if more then item_of s entry fork segment ∷ [] else [])

-- the fork is added, and has its end
pub record AddsFork (s : FsState) (entry : Carriage) (fork : Fork) (before after : List PlanItem) : Type 0 where
  pub items : after ≡ before ++ fork_items s entry fork
  pub end : HasEnd fork (files_in s entry.from_dir entry.file fork)

pub record AddsRelation (s : FsState) (entry : Carriage) (before after : List PlanItem) : Type 0 where
  pub items : after ≡ before ++ relation_items s entry
  pub ends : HasEnds s entry

pub record AddsRelations (s : FsState) (entries : List Carriage) (before after : List PlanItem) : Type 0 where
  pub items : after ≡ before ++ flat_map (relation_items s) entries
  pub ends : AllByRecursion (HasEnds s) entries
