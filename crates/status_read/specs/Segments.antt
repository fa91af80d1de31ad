-- The segments in a directory of status files, by the names of its files.
use Rattle.std.specs.Prelude.{◌≡◌, ◌<◌, ◌^◌, ℕ, true, is_some, nat_lt, ◌&&◌, bytes_eq, if◌then◌else◌, List, [], ◌∷◌, ◌++◌, Option, Some, None}
use Rattle.std.specs.List.{AllByRecursion}
use Rattle.std.specs.Ordering.{nat_cmp}
use Rattle.std.specs.FinMap as map
use Rattle.std.specs.Str.Parse.{digits_value}
use Rattle.fs_model.specs.declared.error.FsError.{FsError}
use Rattle.fs_model.specs.Names.{Path}
use Rattle.fs_model.specs.State.{FsState}
use Rattle.fs_model.specs.Reading.{file_bytes}
use Rattle.fs_model.specs.Calls.{Lists, ReadsAt, refusal, or_else, children}
use Rattle.cluster_meaning.specs.Status.{segment_name, commit_log_dir, offsets_dir, members_dir}

-- the number of the segment whose name this is
unfoldable pub segment_number : List ℕ → Option ℕ
segment_number name =
    let n = digits_value 16 name in
    if nat_lt n (2 ^ 32) && bytes_eq (segment_name n) name then Some n else None

-- the refusal of a file in the directory, where its name is that of a segment
abbrev pub numbered_refusal : FsState → Path → List ℕ → Option ℕ → Option FsError
numbered_refusal s dir name None = None
numbered_refusal s dir name (Some n) = refusal s (ReadsAt (dir ++ name ∷ []))

abbrev pub segment_refusal : FsState → Path → List ℕ → Option FsError
segment_refusal s dir name = numbered_refusal s dir name (segment_number name)

-- that of the first name that has one
abbrev pub first_refusal : FsState → Path → List (List ℕ) → Option FsError
first_refusal s dir [] = None
first_refusal s dir (name ∷ names) = or_else (segment_refusal s dir name) (first_refusal s dir names)

-- the refusal of a directory of status files: it is none, or the name of a segment in it is that of no file
abbrev pub segments_refusal : FsState → Path → Option FsError
segments_refusal s dir = or_else (refusal s (Lists dir)) (first_refusal s dir (children s.names dir))

-- the file of a segment was added with the segment's number; no other file was
abbrev pub AddsNumbered : FsState → Path → List ℕ → Option ℕ → List (ℕ × List ℕ) → List (ℕ × List ℕ) → Type 0
AddsNumbered s dir name None old new = new ≡ old
AddsNumbered s dir name (Some n) old new = (bytes : List ℕ) × (file_bytes s (dir ++ name ∷ []) ≡ Some bytes) × (new ≡ old ++ (n, bytes) ∷ [])

-- a part is a segment of the directory
abbrev pub IsPart : FsState → Path → ℕ × List ℕ → Type 0
IsPart s dir part = (part.0 < 2 ^ 32) × (file_bytes s (dir ++ segment_name part.0 ∷ []) ≡ Some part.1)

-- the segment of this name has a part
abbrev pub HasPart : List (ℕ × List ℕ) → List ℕ → Type 0
HasPart parts name = (n : ℕ) → segment_number name ≡ Some n → is_some (map.find nat_cmp n parts) ≡ true

-- the parts are segments of the directory, and those of all these names are among them
pub record Gathers (s : FsState) (dir : Path) (names : List (List ℕ)) (parts : List (ℕ × List ℕ)) : Type 0 where
  pub parts_are : AllByRecursion (IsPart s dir) parts
  pub each : AllByRecursion (HasPart parts) names

-- the first refusal of a cluster's three directories of status files
abbrev pub status_refusal : FsState → Path → Option FsError
status_refusal s root =
    or_else (segments_refusal s (commit_log_dir root)) (or_else (segments_refusal s (offsets_dir root)) (segments_refusal s (members_dir root)))
