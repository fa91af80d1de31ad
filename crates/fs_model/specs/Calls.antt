-- The calls: when a state refuses each, and what each does.
use Rattle.std.specs.Prelude.{◌≡◌, ◌⊎◌, ℕ, ◌+◌, ◌-◌, ◌<◌, Bool, true, false, not, ◌||◌, ◌==◌, if◌then◌else◌, List, [], ◌∷◌, ◌++◌, length, take, drop, replicate, Option, Some, None, MatchOption, slice_get, is_some}
use Rattle.std.specs.Option.{unwrap_or}
use Rattle.std.specs.List.{All, list_any, filter_map}
use Rattle.std.specs.FinMap as map
use Rattle.fs_model.specs.declared.node.Node.{Node}
use Rattle.fs_model.specs.declared.node.Node.TheVariants.{Dir, File, Sym}
use Rattle.fs_model.specs.declared.effect.Effect.{Effect}
use Rattle.fs_model.specs.declared.effect.Effect.TheVariants.{Nothing, Names as ChangeNames, NewFile, NewDir, Bytes, KeepBytes, KeepNames}
use Rattle.fs_model.specs.declared.error.FsError.{FsError}
use Rattle.fs_model.specs.declared.error.FsError.TheVariants.{NotFound, Exists, NotDir, WrongKind, NotEmpty, CrossDevice, CrossDir, Failed}
use Rattle.fs_model.specs.Names.{Path, same_path, parent}
use Rattle.fs_model.specs.State.{Names, FsState}
use Rattle.fs_model.specs.Effects.{bytes_of}

pub data Call : Type 0 where
  Stats : Path → Call
  Lists : Path → Call
  ReadsAt : Path → Call
  ReadsLink : Path → Call
  Creates : Path → Call
  WritesAt : Path → ℕ → List ℕ → Call
  MakesDir : Path → Call
  MakesSymlink : Path → Path → Call
  Links : Path → Path → Call
  Renames : Path → Path → Call
  Unlinks : Path → Call
  RemovesDir : Path → Call
  SyncsFile : Path → Call
  SyncsDir : Path → Call

-- the first refusal of the two, if there is one
abbrev pub or_else : Option FsError → Option FsError → Option FsError
or_else None later = later
or_else (Some error) later = Some error

-- the refusal, where the test passes
abbrev pub refuse_if : Bool → FsError → Option FsError
refuse_if test error = if test then Some error else None

abbrev pub no_dir : Option Node → Option FsError
no_dir None = Some NotFound
no_dir (Some Dir) = None
no_dir (Some (File inode)) = Some NotDir
no_dir (Some (Sym target)) = Some NotDir

abbrev pub no_file : Option Node → Option FsError
no_file None = Some NotFound
no_file (Some Dir) = Some WrongKind
no_file (Some (File inode)) = None
no_file (Some (Sym target)) = Some WrongKind

abbrev pub no_symlink : Option Node → Option FsError
no_symlink None = Some NotFound
no_symlink (Some Dir) = Some WrongKind
no_symlink (Some (File inode)) = Some WrongKind
no_symlink (Some (Sym target)) = None

-- nothing stands there, or a directory
abbrev pub no_leaf : Option Node → Option FsError
no_leaf None = Some NotFound
no_leaf (Some Dir) = Some WrongKind
no_leaf (Some (File inode)) = None
no_leaf (Some (Sym target)) = None

abbrev pub missing : Option Node → Option FsError
missing None = Some NotFound
missing (Some node) = None

abbrev pub taken : Option Node → Option FsError
taken None = None
taken (Some node) = Some Exists

-- the shortest proper prefix that is no directory decides; `done` are the names that were passed
abbrev pub blocked_from : Names → Path → Path → Option FsError
blocked_from names done [] = None
blocked_from names done (name ∷ rest) = or_else (no_dir (map.get names done)) (blocked_from names (done ++ name ∷ []) rest)

-- the refusal of a path's way
abbrev pub blocked : Names → Path → Option FsError
blocked names path = blocked_from names [] path

abbrev pub is_root : Path → Bool
is_root [] = true
is_root (name ∷ names) = false

-- the last name of a path, where it stands in the directory
abbrev pub child_name : Path → Path → Option (List ℕ)
child_name dir path = if same_path (parent path) dir then slice_get path (length path - 1) else None

-- the names in a directory, in ascending order
abbrev pub children : Names → Path → List (List ℕ)
children names dir = filter_map (child_name dir) (map.keys names)

-- whether the directory has a name
abbrev pub has_child : Names → Path → Bool
has_child names dir = list_any (λ path. is_some (child_name dir path)) (map.keys names)

-- the device of a directory
abbrev pub device_of : FsState → Path → ℕ
device_of s dir = unwrap_or (map.get s.devices dir) 0

-- the two paths are no names of one directory; the root is a name of none
abbrev pub crosses : Path → Path → Bool
crosses from to = is_root from || (is_root to || not (same_path (parent from) (parent to)))

-- why the state refuses a call, or nothing
abbrev pub refusal : FsState → Call → Option FsError
refusal s (Stats path) = or_else (blocked s.names path) (missing (map.get s.names path))
refusal s (Lists path) = or_else (blocked s.names path) (no_dir (map.get s.names path))
refusal s (ReadsAt path) = or_else (blocked s.names path) (no_file (map.get s.names path))
refusal s (ReadsLink path) = or_else (blocked s.names path) (no_symlink (map.get s.names path))
refusal s (Creates path) = or_else (blocked s.names path) (taken (map.get s.names path))
refusal s (WritesAt path from bytes) = or_else (blocked s.names path) (no_file (map.get s.names path))
refusal s (MakesDir path) = or_else (blocked s.names path) (taken (map.get s.names path))
refusal s (MakesSymlink path target) = or_else (blocked s.names path) (taken (map.get s.names path))
refusal s (Links from to) =
    or_else (blocked s.names from) (or_else (blocked s.names to) (or_else (no_file (map.get s.names from)) (or_else (taken (map.get s.names to))
    (refuse_if (not (device_of s (parent from) == device_of s (parent to))) CrossDevice))))
refusal s (Renames from to) =
    or_else (blocked s.names from) (or_else (blocked s.names to) (or_else (refuse_if (crosses from to) CrossDir) (or_else (no_file (map.get s.names from)) (taken (map.get s.names to)))))
refusal s (Unlinks path) = or_else (blocked s.names path) (no_leaf (map.get s.names path))
refusal s (RemovesDir path) = or_else (blocked s.names path) (or_else (no_dir (map.get s.names path)) (refuse_if (is_root path || has_child s.names path) NotEmpty))
refusal s (SyncsFile path) = or_else (blocked s.names path) (no_file (map.get s.names path))
refusal s (SyncsDir path) = or_else (blocked s.names path) (no_dir (map.get s.names path))

-- bytes with others written over them at a place; a gap is zeros
abbrev pub overwritten : List ℕ → ℕ → List ℕ → List ℕ
overwritten old from new = take from old ++ replicate (from - length old) 0 ++ new ++ drop (from + length new) old

-- a call that succeeds has this effect; the number of a new inode is any that no inode has
abbrev pub Does : FsState → Call → Effect → Type 0
Does s (Stats path) effect = effect ≡ Nothing
Does s (Lists path) effect = effect ≡ Nothing
Does s (ReadsAt path) effect = effect ≡ Nothing
Does s (ReadsLink path) effect = effect ≡ Nothing
Does s (Creates path) effect = (inode : ℕ) × (map.get s.bytes inode ≡ None) × (effect ≡ NewFile path inode)
Does s (WritesAt path from bytes) effect = (inode : ℕ) × (map.get s.names path ≡ Some (File inode)) × (effect ≡ Bytes inode (overwritten (bytes_of s.bytes inode) from bytes))
Does s (MakesDir path) effect = effect ≡ NewDir path (device_of s (parent path))
Does s (MakesSymlink path target) effect = effect ≡ ChangeNames ((path, Some (Sym target)) ∷ [])
Does s (Links from to) effect = (inode : ℕ) × (map.get s.names from ≡ Some (File inode)) × (effect ≡ ChangeNames ((to, Some (File inode)) ∷ []))
Does s (Renames from to) effect = (inode : ℕ) × (map.get s.names from ≡ Some (File inode)) × (effect ≡ ChangeNames ((from, None) ∷ (to, Some (File inode)) ∷ []))
Does s (Unlinks path) effect = effect ≡ ChangeNames ((path, None) ∷ [])
Does s (RemovesDir path) effect = effect ≡ ChangeNames ((path, None) ∷ [])
Does s (SyncsFile path) effect = (inode : ℕ) × (map.get s.names path ≡ Some (File inode)) × (effect ≡ KeepBytes inode)
Does s (SyncsDir path) effect = effect ≡ KeepNames path

-- each is a byte
abbrev pub AreBytes : List ℕ → Type 0
AreBytes = All (λ b. b < 256)

-- what a call may do that isn't refused and fails: nothing or its effect; a write leaves any bytes
abbrev pub MayFail : FsState → Call → Effect → Type 0
MayFail s (WritesAt path from bytes) effect = (inode : ℕ) × (any : List ℕ) × (map.get s.names path ≡ Some (File inode)) × AreBytes any × (effect ≡ Bytes inode any)
MayFail s call effect = (effect ≡ Nothing) ⊎ Does s call effect

-- what a call may do that gives this answer; none is Ok
abbrev pub MayDo : FsState → Call → Option FsError → Effect → Type 0
MayDo s call None effect = (refusal s call ≡ None) × Does s call effect
MayDo s call (Some Failed) effect = MatchOption (refusal s call) (MayFail s call effect) (λ _. effect ≡ Nothing)
MayDo s call (Some error) effect = (refusal s call ≡ Some error) × (effect ≡ Nothing)
