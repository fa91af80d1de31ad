-- Carrying the files of directories: the calls, what they leave, and what stands in the end.
use Rattle.std.specs.Prelude.{◌≡◌, ◌≢◌, ◌⊎◌, ◌++◌, ℕ, true, List, [], ◌∷◌, Option, Some, None, is_some}
use Rattle.std.specs.List.{AllByRecursion}
use Rattle.std.specs.FinMap.{get}
use Rattle.fs_model.specs.declared.node.Node.{Node}
use Rattle.fs_model.specs.declared.node.Node.TheVariants.{Dir, File}
use Rattle.fs_model.specs.Names.{Path}
use Rattle.fs_model.specs.State.{Names, Change, FsState}
use Rattle.fs_model.specs.Effects.{bytes_of}
use Rattle.fs_model.specs.Calls.{Call, Stats, Lists, ReadsAt, Creates, WritesAt, Unlinks, refusal}
use Rattle.fs_model.specs.WellFormed.{EachPair}
use Rattle.crash_safety.specs.Frame.{IsMadeSince}
use Rattle.fs_tools.specs.Children.{child_of, IsIn}
use Rattle.fs_tools.specs.Copied.{CopiesFile}

-- the path is one of a name in one of these directories
abbrev pub IsInOne : List Path → Path → Type 0
IsInOne [] path = ⊥
IsInOne (dir ∷ dirs) path = IsIn dir path ⊎ IsInOne dirs path

-- A call of a run that began in a: it reads, removes or creates a name in one of these directories, or writes to a file there that the run has made.
abbrev pub CarriesInto : List Path → FsState → FsState → Call → Type 0
CarriesInto dirs a s (Stats path) = Unit {0}
CarriesInto dirs a s (Lists path) = Unit {0}
CarriesInto dirs a s (ReadsAt path) = Unit {0}
CarriesInto dirs a s (Unlinks path) = IsInOne dirs path
CarriesInto dirs a s (Creates path) = IsInOne dirs path
CarriesInto dirs a s (WritesAt path from bytes) = IsInOne dirs path × IsMadeSince a s path
CarriesInto dirs a s call = ⊥

-- The state s is a but for names in these directories, whose changes wait, and for files that a had not.
pub record ChangesOnlyIn (dirs : List Path) (a s : FsState) : Type 0 where
  pub names : (path : Path) → (IsInOne dirs path → ⊥) → get s.names path ≡ get a.names path
  pub bytes : (inode : ℕ) → is_some (get a.bytes inode) ≡ true → get s.bytes inode ≡ get a.bytes inode
  pub names_kept : s.names_kept ≡ a.names_kept
  pub bytes_kept : s.bytes_kept ≡ a.bytes_kept
  pub devices : s.devices ≡ a.devices
  pub added : List Change
  pub pending : s.pending ≡ a.pending ++ added
  pub inside : AllByRecursion (EachPair (λ path _. IsInOne dirs path)) added

-- each file has an inode that a had not, or stood in a under this very name
abbrev pub SharesNone : FsState → FsState → Type 0
SharesNone a s = (path : Path) (inode : ℕ) → get s.names path ≡ Some (File inode) → (get a.names path ≡ Some (File inode)) ⊎ (get a.bytes inode ≡ None)

-- what stands at a name in t is what stands at one in s: nothing, or a file with the same bytes, in an inode that s had not
abbrev pub CarriesNode : FsState → FsState → Option Node → Option Node → Type 0
CarriesNode s t None found = found ≡ None
CarriesNode s t (Some (File inode)) found = (made : ℕ) × (found ≡ Some (File made)) × (get s.bytes made ≡ None) × (get t.bytes made ≡ Some (bytes_of s.bytes inode))
CarriesNode s t (Some node) found = ⊥

-- The one directory has in t exactly the names that the other has in s, each a file with the same bytes in an inode that s had not.
abbrev pub CarriesDir : FsState → Path → Path → FsState → Type 0
CarriesDir s from to t = (name : List ℕ) → CarriesNode s t (get s.names (child_of from name)) (get t.names (child_of to name))

abbrev pub IsFileOrNone : Option Node → Type 0
IsFileOrNone None = Unit {0}
IsFileOrNone (Some (File inode)) = Unit {0}
IsFileOrNone (Some node) = ⊥

-- the directory stands, and each name in it is one of a file
pub record HoldsFiles (names : Names) (dir : Path) : Type 0 where
  pub stands : get names dir ≡ Some Dir
  pub files : (name : List ℕ) → IsFileOrNone (get names (child_of dir name))

-- the directory has no names
abbrev pub HasNoNames : Names → Path → Type 0
HasNoNames names dir = (name : List ℕ) → get names (child_of dir name) ≡ None

-- the state t is s with a copy of the file of this name in the other directory
abbrev pub CopiesName : FsState → Path → Path → List ℕ → FsState → Type 0
CopiesName s from to name t = (number : ℕ) × CopiesFile s (child_of from name) (child_of to name) number t

-- the same for some names, the first of them first
abbrev pub CopiesNames : FsState → Path → Path → List (List ℕ) → FsState → Type 0
CopiesNames s from to [] t = t ≡ s
CopiesNames s from to (name ∷ names) t = (mid : FsState) × CopiesName s from to name mid × CopiesNames mid from to names t

-- the copy of the file of this name isn't refused
abbrev pub IsReady : FsState → Path → Path → List ℕ → Type 0
IsReady s from to name = (refusal s (ReadsAt (child_of from name)) ≡ None) × (refusal s (Creates (child_of to name)) ≡ None)

-- each is another than those behind it
abbrev pub AreApart : List (List ℕ) → Type 0
AreApart [] = Unit {0}
AreApart (name ∷ names) = AllByRecursion (λ later. name ≢ later) names × AreApart names
