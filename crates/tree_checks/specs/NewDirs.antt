-- The names that are in the way of an upgrade in the directories of a new cluster.
use Rattle.std.specs.Prelude.{◌≡◌, ℕ, ◌+◌, ◌-◌, ◌*◌, Bool, true, not, ◌&&◌, ◌||◌, nat_le, bytes_eq, if◌then◌else◌, List, [], ◌∷◌, ◌++◌, codes, is_some}
use Rattle.std.specs.List.{list_all}
use Rattle.std.specs.FinMap.{get}
use Rattle.fs_model.specs.Names.{Path}
use Rattle.fs_model.specs.State.{Names}
use Rattle.crash_safety.specs.Places.{links_at}
use Rattle.fs_tools.specs.Children.{child_of}
use Rattle.fs_tools.specs.Walked.{IsAmong}
use Rattle.tree_checks.specs.declared.new_dirs.NewDir.{NewDir}
use Rattle.tree_checks.specs.declared.new_dirs.NewDir.TheVariants.{Base, Template1, Template0, Postgres, Links, Profile}

abbrev pub database_at : Path → List ℕ → Path
database_at root name = root ++ codes "base" ∷ name ∷ []

abbrev pub new_dir : Path → NewDir → Path
new_dir root Base = root ++ codes "base" ∷ []
new_dir root Template1 = database_at root (codes "1")
new_dir root Template0 = database_at root (codes "4")
new_dir root Postgres = database_at root (codes "5")
new_dir root Links = links_at root
new_dir root Profile = root ++ codes "pg_profile" ∷ []

abbrev pub is_digit : ℕ → Bool
is_digit b = nat_le 48 b && nat_le b 57

-- the name of a database's directory that every cluster has
abbrev pub is_first_database : List ℕ → Bool
is_first_database name = bytes_eq name (codes "1") || (bytes_eq name (codes "4") || bytes_eq name (codes "5"))

-- a name of digits alone that is none of a database of the start
abbrev pub is_other_database : List ℕ → Bool
is_other_database name = list_all is_digit name && not (is_first_database name)

-- the number that the leading digits write behind those of n
abbrev pub number_after : ℕ → List ℕ → ℕ
number_after n [] = n
number_after n (b ∷ bs) = if is_digit b then number_after (n * 10 + (b - 48)) bs else n

-- the number of the leading digits; 0 where there are none
abbrev pub leading_number : List ℕ → ℕ
leading_number name = number_after 0 name

-- a name that begins with a number that the server gives to objects of users, `FirstNormalObjectId`
abbrev pub is_user_file : List ℕ → Bool
is_user_file name = nat_le 16384 (leading_number name)

-- whether a name is in the way in the directory
abbrev pub is_in_way : NewDir → List ℕ → Bool
is_in_way Base name = is_other_database name
is_in_way Template1 name = is_user_file name
is_in_way Template0 name = is_user_file name
is_in_way Postgres name = is_user_file name
is_in_way Links name = true
is_in_way Profile name = not (bytes_eq name (codes "catalog.sql"))

-- the path is that of a name in the directory, one stands there, and the name passes the test
abbrev pub IsNameIn : Names → Path → (List ℕ → Bool) → Path → Type 0
IsNameIn names dir test path = (name : List ℕ) × (path ≡ child_of dir name) × (is_some (get names path) ≡ true) × (test name ≡ true)

-- the path stands in a new cluster and is in the way there
abbrev pub IsUsed : Names → Path → Path → Type 0
IsUsed names root path = (dir : NewDir) × IsNameIn names (new_dir root dir) (is_in_way dir) path

-- the path is in the way in one of these directories
abbrev pub IsUsedIn : Names → Path → List NewDir → Path → Type 0
IsUsedIn names root dirs path = (dir : NewDir) × IsAmong dirs dir × IsNameIn names (new_dir root dir) (is_in_way dir) path

-- the directories, in the order in which they are tested
abbrev pub new_dirs : List NewDir
new_dirs = Base ∷ Template1 ∷ Template0 ∷ Postgres ∷ Links ∷ Profile ∷ []
