-- What is kept of the directories and the links that were looked at.
use Rattle.std.specs.Prelude.{◌≡◌, ◌<◌, ◌^◌, ℕ, Bool, true, false, not, ◌==◌, bytes_eq, if◌then◌else◌, List, [], ◌∷◌, ◌++◌, Option, Some, None, is_some}
use Rattle.std.specs.Option.{option_map, unwrap_or}
use Rattle.std.specs.List.{find, list_all, list_any}
use Rattle.std.specs.Ordering.{nat_cmp}
use Rattle.std.specs.FinMap.{FinMap, get}
use Rattle.std.specs.Fmt.{decimal}
use Rattle.fs_model.specs.Names.{Path, path_cmp, same_path}
use Rattle.fs_model.specs.State.{Names}
use Rattle.catalog.specs.declared.owners.Tablespace.{Tablespace}
use Rattle.crash_safety.specs.Places.{links_at}
use Rattle.fs_tools.specs.Children.{child_of}
use Rattle.relation_files.specs.declared.relation.Relation.{Relation}
use Rattle.relation_files.specs.Places.{Site, relation_dir}
use Rattle.tree_checks.specs.Findings.{IsLeast}
use Rattle.tree_checks.specs.NewDirs.{is_digit}
use Rattle.file_checks.specs.declared.files.Listing.{Listing}
use Rattle.file_checks.specs.Tablespaces.{placed}
use Rattle.file_checks.specs.RelationFiles.{is_bad_file, IsBadFile}

-- the map has the paths of these tablespaces' links, among those in the directory of links
abbrev pub AreLinks : Path → List Tablespace → FinMap path_cmp (Unit {0}) → Type 0
AreLinks old tablespaces links =
    (name : List ℕ) → is_some (get links (child_of (links_at old) name)) ≡ list_any (λ tablespace. bytes_eq name (decimal tablespace.oid)) (placed tablespaces)

-- whether bytes begin with no digit
abbrev pub is_plain : List ℕ → Bool
is_plain [] = true
is_plain (byte ∷ bytes) = not (is_digit byte)

-- a name's digits up to the first byte that is none
pub record IsLeadingNumber (number name : List ℕ) : Type 0 where
  pub rest : List ℕ
  pub name_is : name ≡ number ++ rest
  pub digits : list_all is_digit number ≡ true
  pub plain : is_plain rest ≡ true

-- by the paths of file numbers in a directory, the first of these names that is a bad one of that file number
abbrev pub AreFirstBad : Names → Path → List (List ℕ) → FinMap path_cmp Path → Type 0
AreFirstBad names dir items bad =
    (file : ℕ) → file < 2 ^ 32 → get bad (child_of dir (decimal file)) ≡ option_map (child_of dir) (find (is_bad_file names dir file) items)

-- by the paths of file numbers in a directory, the least bad path of that file number
abbrev pub AreBadFiles : Names → Path → FinMap path_cmp Path → Type 0
AreBadFiles names dir bad = (file : ℕ) → file < 2 ^ 32 → IsLeast (IsBadFile names dir file) (get bad (child_of dir (decimal file)))

-- each listing has the bad paths of a database's directory in the tablespace
abbrev pub AreListings : Names → Site → FinMap nat_cmp Listing → Type 0
AreListings names site listings =
    (tablespace : ℕ) (listing : Listing) → get listings tablespace ≡ Some listing
    → AreBadFiles names (relation_dir site (record { database = listing.database; tablespace = tablespace; file = 0 })) listing.bad

-- what is kept at a path, once this one was offered to what is kept at `at`, which takes the first alone
abbrev pub kept_at : Path → Path → FinMap path_cmp Path → Path → Option Path
kept_at at path bad other = if same_path other at then Some (unwrap_or (get bad at) path) else get bad other

abbrev pub listing_is : ℕ → Option Listing → Bool
listing_is database None = false
listing_is database (Some listing) = listing.database == database

-- whether the directory of a relation was listed
abbrev pub is_listed : FinMap nat_cmp Listing → Relation → Bool
is_listed listings relation = listing_is relation.database (get listings relation.tablespace)

-- what a listing has for the path of a relation's first file
abbrev pub listed_bad : Option Listing → Path → Option Path
listed_bad None first = None
listed_bad (Some listing) first = get listing.bad first
