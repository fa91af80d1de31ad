-- The files of an old cluster's relations.
use Rattle.std.specs.Prelude.{◌≡◌, ℕ, Bool, true, false, not, ◌&&◌, ◌==◌, bytes_eq, if◌then◌else◌, List, [], ◌∷◌, length, take, drop, codes, Option}
use Rattle.std.specs.List.{list_all}
use Rattle.std.specs.Fmt.{decimal}
use Rattle.fs_model.specs.Names.{Path}
use Rattle.fs_model.specs.State.{Names, FsState}
use Rattle.catalog.specs.Cluster.{Cluster}
use Rattle.relation_files.specs.declared.relation.Relation.{Relation}
use Rattle.relation_files.specs.declared.relation.Fork.TheVariants.{Main}
use Rattle.relation_files.specs.Places.{Site, segment_path, relation_dir}
use Rattle.relation_files.specs.Relations.{relations_of}
use Rattle.tree_checks.specs.Findings.{IsLeast, found_if, IsFirstOf, IsFirstAmong}
use Rattle.tree_checks.specs.Looks.{kind_at, is_file}
use Rattle.tree_checks.specs.NewDirs.{IsNameIn, is_digit}
use Rattle.tree_checks.specs.MissingDirs.{is_no_file_in}
use Rattle.file_checks.specs.Clusters.{old_site}

-- ---- the names of a relation's files, of any segment

-- the number of a segment behind the first, without leading zeros
abbrev pub is_segment_number : List ℕ → Bool
is_segment_number [] = false
is_segment_number (digit ∷ digits) = not (digit == 48) && (is_digit digit && list_all is_digit digits)

-- what a segment has behind the name of its fork: the first one nothing, each other a point and its number
abbrev pub is_segment_suffix : List ℕ → Bool
is_segment_suffix [] = true
is_segment_suffix (point ∷ number) = point == 46 && is_segment_number number

-- what is left behind the suffix of a fork; that of the main fork is empty
abbrev pub behind_fork : List ℕ → List ℕ
behind_fork suffix =
    if bytes_eq (take 4 suffix) (codes "_fsm") then drop 4 suffix
    else (if bytes_eq (take 3 suffix) (codes "_vm") then drop 3 suffix else suffix)

abbrev pub is_filled : List ℕ → Bool
is_filled [] = false
is_filled (byte ∷ bytes) = true

-- what has to stand behind a file number in the name of any file of a relation but the first segment of its main fork
abbrev pub is_other_suffix : List ℕ → Bool
is_other_suffix suffix = is_filled suffix && is_segment_suffix (behind_fork suffix)

-- whether a name is that of a file of the relation with this file number, the first segment of its main fork left out
abbrev pub is_other_file : ℕ → List ℕ → Bool
is_other_file file name =
    bytes_eq (take (length (decimal file)) name) (decimal file) && is_other_suffix (drop (length (decimal file)) name)

-- ---- what is wrong with them

-- this path, where no file stands there
abbrev pub IsNoFile : Names → Path → Option Path → Type 0
IsNoFile names path found = found ≡ found_if (not (is_file (kind_at names path))) path

-- whether a name in a directory is that of another file of the relation, and something else than a file stands there
abbrev pub is_bad_file : Names → Path → ℕ → List ℕ → Bool
is_bad_file names dir file name = is_other_file file name && is_no_file_in names dir name

-- the path is that of such a name
abbrev pub IsBadFile : Names → Path → ℕ → Path → Type 0
IsBadFile names dir file = IsNameIn names dir (is_bad_file names dir file)

-- the first segment of a relation's main fork, where it is no file; else the least path of its other files where something
-- else than a file stands
abbrev pub IsBadRelation : Names → Site → Relation → Option Path → Type 0
IsBadRelation names site relation =
    IsFirstOf (IsNoFile names (segment_path site relation Main 0)) (IsLeast (IsBadFile names (relation_dir site relation) relation.file))

-- the finding of the first relation, in the order of the catalog, that has one
abbrev pub IsMissingFile : FsState → Path → Cluster → Option Path → Type 0
IsMissingFile s old catalog = IsFirstAmong (IsBadRelation s.names (old_site old catalog)) (relations_of catalog)
