-- What the files say of a cluster's catalog text.
use Rattle.std.proofs.Common.{◌≡◌, ◌∙◌, ℕ, Bool, List, [], ◌∷◌, Option, Some, None, Result, Ok, Err, refl, sym, ap}
use Rattle.std.specs.Prelude.{is_some, option_map}
use Rattle.std.specs.FinMap.{get}
use Rattle.fs_model.specs.declared.node.Node.{Node}
use Rattle.fs_model.specs.declared.node.Node.TheVariants.{Dir, File, Sym}
use Rattle.fs_model.specs.declared.error.FsError.{FsError}
use Rattle.fs_model.specs.declared.error.FsError.TheVariants as error
use Rattle.fs_model.specs.Trail.{DecidedBy, Counts, HasCause, unless_lack}
use Rattle.fs_model.proofs.Causes.{cause_so_far}
use Rattle.catalog_server.specs.Answers.{IfText, files_error}
use Rattle.fs_model.specs.Names.{Path}
use Rattle.fs_model.specs.State.{FsState}
use Rattle.fs_model.specs.Effects.{bytes_of}
use Rattle.fs_model.specs.Calls.{ReadsAt, refusal, blocked, or_else, no_file}
use Rattle.fs_model.specs.Reading.{file_bytes, inode_of_node}
use Rattle.fs_model.specs.WellFormed.{WellFormed}
use Rattle.catalog_server.specs.Profile.{catalog_path, profile_of, seen, seen_at, FileSeen}
use Rattle.server_profile.specs.Reading.{if_short, text_in, text_of, no_catalog, reading_error}

pub text_of_profile : (s : FsState) (root : Path) → text_of (profile_of s root) ≡ text_in (seen_at s (catalog_path root))
unfolding profile_of
text_of_profile s root = refl

pub file_seen : (s : FsState) (path : Path) (bytes : List ℕ) → file_bytes s path ≡ Some bytes → seen_at s path ≡ Some (FileSeen bytes)
file_seen s path bytes is = by (get s.names path) is
  where
    by : (found : Option Node) → option_map (bytes_of s.bytes) (inode_of_node found) ≡ Some bytes → option_map (seen s.bytes) found ≡ Some (FileSeen bytes)
    by None e = absurd (cc e)
    by (Some Dir) e = absurd (cc e)
    by (Some (File inode)) e = let same : bytes_of s.bytes inode ≡ bytes = cc e in ap (λ b. Some (FileSeen b)) same
    by (Some (Sym target)) e = absurd (cc e)

-- what was read is the catalog text, unless it is too long
pub read_is_text : (s : FsState) (root : Path) (bytes : List ℕ) → file_bytes s (catalog_path root) ≡ Some bytes → text_of (profile_of s root) ≡ if_short bytes
read_is_text s root bytes is = text_of_profile s root ∙ ap text_in (file_seen s (catalog_path root) bytes is)

-- a file whose way is free isn't refused
pub refused_is_none : (s : FsState) (root : Path) (e : FsError) → WellFormed s → refusal s (ReadsAt (catalog_path root)) ≡ Some e → text_of (profile_of s root) ≡ Err no_catalog
refused_is_none s root e formed refused = text_of_profile s root ∙ by (get s.names (catalog_path root)) refl
  where
    by : (found : Option Node) → get s.names (catalog_path root) ≡ found → text_in (option_map (seen s.bytes) found) ≡ Err no_catalog
    by None is = refl
    by (Some Dir) is = refl
    by (Some (File inode)) is = absurd (
        let way : blocked s.names (catalog_path root) ≡ None = formed.tree (catalog_path root) (ap is_some is) in
        let free : refusal s (ReadsAt (catalog_path root)) ≡ None = (λ i. or_else (way i) (no_file (is i))) in cc (free, refused))
    by (Some (Sym target)) is = refl

-- what an error of reading says of the catalog text
pub reading_text : (T : Type 0) (s : FsState) (root : Path) (e : FsError) → WellFormed s → DecidedBy {T = T} (refusal s (ReadsAt (catalog_path root))) (Err e) → IfText {T = T} (Err (reading_error e)) (λ found. text_of (profile_of s root) ≡ Err found)
reading_text T s root error.NotFound formed decided = refused_is_none s root error.NotFound formed decided
reading_text T s root error.Exists formed decided = refused_is_none s root error.Exists formed decided
reading_text T s root error.NotDir formed decided = refused_is_none s root error.NotDir formed decided
reading_text T s root error.WrongKind formed decided = refused_is_none s root error.WrongKind formed decided
reading_text T s root error.NotEmpty formed decided = refused_is_none s root error.NotEmpty formed decided
reading_text T s root error.CrossDevice formed decided = refused_is_none s root error.CrossDevice formed decided
reading_text T s root error.CrossDir formed decided = refused_is_none s root error.CrossDir formed decided
reading_text T s root error.Failed formed decided = tt
reading_text T s root error.OutOfMemory formed decided = tt

-- what an error of reading says of the counts: a refusal, which shows that there is no text, isn't handed on
pub reading_cause : (firm : Bool) (a b : Counts) (e : FsError) → HasCause firm a b (unless_lack (Some e)) → HasCause firm a b (files_error (Some (reading_error e)))
reading_cause firm a b error.NotFound cause = cause_so_far firm a b (Some error.NotFound) tt cause
reading_cause firm a b error.Exists cause = cause_so_far firm a b (Some error.Exists) tt cause
reading_cause firm a b error.NotDir cause = cause_so_far firm a b (Some error.NotDir) tt cause
reading_cause firm a b error.WrongKind cause = cause_so_far firm a b (Some error.WrongKind) tt cause
reading_cause firm a b error.NotEmpty cause = cause_so_far firm a b (Some error.NotEmpty) tt cause
reading_cause firm a b error.CrossDevice cause = cause_so_far firm a b (Some error.CrossDevice) tt cause
reading_cause firm a b error.CrossDir cause = cause_so_far firm a b (Some error.CrossDir) tt cause
reading_cause firm a b error.Failed cause = cause
reading_cause firm a b error.OutOfMemory cause = cause
