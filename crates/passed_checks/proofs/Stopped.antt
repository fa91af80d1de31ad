-- Where the checks of directories, releases and control files find nothing, both clusters are stopped ones.
use Rattle.std.proofs.Common.{◌≡◌, ◌≢◌, ℕ, Bool, true, false, not, ◌&&◌, ◌||◌, if◌then◌else◌, List, [], ◌∷◌, ◌++◌, Option, Some, None, Result, Ok, Err, refl, sym, ◌∙◌, ap, subst}
use Rattle.std.specs.Prelude.{◌==◌, is_some, bytes_eq, slice_get}
use Rattle.std.specs.Option.{option_map}
use Rattle.std.specs.List.{find}
use Rattle.std.specs.FinMap.{get}
use Rattle.std.proofs.lemmas.Bool.{eqb-true, eq-eqb, false_from_ne_true}
use Rattle.std.proofs.lemmas.Slice.Eq.{bytes_eq-Decides}
use Rattle.fs_model.specs.declared.node.Node.{Node}
use Rattle.fs_model.specs.declared.node.Node.TheVariants.{Dir, File, Sym}
use Rattle.fs_model.specs.Names.{Path, is_under, IsUnder}
use Rattle.fs_model.specs.State.{FsState}
use Rattle.fs_model.specs.Effects.{bytes_of}
use Rattle.fs_model.specs.Reading.{file_bytes, inode_of_node}
use Rattle.fs_model.proofs.Prefixes.{is_under_made}
use Rattle.control_file.specs.declared.job.Job.{Job}
use Rattle.control_file.specs.declared.modes.Side.{Side}
use Rattle.control_file.specs.declared.modes.Side.TheVariants.{Old, New}
use Rattle.control_file.specs.declared.records.Control.{Control}
use Rattle.control_file.specs.declared.records.ControlError.{ControlError}
use Rattle.control_file.specs.declared.records.ControlError.TheVariants as cause
use Rattle.control_file.specs.ControlRecord.{control_in}
use Rattle.control_file.specs.Version.{version_text_of}
use Rattle.control_checks.specs.declared.refusal.ControlRefusal.{ControlRefusal}
use Rattle.control_checks.specs.declared.refusal.ControlRefusal.TheVariants.{Overlap, WrongVersion, NotShutDown, BlockSize}
use Rattle.control_checks.specs.Places.{root_of, release_of, version_path, control_path}
use Rattle.control_checks.specs.Findings.{LieApart, HasDir, HasVersion, VersionIs, HasControl, ControlIsWhole, ControlIsSound, ControlVersionIs, CatalogVersionIs, IsShutDown, BlocksFit, FieldsAgree, finding, kind_at, kind_of, missing_dir, missing_version, wrong_version, no_control, control_short, control_crc, control_version, catalog_version, reading_in, reading_of, of_control, of_controls, not_shut_down, block_size, control_differs, field_pairs, differs, told_pair, overlaps}
use Rattle.passed_checks.specs.Controls.{FindsNoControl, IsStoppedCluster, AreStoppedClusters}

not_refused : (test : Bool) (refusal : ControlRefusal) → (if test then Some refusal else None) ≡ None → test ≡ false
not_refused true refusal e = absurd (cc e)
not_refused false refusal e = refl

passes : (test : Bool) (refusal : ControlRefusal) → (if test then None else Some refusal) ≡ None → test ≡ true
passes true refusal e = refl
passes false refusal e = absurd (cc e)

both_false : (x y : Bool) → (x || y) ≡ false → (x ≡ false) × (y ≡ false)
both_false true y e = absurd (cc e)
both_false false y e = (refl, e)

both_true : (x y : Bool) → (x && y) ≡ true → (x ≡ true) × (y ≡ true)
both_true true y e = (refl, e)
both_true false y e = absurd (cc e)

not_true : (x : Bool) → not x ≡ true → x ≡ false
not_true true e = absurd (cc e)
not_true false e = refl

not_false : (x : Bool) → not x ≡ false → x ≡ true
not_false true e = refl
not_false false e = absurd (cc e)

not_under : (top path : Path) → is_under top path ≡ false → IsUnder top path → ⊥
not_under top path e under = let made = is_under_made top path under in cc (made, e)

none_found : {P : Type 0} (tell : P → ControlRefusal) (found : Option P) → option_map tell found ≡ None → found ≡ None
none_found tell None e = refl
none_found tell (Some pair) e = absurd (cc e)

behind : {P : Type 0} (test : P → Bool) (x : P) (xs : List P) → find test (x ∷ xs) ≡ None → (test x ≡ false) × (find test xs ≡ None)
behind test x xs e = by (test x) refl
  where
    by : (b : Bool) → test x ≡ b → (test x ≡ false) × (find test xs ≡ None)
    by true is = absurd (let f = ap (λ b. if b then Some x else find test xs) (sym is) ∙ e in cc f)
    by false is = (is, ap (λ b. if b then Some x else find test xs) (sym is) ∙ e)

third_fails : {P : Type 0} (test : P → Bool) (xs : List P) → find test xs ≡ None → (z : P) → slice_get xs 2 ≡ Some z → test z ≡ false
third_fails test [] e z is = absurd (cc is)
third_fails test (a ∷ []) e z is = absurd (cc is)
third_fails test (a ∷ b ∷ []) e z is = absurd (cc is)
third_fails test (a ∷ b ∷ c ∷ xs) e z is =
    let rest = behind test b (c ∷ xs) (behind test a (b ∷ c ∷ xs) e).1 in
    let same : c ≡ z = cc is in
    ap test (sym same) ∙ (behind test c xs rest.1).0

module _ (s : FsState) (job : Job) (none : FindsNoControl s job) where
  apart : (is_under job.new job.old ≡ false) × (is_under job.old job.new ≡ false)
  apart = both_false (is_under job.new job.old) (is_under job.old job.new) (not_refused (overlaps job) Overlap (none LieApart))

  module _ (side : Side) where
    root_stands : get s.names (root_of job side) ≡ Some Dir
    root_stands = by (get s.names (root_of job side)) refl
      where
        by : (there : Option Node) → get s.names (root_of job side) ≡ there → get s.names (root_of job side) ≡ Some Dir
        by None is = absurd (let e = ap (λ n. missing_dir side (option_map kind_of n)) (sym is) ∙ none (HasDir side) in cc e)
        by (Some Dir) is = is
        by (Some (File inode)) is = absurd (let e = ap (λ n. missing_dir side (option_map kind_of n)) (sym is) ∙ none (HasDir side) in cc e)
        by (Some (Sym target)) is = absurd (let e = ap (λ n. missing_dir side (option_map kind_of n)) (sym is) ∙ none (HasDir side) in cc e)

    version_is : file_bytes s (version_path (root_of job side)) ≡ Some (version_text_of (release_of side))
    version_is = by (file_bytes s (version_path (root_of job side))) refl
      where
        by : (file : Option (List ℕ)) → file_bytes s (version_path (root_of job side)) ≡ file → file_bytes s (version_path (root_of job side)) ≡ Some (version_text_of (release_of side))
        by None is = absurd (let e = ap (missing_version side) (sym is) ∙ none (HasVersion side) in cc e)
        by (Some version) is =
            let test = passes (bytes_eq version (version_text_of (release_of side))) (WrongVersion side) (ap (wrong_version side) (sym is) ∙ none (VersionIs side)) in
            is ∙ ap Some ((bytes_eq-Decides version (version_text_of (release_of side))).0 test)

    abbrev Said : Type 0
    Said = (bytes : List ℕ) × (file_bytes s (control_path (root_of job side)) ≡ Some bytes) × (control : Control) × (control_in bytes (release_of side) ≡ Ok control)

    said : Said
    said = by (file_bytes s (control_path (root_of job side))) refl
      where
        test : (file : Option (List ℕ)) → file_bytes s (control_path (root_of job side)) ≡ file → (of : Option (Result Control ControlError) → Option ControlRefusal) → of (reading_of s job side) ≡ None → of (reading_in side file) ≡ None
        test file is of e = ap (λ f. of (reading_in side f)) (sym is) ∙ e

        record_of : (bytes : List ℕ) → file_bytes s (control_path (root_of job side)) ≡ Some bytes → (answer : Result Control ControlError) → control_in bytes (release_of side) ≡ answer → Said
        record_of bytes is (Ok control) says = (bytes, is, control, says)
        record_of bytes is (Err cause.Short) says = absurd (let e = ap (λ r. control_short side (Some r)) (sym says) ∙ test (Some bytes) is (control_short side) (none (ControlIsWhole side)) in cc e)
        record_of bytes is (Err cause.Crc) says = absurd (let e = ap (λ r. control_crc side (Some r)) (sym says) ∙ test (Some bytes) is (control_crc side) (none (ControlIsSound side)) in cc e)
        record_of bytes is (Err (cause.ControlVersion found)) says = absurd (let e = ap (λ r. control_version side (Some r)) (sym says) ∙ test (Some bytes) is (control_version side) (none (ControlVersionIs side)) in cc e)
        record_of bytes is (Err (cause.CatalogVersion found)) says = absurd (let e = ap (λ r. catalog_version side (Some r)) (sym says) ∙ test (Some bytes) is (catalog_version side) (none (CatalogVersionIs side)) in cc e)

        by : (file : Option (List ℕ)) → file_bytes s (control_path (root_of job side)) ≡ file → Said
        by None is = absurd (let e = test None is (no_control side) (none (HasControl side)) in cc e)
        by (Some bytes) is = record_of bytes is (control_in bytes (release_of side)) refl

    reading_is : reading_of s job side ≡ Some (Ok said.2)
    reading_is = ap (reading_in side) said.1 ∙ ap Some said.3

    node_stands : (inode : ℕ) × (get s.names (control_path (root_of job side)) ≡ Some (File inode))
    node_stands = by (get s.names (control_path (root_of job side))) refl
      where
        none_there : (there : Option Node) → get s.names (control_path (root_of job side)) ≡ there → option_map (bytes_of s.bytes) (inode_of_node there) ≡ Some said.0
        none_there there is = ap (λ n. option_map (bytes_of s.bytes) (inode_of_node n)) (sym is) ∙ said.1

        by : (there : Option Node) → get s.names (control_path (root_of job side)) ≡ there → (inode : ℕ) × (get s.names (control_path (root_of job side)) ≡ Some (File inode))
        by None is = absurd (let e = none_there None is in cc e)
        by (Some Dir) is = absurd (let e = none_there (Some Dir) is in cc e)
        by (Some (File inode)) is = (inode, is)
        by (Some (Sym target)) is = absurd (let e = none_there (Some (Sym target)) is in cc e)

    sizes : (said.2.blcksz ≡ 8192) × (said.2.relseg_size ≢ 0)
    sizes =
        let e = ap (of_control (block_size side)) (sym reading_is) ∙ none (BlocksFit side) in
        let both = both_true (said.2.blcksz == 8192) (not (said.2.relseg_size == 0)) (passes (said.2.blcksz == 8192 && not (said.2.relseg_size == 0)) (BlockSize side) e) in
        (eqb-true said.2.blcksz 8192 both.0, λ zero. let f = eq-eqb said.2.relseg_size 0 zero in let g = not_true (said.2.relseg_size == 0) both.1 in cc (f, g))

    state_is : said.2.state ≡ 1
    state_is = eqb-true said.2.state 1 (passes (said.2.state == 1) (NotShutDown side said.2.state) (ap (of_control (not_shut_down side)) (sym reading_is) ∙ none (IsShutDown side)))

    stopped : IsStoppedCluster s job side
    stopped = record {
      dir = root_stands;
      version = version_is;
      inode = node_stands.0;
      control_file = node_stands.1;
      bytes = said.0;
      control_bytes = said.1;
      control = said.2;
      says = said.3;
      shut_down = state_is;
      block_size = sizes.0;
      segment_size = sizes.1;
    }

  segments_agree : (said Old).2.relseg_size ≡ (said New).2.relseg_size
  segments_agree =
      let old = (said Old).2 in
      let new = (said New).2 in
      let e = (λ i. of_controls control_differs (sym (reading_is Old) i) (sym (reading_is New) i)) ∙ none FieldsAgree in
      let all = none_found told_pair (find differs (field_pairs old new)) e in
      eqb-true old.relseg_size new.relseg_size (not_false (old.relseg_size == new.relseg_size) (third_fails differs (field_pairs old new) all _ refl))

  pub are_stopped : AreStoppedClusters s job
  unfolding stopped said
  are_stopped = record {
    old = stopped Old;
    new = stopped New;
    old_apart = not_under job.new job.old apart.0;
    new_apart = not_under job.old job.new apart.1;
    one_segment_size = segments_agree;
  }
