-- What is known where no condition of a refusal holds.
use Rattle.std.proofs.Common.{◌≡◌, ℕ, Bool, true, false, not, if◌then◌else◌, List, Option, Some, None, Result, Ok, Err, refl, sym, ◌∙◌, ap, subst}
use Rattle.std.specs.Prelude.{is_some, bytes_eq}
use Rattle.std.specs.Option.{option_map}
use Rattle.std.specs.FinMap.{get}
use Rattle.std.proofs.lemmas.Slice.Eq.{bytes_eq-Decides}
use Rattle.fs_model.specs.declared.node.Node.{Node}
use Rattle.fs_model.specs.State.{FsState}
use Rattle.crash_safety.specs.Places.{disabled_at}
use Rattle.control_file.specs.declared.job.Job.{Job}
use Rattle.control_file.specs.declared.modes.Mode.TheVariants.{Link}
use Rattle.control_file.specs.declared.modes.Side.{Side}
use Rattle.control_file.specs.declared.modes.Side.TheVariants.{Old, New}
use Rattle.control_file.specs.declared.releases.Release.TheVariants.{V15, V16}
use Rattle.catalog.specs.Cluster.{Cluster, started}
use Rattle.dump_grammar.specs.declared.error.TextError.{TextError}
use Rattle.catalog_server.specs.Profile.{profile_of}
use Rattle.control_checks.specs.declared.refusal.ControlRefusal.{ControlRefusal}
use Rattle.control_checks.specs.Findings.{LieApart, HasDir, HasVersion, VersionIs, IsStopped, IsEnabled, HasControl, ControlIsWhole, ControlIsSound, ControlVersionIs as ControlVersionFits, CatalogVersionIs as CatalogVersionFits, IsShutDown, BlocksFit, FieldsAgree, ControlCondition, finding}
use Rattle.compat_checks.specs.declared.refusal.Refusal.{Refusal}
use Rattle.compat_checks.specs.declared.refusal.Refusal.TheVariants.{MissingFile, TablespaceDir, DeviceDiffers, ControlOldExists, InstallUser, NewNotEmpty}
use Rattle.compat_checks.specs.Order.{OverlapIs, MissingDirIs, MissingVersionIs, WrongVersionIs, RunningIs, OldDisabledIs, NoControlIs, ControlShortIs, ControlCrcIs, ControlVersionIs, CatalogVersionIs, NotShutDownIs, BlockSizeIs, ControlDiffersIs, CatalogTextIs, InstallUserIs, NewNotEmptyIs, NewUsedIs, TablespaceDirIs, MissingFileIs, SharedInodeIs, DeviceDiffersIs, ControlOldExistsIs}
use Rattle.compat_checks.specs.Controls.{lifted}
use Rattle.tree_checks.specs.Findings.{IsFirstOf}
use Rattle.tree_checks.specs.MissingDirs.{IsMissingDir}
use Rattle.file_checks.specs.Tablespaces.{IsTablespaceDir}
use Rattle.file_checks.specs.RelationFiles.{IsMissingFile}
use Rattle.file_checks.specs.Devices.{IsDeviceDiffers}
use Rattle.phase_facts.specs.CanUpgrade.{AreRead}
use Rattle.upgrade_checks.specs.Findings.{Reader, Readings, readings_in, reading_in, refused_if, RefusedUnless, TellsPath, OfCatalog, OfCatalogs, OfLink, catalog_text, install_user, Finds}
use Rattle.upgrade_checks.specs.Passing.{FindsNothing}
use Rattle.passed_checks.specs.Controls.{FindsNoControl}
use Rattle.passed_checks.specs.Passing.{PassesFiles, PassesRelations}

none_lifted : (found : Option ControlRefusal) → None ≡ option_map lifted found → found ≡ None
none_lifted None e = refl
none_lifted (Some refusal) e = absurd (cc e)

no_refusal : (test : Bool) (refusal : Refusal) → None ≡ refused_if test refusal → test ≡ false
no_refusal true refusal e = absurd (cc e)
no_refusal false refusal e = refl

readable : (side : Side) (reading : Result Cluster TextError) → None ≡ catalog_text side reading → (c : Cluster) × (reading ≡ Ok c)
readable side (Ok c) e = (c, refl)
readable side (Err error) e = absurd (cc e)

not_false : (b : Bool) → not b ≡ false → b ≡ true
not_false true e = refl
not_false false e = absurd (cc e)

module _ (read : Reader) (s : FsState) (job : Job) (none : FindsNothing s job (readings_in read s job)) where
  abbrev old_reading : Result Cluster TextError
  old_reading = reading_in read s job Old

  abbrev new_reading : Result Cluster TextError
  new_reading = reading_in read s job New

  no_control : FindsNoControl s job
  no_control LieApart = none_lifted (finding s job LieApart) (none OverlapIs)
  no_control (HasDir side) = none_lifted (finding s job (HasDir side)) (none (MissingDirIs side))
  no_control (HasVersion side) = none_lifted (finding s job (HasVersion side)) (none (MissingVersionIs side))
  no_control (VersionIs side) = none_lifted (finding s job (VersionIs side)) (none (WrongVersionIs side))
  no_control (IsStopped side) = none_lifted (finding s job (IsStopped side)) (none (RunningIs side))
  no_control IsEnabled = none_lifted (finding s job IsEnabled) (none OldDisabledIs)
  no_control (HasControl side) = none_lifted (finding s job (HasControl side)) (none (NoControlIs side))
  no_control (ControlIsWhole side) = none_lifted (finding s job (ControlIsWhole side)) (none (ControlShortIs side))
  no_control (ControlIsSound side) = none_lifted (finding s job (ControlIsSound side)) (none (ControlCrcIs side))
  no_control (ControlVersionFits side) = none_lifted (finding s job (ControlVersionFits side)) (none (ControlVersionIs side))
  no_control (CatalogVersionFits side) = none_lifted (finding s job (CatalogVersionFits side)) (none (CatalogVersionIs side))
  no_control (IsShutDown side) = none_lifted (finding s job (IsShutDown side)) (none (NotShutDownIs side))
  no_control (BlocksFit side) = none_lifted (finding s job (BlocksFit side)) (none (BlockSizeIs side))
  no_control FieldsAgree = none_lifted (finding s job FieldsAgree) (none ControlDiffersIs)

  pub old_read : (c : Cluster) × (old_reading ≡ Ok c)
  old_read = readable Old old_reading (none (CatalogTextIs Old))

  new_read : (c : Cluster) × (new_reading ≡ Ok c)
  new_read = readable New new_reading (none (CatalogTextIs New))

  -- a finding on the old catalog
  on_old : (Test : Cluster → Option Refusal → Type 0) → OfCatalog Test old_reading None → Test old_read.0 None
  on_old Test found = subst (λ reading. OfCatalog Test reading None) old_read.1 found

  on_new : (Test : Cluster → Option Refusal → Type 0) → OfCatalog Test new_reading None → Test new_read.0 None
  on_new Test found = subst (λ reading. OfCatalog Test reading None) new_read.1 found

  starting : new_read.0 ≡ started new_read.0.bootstrap
  starting = on_new (λ new. RefusedUnless (new ≡ started new.bootstrap) NewNotEmpty) (none NewNotEmptyIs)

  one_user : old_read.0.bootstrap ≡ new_read.0.bootstrap
  one_user =
      let found = on_new (λ new found. found ≡ install_user old_read.0 new) (on_old (λ old. OfCatalog (λ new found. found ≡ install_user old new) new_reading) (none InstallUserIs)) in
      (bytes_eq-Decides old_read.0.bootstrap new_read.0.bootstrap).0 (not_false (bytes_eq old_read.0.bootstrap new_read.0.bootstrap) (no_refusal (not (bytes_eq old_read.0.bootstrap new_read.0.bootstrap)) InstallUser found))

  pub are_read : AreRead read job old_read.0 s
  are_read = record {
    old = old_read.1;
    new = new_read.1 ∙ ap Ok (starting ∙ ap started (sym one_user));
  }

  missing : IsFirstOf (IsMissingDir s.names job.old job.new) (IsMissingFile s job.old old_read.0) None
  missing = on_old (λ old. TellsPath MissingFile (IsFirstOf (IsMissingDir s.names job.old job.new) (IsMissingFile s job.old old))) (none MissingFileIs)

  free_name : job.mode ≡ Link → get s.names (disabled_at job.old) ≡ None
  free_name link = by (get s.names (disabled_at job.old)) refl
    where
      test : is_some (get s.names (disabled_at job.old)) ≡ false
      test = no_refusal (is_some (get s.names (disabled_at job.old))) ControlOldExists (subst (λ mode. OfLink mode (λ found. found ≡ refused_if (is_some (get s.names (disabled_at job.old))) ControlOldExists) None) link (none ControlOldExistsIs))

      by : (there : Option Node) → get s.names (disabled_at job.old) ≡ there → get s.names (disabled_at job.old) ≡ None
      by None is = is
      by (Some one) is = absurd (let e = ap is_some (sym is) ∙ test in cc e)

  pub passes_files : PassesFiles s job old_read.0
  passes_files = record {
    controls = no_control;
    used = none NewUsedIs;
    tablespaces = on_old (λ old. TellsPath TablespaceDir (IsTablespaceDir s job.old job.new old)) (none TablespaceDirIs);
    directories = missing.0;
    shared = none SharedInodeIs;
    disabled = free_name;
  }

  pub passes_relations : PassesRelations s job old_read.0
  passes_relations = record {
    files = missing.1;
    devices = λ link. on_old (λ old. TellsPath DeviceDiffers (IsDeviceDiffers s job.old job.new old)) (subst (λ mode. OfLink mode (OfCatalog (λ old. TellsPath DeviceDiffers (IsDeviceDiffers s job.old job.new old)) old_reading) None) link (none DeviceDiffersIs));
  }
