-- What the checks give for the first phase.
use Rattle.std.proofs.Common.{◌≡◌, ◌∙◌, ◌++◌, ◌∷◌, ℕ, Bool, true, false, if◌then◌else◌, List, Option, Some, None, Ok, Err, refl, sym, ap, subst}
use Rattle.std.specs.Prelude.{[], length, nat_lt, ◌==◌, is_some}
use Rattle.std.specs.Option.{unwrap_or}
use Rattle.std.specs.FinMap.{get}
use Rattle.fs_model.specs.declared.node.Node.{Node}
use Rattle.fs_model.specs.State.{FsState}
use Rattle.fs_model.specs.Reading.{file_bytes}
use Rattle.fs_model.specs.WellFormed.{WellFormed}
use Rattle.control_file.specs.declared.job.Job.{Job}
use Rattle.control_file.specs.declared.records.Control.{Control}
use Rattle.control_file.specs.declared.records.ControlError.TheVariants.{Short, Crc, ControlVersion, CatalogVersion}
use Rattle.control_file.specs.declared.releases.Release.{Release}
use Rattle.control_file.specs.declared.releases.Release.TheVariants.{V15}
use Rattle.control_file.specs.ControlRecord.{control_in, control_of, checked, right_crc}
use Rattle.control_file.specs.Version.{catalog_version_of}
use Rattle.control_checks.specs.Places.{control_path}
use Rattle.catalog.specs.Cluster.{Cluster}
use Rattle.catalog.specs.Valid.{IsValid}
use Rattle.compat_checks.specs.declared.answer.Passed.{Passed}
use Rattle.upgrade_checks.specs.Findings.{Reader, readings_in}
use Rattle.upgrade_checks.specs.Passing.{FindsNothing}
use Rattle.upgrade_checks.specs.Answers.{IsReadFrom}
use Rattle.phase_facts.specs.CanUpgrade.{AreRead}
use Rattle.phases.specs.Begun.{IsOpened}
use Rattle.fs_model.specs.Trail.{Trail, Unchanged}
use Rattle.crash_safety.specs.Places.{links_at}
use Rattle.crash_safety.specs.Sound.{Whole}
use Rattle.tree_checks.specs.declared.new_dirs.NewDir.TheVariants.{Links}
use Rattle.tree_checks.specs.Findings.{IsLeast}
use Rattle.tree_checks.specs.NewDirs.{IsUsed}
use Rattle.upgraded.specs.Upgraded.{ReadsCatalog}
use Rattle.phase_facts.proofs.Reading.{reads_held}
use Rattle.phases.specs.declared.checked.Checked.{Checked}
use Rattle.phases.specs.Facts.{IsChecked}
use Rattle.passed_checks.specs.Passing.{PassesFiles, PassesRelations}
use Rattle.passed_checks.proofs.Finding.{old_read, are_read, passes_files, passes_relations}
use Rattle.passed_checks.proofs.Beginning.{can_upgrade}
use Rattle.passed_upgradable.proofs.Passed.{is_upgradable}
use Rattle.passed_checks.proofs.OwnFiles.{own_files}
use Rattle.passed_upgradable.proofs.PlannedFiles.{is_file}

-- a control record that is read is the one that the bytes begin with
pub read_is_control : (bytes : List ℕ) (release : Release) (control : Control) → control_in bytes release ≡ Ok control → control ≡ control_of bytes
unfolding control_in
read_is_control bytes release control e = short (nat_lt (length bytes) 296) e
  where
    version : (b : Bool) → (if b then Ok (control_of bytes) else Err (CatalogVersion (control_of bytes).catalog_version)) ≡ Ok control → control ≡ control_of bytes
    version true e = cc e
    version false e = absurd (cc e)

    control_version : (b : Bool) → (if b then (if (control_of bytes).catalog_version == catalog_version_of release then Ok (control_of bytes) else Err (CatalogVersion (control_of bytes).catalog_version)) else Err (ControlVersion (control_of bytes).control_version)) ≡ Ok control → control ≡ control_of bytes
    control_version true e = version ((control_of bytes).catalog_version == catalog_version_of release) e
    control_version false e = absurd (cc e)

    crc : (b : Bool) → (if b then checked (control_of bytes) release else Err Crc) ≡ Ok control → control ≡ control_of bytes
    crc true e = control_version ((control_of bytes).control_version == 1300) e
    crc false e = absurd (cc e)

    short : (b : Bool) → (if b then Err Short else (if (control_of bytes).crc == right_crc bytes then checked (control_of bytes) release else Err Crc)) ≡ Ok control → control ≡ control_of bytes
    short true e = absurd (cc e)
    short false e = crc ((control_of bytes).crc == right_crc bytes) e

-- the catalog that the checks read is the one that both clusters' reading gives
same_catalog : (read : Reader) (s : FsState) (job : Job) (passed : Passed) (none : FindsNothing s job (readings_in read s job)) → IsReadFrom s job (readings_in read s job) passed → (old_read read s job none).0 ≡ passed.old_catalog
same_catalog read s job passed none from =
    let one = (are_read read s job none).old in
    let other = from.old_catalog in
    cc (one, other)

-- in a new cluster that isn't in use no tablespace link stands
unlinked : (s : FsState) (job : Job) → IsLeast (IsUsed s.names job.new) None → (name : List ℕ) → get s.names (links_at job.new ++ name ∷ []) ≡ None
unlinked s job none name = of (get s.names (links_at job.new ++ name ∷ [])) refl
  where
    of : (node : Option Node) → get s.names (links_at job.new ++ name ∷ []) ≡ node → get s.names (links_at job.new ++ name ∷ []) ≡ None
    of None is = is
    of (Some node) is = absurd (none (links_at job.new ++ name ∷ []) (Links, (name, refl, ap is_some is, refl)))

-- where no condition holds the upgrade can be opened with what the checks read
pub opened : (read : Reader) (s : FsState) (job : Job) (passed : Passed) → WellFormed s → FindsNothing s job (readings_in read s job) → IsReadFrom s job (readings_in read s job) passed → IsValid passed.old_catalog → IsOpened read job passed.old_catalog passed.old_control passed.new_record s
opened read s job passed well none from valid =
    let same = same_catalog read s job passed none from in
    let passes = subst (λ (catalog : Cluster). PassesFiles s job catalog) same (passes_files read s job none) in
    let relations = subst (λ (catalog : Cluster). PassesRelations s job catalog) same (passes_relations read s job none) in
    let reading = subst (λ (catalog : Cluster). AreRead read job catalog s) same (are_read read s job none) in
    let upgradable = is_upgradable read s job passed.old_catalog well valid reading passes relations in
    let bytes : unwrap_or (file_bytes s (control_path job.old)) [] ≡ from.old_bytes = ap (λ file. unwrap_or file []) from.old_file in
    record {
      can = can_upgrade s job passed.old_catalog well passes relations valid passed.new_record (from.new_bytes, from.new_file, sym from.new_record);
      reading = reading;
      upgradable = upgradable;
      own_files = record {
        files = λ relation found fork segment there small is. let (inode, file) = own_files s job.old passed.old_catalog relations.files relation found fork segment there small is in is_file there inode file;
        free = upgradable.free_files;
      };
      counters = read_is_control from.old_bytes V15 passed.old_control from.old_control ∙ sym (ap control_of bytes);
      unlinked = λ name. unlinked s job passes.used name;
    }

-- the first phase, when the checks have read and changed nothing
pub checked_later : (read : ReadsCatalog) (phase : Checked) (opening now : Trail) → IsChecked read phase opening opening → Unchanged opening now → IsChecked read phase opening now
checked_later read phase opening now fact unchanged = record {
  opened = fact.opened;
  held = reads_held phase.job Whole (λ e. cc e) opening opening now fact.held unchanged;
  unchanged = unchanged;
}
