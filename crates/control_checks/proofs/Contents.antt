-- Control files that are both there.
use Rattle.std.proofs.Common.{◌≡◌, ◌∙◌, ◌++◌, List, ℕ, Option, Some, None, Result, Ok, Err, refl, ap, sym}
use Rattle.fs_model.specs.State.{FsState}
use Rattle.fs_model.specs.Reading.{file_bytes}
use Rattle.control_file.specs.declared.job.Job.{Job}
use Rattle.control_file.specs.declared.modes.Side.{Side}
use Rattle.control_file.specs.declared.modes.Side.TheVariants.{Old, New}
use Rattle.control_file.specs.declared.records.Control.{Control}
use Rattle.control_file.specs.declared.records.ControlError.{ControlError}
use Rattle.control_file.specs.declared.records.ControlError.TheVariants as cause
use Rattle.control_file.specs.declared.releases.Release.TheVariants.{V15, V16}
use Rattle.control_file.specs.ControlRecord.{control_in}
use Rattle.control_checks.specs.declared.refusal.ControlRefusal.{ControlRefusal}
use Rattle.control_checks.specs.Places.{control_path, version_path}
use Rattle.control_checks.specs.Findings.{or_first, no_control, missing_version, wrong_version, reading_in, first_of, record_conditions, field_conditions, reading_of, control_conditions, version_conditions}
use Rattle.control_checks.specs.Causes.{refusal_by, earlier, first_by_records, first_by_readings, first_by_contents, first_by_fields}
use Rattle.control_checks.proofs.Joining.{or_first_assoc, or_first_none}

-- ---- records that aren't read

pub old_unread : (a : ControlError) (b : Control) → first_by_records (Some (Err a)) (Some (Ok b)) ≡ Some (refusal_by Old a)
old_unread cause.Short b = refl
old_unread cause.Crc b = refl
old_unread (cause.ControlVersion found) b = refl
old_unread (cause.CatalogVersion found) b = refl

pub new_unread : (a : Control) (b : ControlError) → first_by_records (Some (Ok a)) (Some (Err b)) ≡ Some (refusal_by New b)
new_unread a cause.Short = refl
new_unread a cause.Crc = refl
new_unread a (cause.ControlVersion found) = refl
new_unread a (cause.CatalogVersion found) = refl

pub both_unread : (a b : ControlError) → first_by_records (Some (Err a)) (Some (Err b)) ≡ Some (earlier a b)
both_unread cause.Short cause.Short = refl
both_unread cause.Short cause.Crc = refl
both_unread cause.Short (cause.ControlVersion n) = refl
both_unread cause.Short (cause.CatalogVersion n) = refl
both_unread cause.Crc cause.Short = refl
both_unread cause.Crc cause.Crc = refl
both_unread cause.Crc (cause.ControlVersion n) = refl
both_unread cause.Crc (cause.CatalogVersion n) = refl
both_unread (cause.ControlVersion m) cause.Short = refl
both_unread (cause.ControlVersion m) cause.Crc = refl
both_unread (cause.ControlVersion m) (cause.ControlVersion n) = refl
both_unread (cause.ControlVersion m) (cause.CatalogVersion n) = refl
both_unread (cause.CatalogVersion m) cause.Short = refl
both_unread (cause.CatalogVersion m) cause.Crc = refl
both_unread (cause.CatalogVersion m) (cause.ControlVersion n) = refl
both_unread (cause.CatalogVersion m) (cause.CatalogVersion n) = refl

-- ---- records that are read

pub read_fields : (old new : List ℕ) (a b : Control) → control_in old V15 ≡ Ok a → control_in new V16 ≡ Ok b → first_by_contents old new ≡ first_by_fields a b
read_fields old new a b first second = λ i. or_first (first_by_records (Some (first i)) (Some (second i))) (first_by_readings (Some (first i)) (Some (second i)))

-- ---- the conditions on control files

records_joined : (s : FsState) (job : Job)
    → or_first (first_by_records (reading_of s job Old) (reading_of s job New)) (first_by_readings (reading_of s job Old) (reading_of s job New)) ≡ first_of s job (record_conditions ++ field_conditions)
records_joined s job = simp (or_first_assoc, or_first_none)

-- both files are there
pub contents_first : (s : FsState) (job : Job) (old new : List ℕ) → file_bytes s (control_path job.old) ≡ Some old → file_bytes s (control_path job.new) ≡ Some new → first_of s job control_conditions ≡ first_by_contents old new
contents_first s job old new first second =
    let a : reading_of s job Old ≡ Some (control_in old V15) = ap (reading_in Old) first in
    let b : reading_of s job New ≡ Some (control_in new V16) = ap (reading_in New) second in
    (λ i. or_first (no_control Old (a i)) (or_first (no_control New (b i)) (first_of s job (record_conditions ++ field_conditions))))
    ∙ sym (records_joined s job)
    ∙ (λ i. or_first (first_by_records (a i) (b i)) (first_by_readings (a i) (b i)))

-- texts of PG_VERSION that are both there
pub versions_first : (s : FsState) (job : Job) (old new : List ℕ) → file_bytes s (version_path job.old) ≡ Some old → file_bytes s (version_path job.new) ≡ Some new
    → first_of s job version_conditions ≡ or_first (wrong_version Old (Some old)) (wrong_version New (Some new))
versions_first s job old new first second =
    (λ i. or_first (missing_version Old (first i)) (or_first (missing_version New (second i)) (or_first (wrong_version Old (first i)) (or_first (wrong_version New (second i)) None))))
    ∙ ap (or_first (wrong_version Old (Some old))) (or_first_none (wrong_version New (Some new)))
