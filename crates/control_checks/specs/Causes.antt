-- Which of two records that aren't read is refused first, and the first refusal by the fields of two that are.
use Rattle.std.specs.Prelude.{ℕ, nat_le, if◌then◌else◌, List, Option, Some}
use Rattle.control_file.specs.declared.modes.Side.{Side}
use Rattle.control_file.specs.declared.modes.Side.TheVariants.{Old, New}
use Rattle.control_file.specs.declared.records.Control.{Control}
use Rattle.control_file.specs.declared.records.ControlError.{ControlError}
use Rattle.control_file.specs.declared.records.ControlError.TheVariants as cause
use Rattle.control_file.specs.declared.releases.Release.TheVariants.{V15, V16}
use Rattle.control_file.specs.ControlRecord.{control_in}
use Rattle.control_checks.specs.declared.refusal.ControlRefusal.{ControlRefusal}
use Rattle.control_checks.specs.declared.refusal.ControlRefusal.TheVariants.{ControlShort, ControlCrc, ControlVersion, CatalogVersion}
use Rattle.control_checks.specs.Findings.{Reading, or_first, control_short, control_crc, control_version, catalog_version, not_shut_down, block_size, of_control, of_controls, control_differs}

-- the order in which a record is tested
abbrev pub number_of : ControlError → ℕ
number_of cause.Short = 0
number_of cause.Crc = 1
number_of (cause.ControlVersion found) = 2
number_of (cause.CatalogVersion found) = 3

abbrev pub refusal_by : Side → ControlError → ControlRefusal
refusal_by side cause.Short = ControlShort side
refusal_by side cause.Crc = ControlCrc side
refusal_by side (cause.ControlVersion found) = ControlVersion side found
refusal_by side (cause.CatalogVersion found) = CatalogVersion side found

abbrev pub earlier : ControlError → ControlError → ControlRefusal
earlier old new = if nat_le (number_of old) (number_of new) then refusal_by Old old else refusal_by New new

abbrev pub first_by_fields : Control → Control → Option ControlRefusal
first_by_fields old new =
    or_first (not_shut_down Old old) (or_first (not_shut_down New new) (or_first (block_size Old old) (or_first (block_size New new) (control_differs old new))))

-- the first refusal by what both control files say, up to their versions
abbrev pub first_by_records : Reading → Reading → Option ControlRefusal
first_by_records a b =
    or_first (control_short Old a) (or_first (control_short New b) (or_first (control_crc Old a) (or_first (control_crc New b)
    (or_first (control_version Old a) (or_first (control_version New b) (or_first (catalog_version Old a) (catalog_version New b)))))))

-- the first by their fields
abbrev pub first_by_readings : Reading → Reading → Option ControlRefusal
first_by_readings a b =
    or_first (of_control (not_shut_down Old) a) (or_first (of_control (not_shut_down New) b) (or_first (of_control (block_size Old) a) (or_first (of_control (block_size New) b) (of_controls control_differs a b))))

-- the first by the bytes of both
abbrev pub first_by_contents : List ℕ → List ℕ → Option ControlRefusal
first_by_contents old new =
    let a = Some (control_in old V15) in
    let b = Some (control_in new V16) in
    or_first (first_by_records a b) (first_by_readings a b)
