-- What a control file says that is read.
use Rattle.std.proofs.Common.{◌≡◌, ℕ, Bool, true, false, if◌then◌else◌, List, Result, Ok, Err, refl, sym, ◌∙◌, ap}
use Rattle.std.specs.Prelude.{◌==◌, nat_lt, length}
use Rattle.control_file.specs.declared.releases.Release.{Release}
use Rattle.control_file.specs.declared.records.Control.{Control}
use Rattle.control_file.specs.declared.records.ControlError.{ControlError}
use Rattle.control_file.specs.declared.records.ControlError.TheVariants.{Short, Crc, ControlVersion, CatalogVersion}
use Rattle.control_file.specs.ControlRecord.{IsRecordOf, control_in, control_of, checked, right_crc}
use Rattle.control_file.specs.Version.{catalog_version_of}
use Rattle.control_file.proofs.RecordCauses.{control_in-Ok}

-- a record that is read is the one that the bytes begin with
says_of : (bytes : List ℕ) (release : Release) (control : Control) → control_in bytes release ≡ Ok control → control_in bytes release ≡ Ok (control_of bytes)
unfolding control_in
says_of bytes release control e = short (nat_lt (length bytes) 296) e
  where
    version : (b : Bool) → (if b then Ok (control_of bytes) else Err (CatalogVersion (control_of bytes).catalog_version)) ≡ Ok control → (if b then Ok (control_of bytes) else Err (CatalogVersion (control_of bytes).catalog_version)) ≡ Ok (control_of bytes)
    version true e = refl
    version false e = absurd (cc e)

    control_version : (b : Bool) → (if b then (if (control_of bytes).catalog_version == catalog_version_of release then Ok (control_of bytes) else Err (CatalogVersion (control_of bytes).catalog_version)) else Err (ControlVersion (control_of bytes).control_version)) ≡ Ok control
        → (if b then (if (control_of bytes).catalog_version == catalog_version_of release then Ok (control_of bytes) else Err (CatalogVersion (control_of bytes).catalog_version)) else Err (ControlVersion (control_of bytes).control_version)) ≡ Ok (control_of bytes)
    control_version true e = version ((control_of bytes).catalog_version == catalog_version_of release) e
    control_version false e = absurd (cc e)

    crc : (b : Bool) → (if b then checked (control_of bytes) release else Err Crc) ≡ Ok control → (if b then checked (control_of bytes) release else Err Crc) ≡ Ok (control_of bytes)
    crc true e = control_version ((control_of bytes).control_version == 1300) e
    crc false e = absurd (cc e)

    short : (b : Bool) → (if b then Err Short else (if (control_of bytes).crc == right_crc bytes then checked (control_of bytes) release else Err Crc)) ≡ Ok control
        → (if b then Err Short else (if (control_of bytes).crc == right_crc bytes then checked (control_of bytes) release else Err Crc)) ≡ Ok (control_of bytes)
    short true e = absurd (cc e)
    short false e = crc ((control_of bytes).crc == right_crc bytes) e

pub read_is_record : (bytes : List ℕ) (release : Release) (control : Control) → control_in bytes release ≡ Ok control → IsRecordOf bytes release
read_is_record bytes release control e = (control_in-Ok bytes release).0 (says_of bytes release control e)

pub read_is_control : (bytes : List ℕ) (release : Release) (control : Control) → control_in bytes release ≡ Ok control → control ≡ control_of bytes
read_is_control bytes release control e = let both = sym e ∙ says_of bytes release control e in cc both
