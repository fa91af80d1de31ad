-- Which bytes are read, and which are refused by which cause.
use Rattle.std.proofs.Common.{◌≡◌, ℕ, ◌↔◌, ◌⊎◌, inl, inr, List, length, Ok, Err, refl, subst, arith}
use Rattle.std.proofs.lemmas.Bool.{cases_eq, cases_lt}
use Rattle.std.proofs.lemmas.Bool.Decides.{nat_tests}
use Rattle.control_file.specs.ControlRecord.{IsCause, IsRecordOf, control_in, control_of, right_crc}
use Rattle.control_file.specs.Version.{catalog_version_of}
use Rattle.control_file.specs.declared.records.ControlError.{ControlError}
use Rattle.control_file.specs.declared.records.ControlError.TheVariants.{Short, Crc, ControlVersion, CatalogVersion}
use Rattle.control_file.specs.declared.releases.Release.{Release}

accepted_there : (bytes : List ℕ) (release : Release) → IsRecordOf bytes release → control_in bytes release ≡ Ok (control_of bytes)
unfolding control_in
accepted_there bytes release h = grind (arith, nat_tests, h.whole, h.crc, h.control_version, h.catalog_version)

refused_there : (bytes : List ℕ) (release : Release) (cause : ControlError) → IsCause bytes release cause → control_in bytes release ≡ Err cause
unfolding control_in
refused_there bytes release Short h = grind (arith, nat_tests)
refused_there bytes release Crc h = grind (arith, nat_tests)
refused_there bytes release (ControlVersion found) h = grind (arith, nat_tests)
refused_there bytes release (CatalogVersion found) h = grind (arith, nat_tests)

-- bytes are a record of the release, or a cause holds
decided : (bytes : List ℕ) (release : Release) → IsRecordOf bytes release ⊎ ((cause : ControlError) × IsCause bytes release cause)
decided bytes release =
    elim (cases_lt (length bytes) 296) [
      | inl short ↦ inr (Short, short)
      | inr whole ↦ elim (cases_eq (control_of bytes).crc (right_crc bytes)) [
        | inr other ↦ inr (Crc, (whole, other))
        | inl crc ↦ elim (cases_eq (control_of bytes).control_version 1300) [
          | inr other ↦ inr (ControlVersion (control_of bytes).control_version, (whole, crc, refl, other))
          | inl version ↦ elim (cases_eq (control_of bytes).catalog_version (catalog_version_of release)) [
            | inr other ↦ inr (CatalogVersion (control_of bytes).catalog_version, (whole, crc, version, refl, other))
            | inl catalog ↦ inl (record { whole = whole; crc = crc; control_version = version; catalog_version = catalog })
          ]
        ]
      ]
    ]

-- what is read is a record of the release
pub control_in-Ok : (bytes : List ℕ) (release : Release) → (control_in bytes release ≡ Ok (control_of bytes)) ↔ IsRecordOf bytes release
control_in-Ok bytes release = (
  λ read. elim (decided bytes release) as (λ _. IsRecordOf bytes release) [
    | inl sound ↦ sound
    | inr h ↦ (let e : control_in bytes release ≡ Err h.0 = refused_there bytes release h.0 h.1 in absurd (cc (read, e)))
  ],
  accepted_there bytes release,
)

-- what is refused is refused by its cause
pub control_in-Err : (bytes : List ℕ) (release : Release) (cause : ControlError) → (control_in bytes release ≡ Err cause) ↔ IsCause bytes release cause
control_in-Err bytes release cause = (
  λ refused. elim (decided bytes release) as (λ _. IsCause bytes release cause) [
    | inl sound ↦ (let e : control_in bytes release ≡ Ok (control_of bytes) = accepted_there bytes release sound in absurd (cc (refused, e)))
    | inr h ↦ (let e : control_in bytes release ≡ Err h.0 = refused_there bytes release h.0 h.1 in
        let same : h.0 ≡ cause = cc (refused, e) in
        subst (λ v. IsCause bytes release v) same h.1)
  ],
  refused_there bytes release cause,
)
