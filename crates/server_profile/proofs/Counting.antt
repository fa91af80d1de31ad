-- The cause of an answer of the shipped server.
use Rattle.std.proofs.Common.{◌≡◌, ◌≢◌, ◌≤◌, ℕ, Bool, Option, Some, None, Result, Ok, Err, refl, arith}
use Rattle.fs_model.specs.declared.error.FsError.{FsError}
use Rattle.fs_model.specs.declared.error.FsError.TheVariants as error
use Rattle.fs_model.specs.Trail.{Counts, HasCause}
use Rattle.catalog_server.specs.declared.error.ServerError.{ServerError}
use Rattle.catalog_server.specs.declared.error.ServerError.TheVariants as server
use Rattle.catalog_server.specs.Answers.{ServerCounts, HasServerCause, server_error_of, files_error}
use Rattle.server_profile.specs.Reading.{Counted, IsUnfailed, IsPlain, server_error}

pub plain_error : (T : Type 0) (e : FsError) → IsPlain {T = T} (Err (server_error e))
plain_error T error.NotFound = λ e. cc e
plain_error T error.Exists = λ e. cc e
plain_error T error.NotDir = λ e. cc e
plain_error T error.WrongKind = λ e. cc e
plain_error T error.NotEmpty = λ e. cc e
plain_error T error.CrossDevice = λ e. cc e
plain_error T error.CrossDir = λ e. cc e
plain_error T error.Failed = λ e. cc e
plain_error T error.OutOfMemory = tt

module _ (firm : Bool) (f0 f1 : Counts) (t0 l0 t1 l1 : ℕ) where
  abbrev Before : ServerCounts
  Before = record { faults = 0; texts = t0; last_line = l0 }

  abbrev Now : ServerCounts
  Now = record { faults = 0; texts = t1; last_line = l1 }

  pub counted_cause : {T : Type 0} (answer : Result T ServerError) → Counted t0 t1 l1 answer → IsUnfailed answer → IsPlain answer → HasCause firm f0 f1 (files_error (server_error_of answer)) → HasServerCause firm f0 f1 Before Now (server_error_of answer)
  counted_cause (Ok value) counted unfailed plain files = record { faults = omega arith; texts = omega (arith, counted); rose = tt; told = refl; files = files }
  counted_cause (Err server.Failed) counted unfailed plain files = absurd unfailed
  counted_cause (Err (server.Text line cause)) counted unfailed plain files = record { faults = omega arith; texts = counted.1; rose = (counted.0, counted.2); told = refl; files = files }
  counted_cause (Err (server.Fs e)) counted unfailed plain files = record { faults = omega arith; texts = omega (arith, counted); rose = plain; told = refl; files = files }
  counted_cause (Err server.OutOfMemory) counted unfailed plain files = record { faults = omega arith; texts = omega (arith, counted); rose = tt; told = refl; files = files }
