-- What the answers of a file system and of a reader's parts decide.
use Rattle.std.proofs.Common.{◌≡◌, ◌∙◌, ℕ, Option, Some, None, Result, Ok, Err, IfOk, refl, ap, sym, subst}
use Rattle.std.specs.Option.{option_map}
use Rattle.fs_model.specs.declared.error.FsError.{FsError}
use Rattle.fs_model.specs.declared.error.FsError.TheVariants.{NotFound, Exists, NotDir, WrongKind, NotEmpty, CrossDevice, CrossDir, Failed, OutOfMemory}
use Rattle.fs_model.specs.Trail.{DecidedBy, error_of, unless_lack}
use Rattle.fs_model.specs.Observed.{Observed, OnlyReads}
use Rattle.cluster_read.specs.declared.error.ReadError.{ReadError}
use Rattle.cluster_read.specs.declared.error.ReadError.TheVariants as read
use Rattle.cluster_read.specs.Causes.{read_as, fault_of, or_then, DecidedAs, WrapsNoLack, FindsObjects}

pub read_as_fault : {T : Type 0} (answer : Result T FsError) → fault_of (read_as answer) ≡ unless_lack (error_of answer)
read_as_fault (Ok value) = refl
read_as_fault (Err OutOfMemory) = refl
read_as_fault (Err Failed) = refl
read_as_fault (Err NotFound) = refl
read_as_fault (Err Exists) = refl
read_as_fault (Err NotDir) = refl
read_as_fault (Err WrongKind) = refl
read_as_fault (Err NotEmpty) = refl
read_as_fault (Err CrossDevice) = refl
read_as_fault (Err CrossDir) = refl

pub read_as_whole : {T : Type 0} (answer : Result T FsError) → WrapsNoLack (read_as answer)
read_as_whole (Ok value) = tt
read_as_whole (Err OutOfMemory) = tt
read_as_whole (Err Failed) = tt
read_as_whole (Err NotFound) = tt
read_as_whole (Err Exists) = tt
read_as_whole (Err NotDir) = tt
read_as_whole (Err WrongKind) = tt
read_as_whole (Err NotEmpty) = tt
read_as_whole (Err CrossDevice) = tt
read_as_whole (Err CrossDir) = tt

pub read_as_finds : {T : Type 0} (answer : Result T FsError) → FindsObjects (read_as answer)
read_as_finds (Ok value) = tt
read_as_finds (Err OutOfMemory) = tt
read_as_finds (Err Failed) = tt
read_as_finds (Err NotFound) = tt
read_as_finds (Err Exists) = tt
read_as_finds (Err NotDir) = tt
read_as_finds (Err WrongKind) = tt
read_as_finds (Err NotEmpty) = tt
read_as_finds (Err CrossDevice) = tt
read_as_finds (Err CrossDir) = tt

pub read_as_decided : {T : Type 0} (answer : Result T FsError) (refused : Option FsError) → DecidedBy refused answer → DecidedAs (option_map read.Fs refused) (read_as answer)
read_as_decided (Ok value) refused decided = ap (option_map read.Fs) decided
read_as_decided (Err OutOfMemory) refused decided = tt
read_as_decided (Err Failed) refused decided = tt
read_as_decided (Err NotFound) refused decided = ap (option_map read.Fs) decided
read_as_decided (Err Exists) refused decided = ap (option_map read.Fs) decided
read_as_decided (Err NotDir) refused decided = ap (option_map read.Fs) decided
read_as_decided (Err WrongKind) refused decided = ap (option_map read.Fs) decided
read_as_decided (Err NotEmpty) refused decided = ap (option_map read.Fs) decided
read_as_decided (Err CrossDevice) refused decided = ap (option_map read.Fs) decided
read_as_decided (Err CrossDir) refused decided = ap (option_map read.Fs) decided

pub read_as_ok : {T : Type 0} (answer : Result T FsError) (P : T → Type 0) → IfOk answer P → IfOk (read_as answer) P
read_as_ok (Ok value) P holds = holds
read_as_ok (Err OutOfMemory) P holds = tt
read_as_ok (Err Failed) P holds = tt
read_as_ok (Err NotFound) P holds = tt
read_as_ok (Err Exists) P holds = tt
read_as_ok (Err NotDir) P holds = tt
read_as_ok (Err WrongKind) P holds = tt
read_as_ok (Err NotEmpty) P holds = tt
read_as_ok (Err CrossDevice) P holds = tt
read_as_ok (Err CrossDir) P holds = tt

-- an error that the first refusal decides is decided by the first of two
pub decided_first : (T U : Type 0) (first later : Option ReadError) (error : ReadError) → DecidedAs {T = T} first (Err error) → DecidedAs {T = U} (or_then first later) (Err error)
decided_first T U first later read.OutOfMemory decided = tt
decided_first T U first later (read.Fs Failed) decided = tt
decided_first T U first later (read.Fs OutOfMemory) decided = ap (λ r. or_then r later) decided
decided_first T U first later (read.Fs NotFound) decided = ap (λ r. or_then r later) decided
decided_first T U first later (read.Fs Exists) decided = ap (λ r. or_then r later) decided
decided_first T U first later (read.Fs NotDir) decided = ap (λ r. or_then r later) decided
decided_first T U first later (read.Fs WrongKind) decided = ap (λ r. or_then r later) decided
decided_first T U first later (read.Fs NotEmpty) decided = ap (λ r. or_then r later) decided
decided_first T U first later (read.Fs CrossDevice) decided = ap (λ r. or_then r later) decided
decided_first T U first later (read.Fs CrossDir) decided = ap (λ r. or_then r later) decided
decided_first T U first later (read.NoSuch oid) decided = ap (λ r. or_then r later) decided
decided_first T U first later (read.Control cause) decided = ap (λ r. or_then r later) decided

-- where the first of two refuses nothing, the second decides
pub decided_later : {T : Type 0} (first later : Option ReadError) (result : Result T ReadError) → first ≡ None → DecidedAs later result → DecidedAs (or_then first later) result
decided_later first later result none decided = subst (λ r. DecidedAs (or_then r later) result) (sym none) decided

-- an answer that is handed on under the reader's error
pub reads_as : {T : Type 0} (before after : Observed) (answer : Result T FsError) (result : Result T ReadError) → result ≡ read_as answer
    → OnlyReads before after (unless_lack (error_of answer)) → OnlyReads before after (fault_of result)
reads_as before after answer result is reads = subst (OnlyReads before after) (sym (ap fault_of is ∙ read_as_fault answer)) reads

pub same_oid : {T : Type 0} (a b : ℕ) → ◌≡◌ {A = Result T ReadError} (Err (read.NoSuch a)) (Err (read.NoSuch b)) → a ≡ b
same_oid {T} a b is = ap oid_of is
  where
    oid_of : Result T ReadError → ℕ
    oid_of (Err (read.NoSuch oid)) = oid
    oid_of answer = 0
