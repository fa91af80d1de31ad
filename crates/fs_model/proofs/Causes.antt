-- The causes of calls after each other.
use Rattle.std.proofs.Common.{◌≡◌, ◌≤◌, ◌∙◌, refl, ℕ, Bool, Option, Some, None, arith}
use Rattle.fs_model.specs.declared.error.FsError.{FsError}
use Rattle.fs_model.specs.declared.error.FsError.TheVariants.{NotFound, Exists, NotDir, WrongKind, NotEmpty, CrossDevice, CrossDir, Failed, OutOfMemory}
use Rattle.fs_model.specs.Trail.{Counts, Rose, RoseFor, FaultsStay, RefusalsStay, LacksStay, OthersStay, HasCause, unless_lack}

rose_since : (a b c : ℕ) → a ≤ b → Rose b c → Rose a c
rose_since a b c first rose = omega arith

rose_for_since : (answer : Option FsError) (a b c : Counts) → a.faults ≤ b.faults → a.refusals ≤ b.refusals → a.lacks ≤ b.lacks → RoseFor answer b c → RoseFor answer a c
rose_for_since None a b c faults refusals lacks rose = tt
rose_for_since (Some Failed) a b c faults refusals lacks rose = rose_since a.faults b.faults c.faults faults rose
rose_for_since (Some OutOfMemory) a b c faults refusals lacks rose = rose_since a.lacks b.lacks c.lacks lacks rose
rose_for_since (Some NotFound) a b c faults refusals lacks rose = rose_since a.refusals b.refusals c.refusals refusals rose
rose_for_since (Some Exists) a b c faults refusals lacks rose = rose_since a.refusals b.refusals c.refusals refusals rose
rose_for_since (Some NotDir) a b c faults refusals lacks rose = rose_since a.refusals b.refusals c.refusals refusals rose
rose_for_since (Some WrongKind) a b c faults refusals lacks rose = rose_since a.refusals b.refusals c.refusals refusals rose
rose_for_since (Some NotEmpty) a b c faults refusals lacks rose = rose_since a.refusals b.refusals c.refusals refusals rose
rose_for_since (Some CrossDevice) a b c faults refusals lacks rose = rose_since a.refusals b.refusals c.refusals refusals rose
rose_for_since (Some CrossDir) a b c faults refusals lacks rose = rose_since a.refusals b.refusals c.refusals refusals rose

-- an answer after which a run may go on and keep nothing quiet: no failure
abbrev pub GoesOn : Option FsError → Type 0
GoesOn None = Unit {0}
GoesOn (Some Failed) = ⊥
GoesOn (Some error) = Unit {0}

-- no failure was counted where the run goes on
pub no_fault : (answer : Option FsError) (a b : Counts) → GoesOn answer → FaultsStay answer a b → b.faults ≡ a.faults
no_fault None a b on stay = stay
no_fault (Some Failed) a b on stay = absurd on
no_fault (Some OutOfMemory) a b on stay = stay
no_fault (Some NotFound) a b on stay = stay
no_fault (Some Exists) a b on stay = stay
no_fault (Some NotDir) a b on stay = stay
no_fault (Some WrongKind) a b on stay = stay
no_fault (Some NotEmpty) a b on stay = stay
no_fault (Some CrossDevice) a b on stay = stay
no_fault (Some CrossDir) a b on stay = stay

faults_since : (answer : Option FsError) (a b c : Counts) → b.faults ≡ a.faults → FaultsStay answer b c → FaultsStay answer a c
faults_since None a b c same stay = stay ∙ same
faults_since (Some Failed) a b c same stay = tt
faults_since (Some OutOfMemory) a b c same stay = stay ∙ same
faults_since (Some NotFound) a b c same stay = stay ∙ same
faults_since (Some Exists) a b c same stay = stay ∙ same
faults_since (Some NotDir) a b c same stay = stay ∙ same
faults_since (Some WrongKind) a b c same stay = stay ∙ same
faults_since (Some NotEmpty) a b c same stay = stay ∙ same
faults_since (Some CrossDevice) a b c same stay = stay ∙ same
faults_since (Some CrossDir) a b c same stay = stay ∙ same

refusals_since : (answer : Option FsError) (a b c : Counts) → b.refusals ≡ a.refusals → RefusalsStay answer b c → RefusalsStay answer a c
refusals_since None a b c same stay = stay ∙ same
refusals_since (Some Failed) a b c same stay = stay ∙ same
refusals_since (Some OutOfMemory) a b c same stay = stay ∙ same
refusals_since (Some NotFound) a b c same stay = tt
refusals_since (Some Exists) a b c same stay = tt
refusals_since (Some NotDir) a b c same stay = tt
refusals_since (Some WrongKind) a b c same stay = tt
refusals_since (Some NotEmpty) a b c same stay = tt
refusals_since (Some CrossDevice) a b c same stay = tt
refusals_since (Some CrossDir) a b c same stay = tt

lacks_since : (answer : Option FsError) (a b c : Counts) → b.lacks ≡ a.lacks → LacksStay answer b c → LacksStay answer a c
lacks_since None a b c same stay = stay ∙ same
lacks_since (Some Failed) a b c same stay = stay ∙ same
lacks_since (Some OutOfMemory) a b c same stay = tt
lacks_since (Some NotFound) a b c same stay = stay ∙ same
lacks_since (Some Exists) a b c same stay = stay ∙ same
lacks_since (Some NotDir) a b c same stay = stay ∙ same
lacks_since (Some WrongKind) a b c same stay = stay ∙ same
lacks_since (Some NotEmpty) a b c same stay = stay ∙ same
lacks_since (Some CrossDevice) a b c same stay = stay ∙ same
lacks_since (Some CrossDir) a b c same stay = stay ∙ same

-- two runs, of which the first succeeded: every count but that of the answer is as before
pub others_then : (a b c : Counts) (answer : Option FsError) → OthersStay a b None → OthersStay b c answer → OthersStay a c answer
others_then a b c answer front back = record { refusals = refusals_since answer a b c front.refusals back.refusals; lacks = lacks_since answer a b c front.lacks back.lacks }

-- no call was made
pub no_others : (a : Counts) (answer : Option FsError) → RefusalsStay answer a a → LacksStay answer a a → OthersStay a a answer
no_others a answer refusals lacks = record { refusals = refusals; lacks = lacks }

-- no call was made
pub no_cause : (firm : Bool) (a : Counts) → HasCause firm a a None
no_cause firm a = record {
  faults = omega arith;
  refusals = omega arith;
  lacks = omega arith;
  rose = tt;
  told = refl;
  firm_faults = λ _. refl;
  firm_answer = λ _ e. cc e;
}

-- two runs: the answer is that of the second
pub cause_then : (firm later : Bool) (a b c : Counts) (first answer : Option FsError) → GoesOn first → later ≡ firm → HasCause firm a b first → HasCause later b c answer → HasCause firm a c answer
cause_then firm later a b c first answer on same front back = record {
  faults = (let x = front.faults in let y = back.faults in omega arith);
  refusals = (let x = front.refusals in let y = back.refusals in omega arith);
  lacks = (let x = front.lacks in let y = back.lacks in omega arith);
  rose = rose_for_since answer a b c front.faults front.refusals front.lacks back.rose;
  told = faults_since answer a b c (no_fault first a b on front.told) back.told;
  firm_faults = λ is. back.firm_faults (same ∙ is) ∙ front.firm_faults is;
  firm_answer = λ is. back.firm_answer (same ∙ is);
}

-- a run that goes on has no answer yet
pub cause_so_far : (firm : Bool) (a b : Counts) (answer : Option FsError) → GoesOn answer → HasCause firm a b answer → HasCause firm a b None
cause_so_far firm a b answer on cause = record {
  faults = cause.faults;
  refusals = cause.refusals;
  lacks = cause.lacks;
  rose = tt;
  told = no_fault answer a b on cause.told;
  firm_faults = cause.firm_faults;
  firm_answer = λ _ e. cc e;
}

-- want of memory is free
pub cause_unless_lack : (firm : Bool) (a b : Counts) (answer : Option FsError) → HasCause firm a b answer → HasCause firm a b (unless_lack answer)
cause_unless_lack firm a b None cause = cause
cause_unless_lack firm a b (Some OutOfMemory) cause = cause_so_far firm a b (Some OutOfMemory) tt cause
cause_unless_lack firm a b (Some Failed) cause = cause
cause_unless_lack firm a b (Some NotFound) cause = cause
cause_unless_lack firm a b (Some Exists) cause = cause
cause_unless_lack firm a b (Some NotDir) cause = cause
cause_unless_lack firm a b (Some WrongKind) cause = cause
cause_unless_lack firm a b (Some NotEmpty) cause = cause
cause_unless_lack firm a b (Some CrossDevice) cause = cause
cause_unless_lack firm a b (Some CrossDir) cause = cause
