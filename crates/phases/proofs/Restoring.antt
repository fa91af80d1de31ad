-- Carrying the schema, as a phase does it.
use Rattle.std.proofs.Common.{Err, refl, sym, subst}
use Rattle.fs_model.specs.declared.error.FsError.{FsError}
use Rattle.fs_model.specs.declared.error.FsError.TheVariants.{NotFound, Exists, NotDir, WrongKind, NotEmpty, CrossDevice, CrossDir, Failed, OutOfMemory}
use Rattle.control_file.specs.declared.job.Job.{Job}
use Rattle.control_file.specs.declared.modes.Side.TheVariants.{New}
use Rattle.control_file.specs.declared.modes.Side.{Side}
use Rattle.restore.specs.declared.error.RestoreError.{RestoreError}
use Rattle.restore.specs.declared.error.RestoreError.TheVariants as restore
use Rattle.restore.specs.Causes as causes
use Rattle.phases.specs.Faults.{files_fault, root_of, restore_fault, IsInCluster, IsNoChange}

files_in_cluster : (job : Job) (side : Side) (error : FsError) → IsInCluster job (files_fault (root_of job side) error)
files_in_cluster job side NotFound = (side, refl)
files_in_cluster job side Exists = (side, refl)
files_in_cluster job side NotDir = (side, refl)
files_in_cluster job side WrongKind = (side, refl)
files_in_cluster job side NotEmpty = (side, refl)
files_in_cluster job side CrossDevice = (side, refl)
files_in_cluster job side CrossDir = (side, refl)
files_in_cluster job side Failed = tt
files_in_cluster job side OutOfMemory = tt

pub fault_in_cluster : (job : Job) (error : RestoreError) → IsInCluster job (restore_fault job error)
fault_in_cluster job restore.Server = tt
fault_in_cluster job (restore.Fs side error) = files_in_cluster job side error
fault_in_cluster job (restore.Text side line) = (side, refl)
fault_in_cluster job restore.Differs = (New, refl)
fault_in_cluster job restore.OutOfMemory = tt

pub fault_no_change : (T : Type 0) (job : Job) (error : RestoreError) → causes.IsUnrefused {T = T} (Err error) → causes.IsNoChange {T = T} (Err error) → IsNoChange (restore_fault job error)
fault_no_change T job restore.Server unrefused same = tt
fault_no_change T job (restore.Fs side error) unrefused same = subst (λ e. IsNoChange (files_fault (root_of job side) e)) (sym unrefused) tt
fault_no_change T job (restore.Text side line) unrefused same = absurd same
fault_no_change T job restore.Differs unrefused same = absurd same
fault_no_change T job restore.OutOfMemory unrefused same = tt
