-- What the success of a self-test says.
use Rattle.std.specs.Prelude.{◌≡◌, ◌⊎◌, ◌*◌, ◌-◌, ◌^◌, ℕ, min, [], ◌∷◌, codes, Ok}
use Rattle.fs_model.specs.Names.{Path}
use Rattle.fs_model.specs.State.{FsState}
use Rattle.control_file.specs.declared.job.Job.{Job}
use Rattle.control_file.specs.declared.modes.Mode.{Mode}
use Rattle.control_file.specs.declared.releases.Release.TheVariants.{V16}
use Rattle.visibility.specs.Taken.{Taken}
use Rattle.catalog.specs.Cluster.{Cluster}
use Rattle.catalog_server.specs.Profile.{profile_of}
use Rattle.cluster_meaning.specs.Cluster.{opened}
use Rattle.cluster_gen.specs.Page.{live_rows}
use Rattle.row_counts.specs.Counted.{rows_of_cluster}
use Rattle.upgraded.specs.Upgraded.{ReadsCatalog}
use Rattle.phase_names.specs.declared.names.PhaseName.TheVariants.{Count}
use Rattle.phase_names.specs.declared.summary.Summary.{Summary}
use Rattle.upgrade_answers.specs.declared.answer.Answer.{Answer}
use Rattle.upgrade_answers.specs.declared.answer.Answer.TheVariants.{Tested, TestFailed, NoMemory}
use Rattle.upgrade_run.specs.Ends.{EndsFinished}

abbrev pub old_root : Path
old_root = codes "old" ∷ []

abbrev pub new_root : Path
new_root = codes "new" ∷ []

-- the upgrade of the made pair
abbrev pub pair_job : Mode → Job
pair_job mode = record { old = old_root; new = new_root; mode = mode }

-- each transaction before the old cluster's next one has ended
abbrev pub all_ended : Taken
all_ended = record { xmin = 800; xmax = 800; running = [] }

-- In x so many rows are seen in all tables of the new cluster at a root, as its catalog is read there.
pub record HasRows (read : ReadsCatalog) (root : Path) (x : FsState) (rows : ℕ) : Type 0 where
  pub catalog : Cluster
  pub reading : read root V16 (profile_of x root) ≡ Ok catalog
  pub counted : rows ≡ min (rows_of_cluster x (opened x root V16 catalog) all_ended) (2 ^ 64 - 1)

-- the numbers are those of the pair with so many tables: each has a file, one of its toast table, and one of that one's index
pub record AreOfPair (number : ℕ) (summary : Summary) (rows : ℕ) : Type 0 where
  pub databases : summary.databases ≡ 4
  pub tables : summary.tables ≡ number
  pub files : summary.files ≡ 3 * number
  pub live : rows ≡ live_rows number

-- An upgrade of the pair that stands in s has ended in a state, with this summary, and the rows were read there.
pub record IsTestedFrom (read : ReadsCatalog) (number : ℕ) (mode : Mode) (s : FsState) (summary : Summary) (rows : ℕ) : Type 0 where
  pub numbers : AreOfPair number summary rows
  pub after : FsState
  pub finished : EndsFinished read (pair_job mode) s after summary
  pub counted : HasRows read new_root after rows

-- the answers where the rows aren't read
abbrev pub IsUnread : Answer → Type 0
IsUnread answer = (answer ≡ TestFailed) ⊎ (answer ≡ NoMemory Count)

-- where a self-test has succeeded, its numbers have P
abbrev pub IfTested : Answer → (Summary → ℕ → Type 0) → Type 0
IfTested (Tested summary rows) P = P summary rows
IfTested answer P = Unit {0}
