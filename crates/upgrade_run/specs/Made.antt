-- A self-test begins with the pair that is made of a number, and its server is the shipped one.
use Rattle.std.specs.Prelude.{ℕ}
use Rattle.control_file.specs.declared.modes.Mode.{Mode}
use Rattle.fs_mem.specs.Tree.{opening_of}
use Rattle.server_profile.specs.Reading.{profile_catalog}
use Rattle.cluster_gen.specs.Tree.{pair_tree}
use Rattle.phase_names.specs.declared.summary.Summary.{Summary}
use Rattle.upgrade_run.specs.SelfTests.{IsTestedFrom}

abbrev pub IsTested : ℕ → Mode → Summary → ℕ → Type 0
IsTested number mode summary rows = IsTestedFrom profile_catalog number mode (opening_of (pair_tree number)) summary rows
