-- What a replay may have changed in any of its states, finished or failed.
use Rattle.std.specs.Prelude.{ℕ, List, [], Result, Ok, Err}
use Rattle.fs_model.specs.Names.{Path}
use Rattle.fs_model.specs.State.{FsState}
use Rattle.fs_model.specs.Calls.{Call}
use Rattle.control_file.specs.declared.releases.Release.{Release}
use Rattle.catalog.specs.Cluster.{Cluster}
use Rattle.dump_grammar.specs.declared.error.TextError.{TextError}
use Rattle.new_names.specs.declared.names.NewName.{NewName}
use Rattle.new_names.specs.Frame.{MakesOnly, MakesListed}
use Rattle.catalog_server.specs.ReplayNames.{listed_names}
use Rattle.catalog_server.specs.Replayed.{replayed_over}

-- the names that a replay from one reading of a cluster to another makes; where either is no catalog there are none
abbrev pub names_between : Path → Release → Result Cluster TextError → Result Cluster TextError → List NewName
names_between root release (Ok before) (Ok after) = listed_names root release before after
names_between root release (Ok before) (Err e) = []
names_between root release (Err e) after = []

-- the frame of a server: the replay of a text, over what the cluster is read as at the start, has made of the start no more
-- than the names that it is to make
abbrev pub ServerFrame : Path → Release → Result Cluster TextError → List ℕ → FsState → FsState → Type 0
ServerFrame root release reading text start s = MakesOnly (names_between root release reading (replayed_over reading text)) start s

-- A call of the same replay: it makes one of these names as it is listed, removes one, writes to a file that the replay
-- created, puts something on the disk, or reads.
abbrev pub ReplayCalls : Path → Release → Result Cluster TextError → List ℕ → FsState → FsState → Call → Type 0
ReplayCalls root release reading text start = MakesListed (names_between root release reading (replayed_over reading text)) start
