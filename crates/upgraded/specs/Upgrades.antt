-- The states of an upgrade after each of its steps, as the steps' own contracts say them.
use Rattle.std.specs.Prelude.{◌≡◌, ℕ, List, Ok, Some, None}
use Rattle.std.specs.FinMap.{get}
use Rattle.fs_model.specs.declared.node.Node.TheVariants.{File}
use Rattle.fs_model.specs.Names.{Path, parent}
use Rattle.fs_model.specs.State.{FsState}
use Rattle.fs_model.specs.WellFormed.{WellFormed}
use Rattle.crash_safety.specs.Marked.{SameButMark}
use Rattle.crash_safety.specs.Places.{control_at, disabled_at}
use Rattle.control_file.specs.declared.job.Job.{Job}
use Rattle.control_file.specs.declared.modes.Mode.{Mode}
use Rattle.control_file.specs.declared.modes.Mode.TheVariants.{Copy, Link}
use Rattle.control_file.specs.declared.releases.Release.TheVariants.{V16}
use Rattle.catalog.specs.Cluster.{Cluster}
use Rattle.new_names.specs.Frame.{MakesOnly}
use Rattle.new_names.specs.Standing.{AllStand}
use Rattle.catalog_server.specs.Profile.{profile_of}
use Rattle.cluster_meaning.specs.Cluster.{control_at as control_in}
use Rattle.status_transfer.specs.Carried.{ChangesOnlyIn, SharesNone}
use Rattle.status_transfer.specs.Status.{CarriesStatus, status_dirs}
use Rattle.status_transfer.specs.Counted.{SetsCounters}
use Rattle.disable_old.specs.Renamed.{IsRenamed}
use Rattle.transfer_plan.specs.declared.plan.PlanItem.{PlanItem}
use Rattle.transfer_plan.specs.Carriable.{targets}
use Rattle.transfer_plan.specs.Changed.{ChangesOnlyAt}
use Rattle.copy_transfer.specs.CopiedFiles.{AreCopied}
use Rattle.link_transfer.specs.LinkedFiles.{AreLinked, ChangesNamesAt}
use Rattle.upgraded.specs.Places.{replay_names, mark_at}
use Rattle.upgraded.specs.CarriedFiles.{IsPlan}
use Rattle.upgraded.specs.Upgraded.{ReadsCatalog}

-- the schema is carried: the replay made its names and no others, and the new cluster is read as the old one was
pub record RestoresSchema (read : ReadsCatalog) (job : Job) (catalog : Cluster) (s t : FsState) : Type 0 where
  pub only : MakesOnly (replay_names job catalog) s t
  pub all : AllStand t (replay_names job catalog)
  pub reading : read job.new V16 (profile_of t job.new) ≡ Ok catalog
  -- of each state of a file system
  pub well_formed : WellFormed t

-- the status files are carried
pub record CopiesStatus (job : Job) (s t : FsState) : Type 0 where
  pub only : ChangesOnlyIn (status_dirs job.new) s t
  pub own : SharesNone s t
  pub carried : CarriesStatus s job.old job.new t

-- links need the old cluster disabled, of which no file is written to; copies leave it
pub record Disables (job : Job) (s t : FsState) : Type 0 where
  pub renamed : IsRenamed s (control_at job.old) (disabled_at job.old) (parent (control_at job.old)) t
  pub bytes : t.bytes ≡ s.bytes

abbrev pub DisablesByMode : Mode → Job → FsState → FsState → Type 0
DisablesByMode Copy job s t = t ≡ s
DisablesByMode Link job s t = Disables job s t

-- the files of the plan are copied or linked
pub record CopiesFiles (items : List PlanItem) (s t : FsState) : Type 0 where
  pub only : ChangesOnlyAt (targets items) s t
  pub carried : AreCopied s t items

pub record LinksFiles (items : List PlanItem) (s t : FsState) : Type 0 where
  pub only : ChangesNamesAt (targets items) s t
  pub carried : AreLinked s t items

abbrev pub TransfersByMode : Mode → List PlanItem → FsState → FsState → Type 0
TransfersByMode Copy items s t = CopiesFiles items s t
TransfersByMode Link items s t = LinksFiles items s t

-- the mark in x has no file that was in s
abbrev pub IsOwnMark : Path → FsState → FsState → Type 0
IsOwnMark mark s x = (inode : ℕ) → get x.names mark ≡ Some (File inode) → get s.bytes inode ≡ None

-- all is as it was but for the mark, which has a file of its own
pub record Marks (job : Job) (s x : FsState) : Type 0 where
  pub rest : SameButMark (mark_at job.new) s x
  pub own : IsOwnMark (mark_at job.new) s x

-- From the state in which it begins, an upgrade went through these: with the schema, with the status files, with the
-- counters, with the old cluster disabled, with the files. The state x is the last but for the mark.
pub record Upgrades (read : ReadsCatalog) (job : Job) (catalog : Cluster) (items : List PlanItem) (start restored carried counted disabled transferred x : FsState) : Type 0 where
  pub schema : RestoresSchema read job catalog start restored
  pub status : CopiesStatus job restored carried
  pub counters : SetsCounters carried (control_at job.new) (control_in start job.old).counters counted
  pub plan : IsPlan job catalog counted items
  pub disables : DisablesByMode job.mode job counted disabled
  pub files : TransfersByMode job.mode items disabled transferred
  pub mark : Marks job transferred x
