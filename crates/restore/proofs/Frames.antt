-- The frame of a replay whose catalogs are known.
use Rattle.std.proofs.Common.{◌≡◌, ◌∙◌, ℕ, List, Result, Ok, Err, OnOk, sym, ap, subst}
use Rattle.fs_model.specs.Names.{Path}
use Rattle.fs_model.specs.State.{FsState}
use Rattle.fs_model.specs.Trail.{Trail, Goes, Unchanged}
use Rattle.control_file.specs.declared.releases.Release.{Release}
use Rattle.catalog.specs.Cluster.{Cluster, started}
use Rattle.dump_grammar.specs.declared.error.TextError.{TextError}
use Rattle.new_names.specs.declared.names.NewName.{NewName}
use Rattle.new_names.specs.Frame.{MakesListed}
use Rattle.new_names.specs.Room.{HasRoomFor}
use Rattle.new_names.specs.Standing.{AllStand}
use Rattle.new_names.proofs.Runs.{goes_joined}
use Rattle.new_names.proofs.Looking.{unchanged_listed}
use Rattle.control_file.specs.declared.modes.Side.{Side}
use Rattle.catalog_server.specs.declared.error.ServerError.{ServerError}
use Rattle.catalog_server.specs.declared.error.ServerError.TheVariants as server
use Rattle.catalog_server.specs.Answers.{IsUnrefused as IsUnrefusedServer}
use Rattle.restore.specs.Causes.{error_on, IsUnrefused}
use Rattle.catalog_server.specs.ReplayNames.{new_names, listed_names}
use Rattle.catalog_server.specs.Replayed.{replayed, replayed_over}
use Rattle.catalog_server.specs.ServerFrame.{names_between, ReplayCalls}

-- what a server reads of a cluster, by the state
module _ (root : Path) (release : Release) (reading : FsState → Result Cluster TextError) (text : List ℕ) (before after : Cluster) (leads : replayed before text ≡ Ok after) where
  pub names_known : (s : FsState) → reading s ≡ Ok before → names_between root release (reading s) (replayed_over (reading s) text) ≡ listed_names root release before after
  names_known s is = (λ i. names_between root release (is i) (replayed_over (is i) text)) ∙ ap (names_between root release (Ok before)) leads

  pub replay_goes : (old mid new : Trail) → reading old.present ≡ Ok before → Unchanged old mid → Goes (ReplayCalls root release (reading mid.present) text mid.present) mid new → Goes (MakesListed (listed_names root release before after) old.present) old new
  replay_goes old mid new is unchanged goes =
      let listed = listed_names root release before after in
      let here : reading mid.present ≡ Ok before = ap reading unchanged.present ∙ is in
      goes_joined listed old mid new (unchanged_listed listed old mid unchanged) (subst (λ names. Goes (MakesListed names mid.present) mid new) (names_known mid.present here) goes)

  pub room_there : (old mid : Trail) → Unchanged old mid → HasRoomFor old.present (new_names root release before after) → HasRoomFor mid.present (new_names root release before after)
  room_there old mid unchanged room = subst (λ s. HasRoomFor s (new_names root release before after)) (sym unchanged.present) room

-- the catalog that a dump is of, where it is known
pub dumped_known : (reading : Result Cluster TextError) (text : List ℕ) (c : Cluster) → reading ≡ Ok c → (found : Cluster) × (reading ≡ Ok found) × (replayed (started found.bootstrap) text ≡ Ok found) → replayed (started c.bootstrap) text ≡ Ok c
dumped_known reading text c is (found, read, leads) =
    let same : found ≡ c = (let e = sym read ∙ is in cc e) in
    subst (λ (x : Cluster). replayed (started x.bootstrap) text ≡ Ok x) same leads

-- a run that changes nothing, after one that made names
pub then_unchanged : (listed : List NewName) (old mid new : Trail) → Goes (MakesListed listed old.present) old mid → Unchanged mid new → Goes (MakesListed listed old.present) old new
then_unchanged listed old mid new front unchanged = goes_joined listed old mid new front (unchanged_listed listed mid new unchanged)

pub still_stand : {T E : Type 0} (listed : List NewName) (mid new : Trail) (result : Result T E) → AllStand mid.present listed → Unchanged mid new → OnOk result (AllStand new.present listed)
still_stand listed mid new (Ok value) stand unchanged = subst (λ s. AllStand s listed) (sym unchanged.present) stand
still_stand listed mid new (Err error) stand unchanged = tt

-- what is no refusal to the server is none here
pub unrefused_on : (T U : Type 0) (side : Side) (e : ServerError) → IsUnrefusedServer {T = T} (Err e) → IsUnrefused {T = U} (Err (error_on side e))
unrefused_on T U side server.Failed unrefused = tt
unrefused_on T U side (server.Text line cause) unrefused = tt
unrefused_on T U side (server.Fs e) unrefused = unrefused
unrefused_on T U side server.OutOfMemory unrefused = tt
