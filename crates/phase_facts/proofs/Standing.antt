-- No directory goes where none is removed.
use Rattle.std.proofs.Common.{◌≡◌, ◌≢◌, ◌∙◌, List, Option, Some, None, MatchOption, inl, inr, refl, sym, ap, subst}
use Rattle.std.specs.Prelude.{not, ◌==◌}
use Rattle.std.specs.FinMap.{get}
use Rattle.fs_model.specs.declared.node.Node.{Node}
use Rattle.fs_model.specs.declared.node.Node.TheVariants.{Dir, File, Sym}
use Rattle.fs_model.specs.declared.effect.Effect.{Effect}
use Rattle.fs_model.specs.declared.effect.Effect.TheVariants.{Nothing}
use Rattle.fs_model.specs.declared.error.FsError.{FsError}
use Rattle.fs_model.specs.declared.error.FsError.TheVariants.{Failed, CrossDevice}
use Rattle.fs_model.specs.Names.{Path, parent}
use Rattle.fs_model.specs.State.{FsState}
use Rattle.fs_model.specs.Effects.{apply, set_name}
use Rattle.fs_model.specs.Calls.{Call, Stats, Lists, ReadsAt, ReadsLink, Creates, WritesAt, MakesDir, MakesSymlink, Links, Renames, Unlinks, RemovesDir, SyncsFile, SyncsDir, MayDo, MayFail, Does, refusal, blocked, or_else, taken, no_leaf, no_file, refuse_if, device_of}
use Rattle.fs_model.specs.Trail.{Trail, Goes, Since}
use Rattle.fs_model.proofs.Going.{goes_since, goes_weaker}
use Rattle.fs_model.proofs.Lookups.{set_name_other}
use Rattle.fs_model.proofs.Ways.{none_first, none_second}
use Rattle.crash_safety.specs.Calling.{KeepsDirs, MakesWithin, Rewrites}
use Rattle.new_names.specs.declared.names.NewName.{NewName}
use Rattle.new_names.specs.Frame.{MakesListed}
use Rattle.status_transfer.specs.Carried.{CarriesInto}
use Rattle.transfer_plan.specs.declared.plan.PlanItem.{PlanItem}
use Rattle.copy_transfer.specs.CopiedFiles.{CopiesTo}
use Rattle.disable_old.specs.Renamed.{Disables}
use Rattle.link_transfer.specs.LinkedFiles.{LinksItems}
use Rattle.phase_facts.specs.Held.{KeepsDirectories}
use Rattle.crash_safety.proofs.Renamed.{may_rename, none_taken}

leaf_no_dir : (node : Option Node) → no_leaf node ≡ None → node ≡ Some Dir → ⊥
leaf_no_dir None e is = cc is
leaf_no_dir (Some Dir) e is = cc e
leaf_no_dir (Some (File inode)) e is = cc is
leaf_no_dir (Some (Sym target)) e is = cc is

link_free : (s : FsState) (from to : Path) → refusal s (Links from to) ≡ None → get s.names to ≡ None
link_free s from to free =
    let cross = refuse_if (not (device_of s (parent from) == device_of s (parent to))) CrossDevice in
    let ends = or_else (taken (get s.names to)) cross in
    let rest = or_else (no_file (get s.names from)) ends in
    let behind : or_else (blocked s.names to) rest ≡ None = none_second (blocked s.names from) (or_else (blocked s.names to) rest) free in
    let last : ends ≡ None = none_second (no_file (get s.names from)) ends (none_second (blocked s.names to) rest behind) in
    none_taken (get s.names to) (none_first (taken (get s.names to)) cross last)

module _ (dir : Path) (s : FsState) (there : get s.names dir ≡ Some Dir) where
  at_effect : (effect e : Effect) → effect ≡ e → get (apply s e).names dir ≡ Some Dir → get (apply s effect).names dir ≡ Some Dir
  at_effect effect e is stands = subst (λ f. get (apply s f).names dir ≡ Some Dir) (sym is) stands

  -- a name that is free is none of a directory
  not_free : (path : Path) → get s.names path ≡ None → dir ≢ path
  not_free path none same = (let stands : get s.names path ≡ Some Dir = ap (get s.names) (sym same) ∙ there in cc (none, stands))

  made : (path : Path) (node : Option Node) → or_else (blocked s.names path) (taken (get s.names path)) ≡ None → get (set_name s.names path node) dir ≡ Some Dir
  made path node free = set_name_other s.names path node dir (not_free path (none_taken (get s.names path) (none_second (blocked s.names path) (taken (get s.names path)) free))) ∙ there

  does : (call : Call) (effect : Effect) → KeepsDirs call → refusal s call ≡ None → Does s call effect → get (apply s effect).names dir ≡ Some Dir
  does (Stats path) effect keeps free is = at_effect effect Nothing is there
  does (Lists path) effect keeps free is = at_effect effect Nothing is there
  does (ReadsAt path) effect keeps free is = at_effect effect Nothing is there
  does (ReadsLink path) effect keeps free is = at_effect effect Nothing is there
  does (Creates path) effect keeps free (inode, none, is) = at_effect effect _ is (made path (Some (File inode)) free)
  does (WritesAt path from bytes) effect keeps free (inode, named, is) = at_effect effect _ is there
  does (MakesDir path) effect keeps free is = at_effect effect _ is (made path (Some Dir) free)
  does (MakesSymlink path target) effect keeps free is = at_effect effect _ is (made path (Some (Sym target)) free)
  does (Links from to) effect keeps free (inode, named, is) = at_effect effect _ is (set_name_other s.names to (Some (File inode)) dir (not_free to (link_free s from to free)) ∙ there)
  does (Renames from to) effect keeps free (inode, named, is) =
      at_effect effect _ is
      (set_name_other (set_name s.names from None) to (Some (File inode)) dir (not_free to (may_rename s from to free).free)
      ∙ set_name_other s.names from None dir (λ same. (let stands : get s.names from ≡ Some Dir = ap (get s.names) (sym same) ∙ there in cc (named, stands))) ∙ there)
  does (Unlinks path) effect keeps free is =
      at_effect effect _ is
      (set_name_other s.names path None dir (λ same. leaf_no_dir (get s.names path) (none_second (blocked s.names path) (no_leaf (get s.names path)) free) (ap (get s.names) (sym same) ∙ there)) ∙ there)
  does (RemovesDir path) effect keeps free is = absurd keeps
  does (SyncsFile path) effect keeps free (inode, named, is) = at_effect effect _ is there
  does (SyncsDir path) effect keeps free is = at_effect effect _ is there

  fails : (call : Call) (effect : Effect) → KeepsDirs call → refusal s call ≡ None → MayFail s call effect → get (apply s effect).names dir ≡ Some Dir
  fails (WritesAt path from bytes) effect keeps free (inode, any, named, are_bytes, is) = at_effect effect _ is there
  fails call effect keeps free may = elim may [ inl nothing ↦ at_effect effect Nothing nothing there | inr is ↦ does call effect keeps free is ]

  failed : (call : Call) (effect : Effect) (found : Option FsError) → refusal s call ≡ found → KeepsDirs call → MatchOption found (MayFail s call effect) (λ _. effect ≡ Nothing) → get (apply s effect).names dir ≡ Some Dir
  failed call effect None free keeps may = fails call effect keeps free may
  failed call effect (Some error) free keeps may = at_effect effect Nothing may there

  answered : (call : Call) (answer : Option FsError) (effect : Effect) → KeepsDirs call → MayDo s call answer effect → get (apply s effect).names dir ≡ Some Dir
  answered call None effect keeps may = does call effect keeps may.0 may.1
  answered call (Some Failed) effect keeps may = failed call effect (refusal s call) refl keeps may
  answered call (Some error) effect keeps may = at_effect effect Nothing may.1 there

pub dir_stays : (a b : Trail) (dir : Path) → Goes KeepsDirectories a b → get a.present.names dir ≡ Some Dir → Since (λ s. get s.names dir ≡ Some Dir) a b
dir_stays a b dir goes there = goes_since KeepsDirectories (λ s. get s.names dir ≡ Some Dir) (λ s call answer effect here allowed may. answered dir s here call answer effect allowed may) there goes

-- ---- the calls of each step

pub replay_keeps : (listed : List NewName) (a b : Trail) → Goes (MakesListed listed a.present) a b → Goes KeepsDirectories a b
replay_keeps listed a b goes = goes_weaker (MakesListed listed a.present) KeepsDirectories keeps goes
  where
    keeps : (s : FsState) (call : Call) → MakesListed listed a.present s call → KeepsDirs call
    keeps s (RemovesDir path) allowed = allowed
    keeps s call allowed = tt

pub status_keeps : (dirs : List Path) (a b : Trail) → Goes (CarriesInto dirs a.present) a b → Goes KeepsDirectories a b
status_keeps dirs a b goes = goes_weaker (CarriesInto dirs a.present) KeepsDirectories keeps goes
  where
    keeps : (s : FsState) (call : Call) → CarriesInto dirs a.present s call → KeepsDirs call
    keeps s (RemovesDir path) allowed = allowed
    keeps s call allowed = tt

pub counters_keep : (at : Path) (a b : Trail) → Goes (Rewrites at) a b → Goes KeepsDirectories a b
counters_keep at a b goes = goes_weaker (Rewrites at) KeepsDirectories keeps goes
  where
    keeps : (s : FsState) (call : Call) → Rewrites at s call → KeepsDirs call
    keeps s (RemovesDir path) allowed = allowed
    keeps s call allowed = tt

pub disabling_keeps : (control renamed dir : Path) (a b : Trail) → Goes (Disables control renamed dir) a b → Goes KeepsDirectories a b
disabling_keeps control renamed dir a b goes = goes_weaker (Disables control renamed dir) KeepsDirectories keeps goes
  where
    keeps : (s : FsState) (call : Call) → Disables control renamed dir s call → KeepsDirs call
    keeps s (RemovesDir path) allowed = allowed
    keeps s call allowed = tt

pub copies_keep : (paths : List Path) (a b : Trail) → Goes (CopiesTo paths a.present) a b → Goes KeepsDirectories a b
copies_keep paths a b goes = goes_weaker (CopiesTo paths a.present) KeepsDirectories keeps goes
  where
    keeps : (s : FsState) (call : Call) → CopiesTo paths a.present s call → KeepsDirs call
    keeps s (RemovesDir path) allowed = allowed.1
    keeps s call allowed = tt

pub links_keep : (items : List PlanItem) (a b : Trail) → Goes (LinksItems items) a b → Goes KeepsDirectories a b
links_keep items a b goes = goes_weaker (LinksItems items) KeepsDirectories keeps goes
  where
    keeps : (s : FsState) (call : Call) → LinksItems items s call → KeepsDirs call
    keeps s (RemovesDir path) allowed = allowed
    keeps s call allowed = tt

-- of runs within directories
pub makes_keep : (tops : List Path) (a b : Trail) → Goes (MakesWithin tops a.present) a b → Goes KeepsDirectories a b
makes_keep tops a b goes = goes_weaker (MakesWithin tops a.present) KeepsDirectories keeps goes
  where
    keeps : (s : FsState) (call : Call) → MakesWithin tops a.present s call → KeepsDirs call
    keeps s (RemovesDir path) allowed = allowed.1
    keeps s call allowed = tt
