-- Runs that leave what needs a sync inside: with links, and with writes to the one file that stood at the beginning.
use Rattle.std.proofs.Common.{◌≡◌, ◌∙◌, inl, inr, false, ℕ, List, Option, Some, None, sym, ap, MatchOption}
use Rattle.std.specs.FinMap.{get}
use Rattle.fs_model.specs.declared.node.Node.TheVariants.{File}
use Rattle.fs_model.specs.declared.effect.Effect.{Effect}
use Rattle.fs_model.specs.declared.effect.Effect.TheVariants.{Nothing, Bytes, KeepBytes}
use Rattle.fs_model.specs.declared.error.FsError.{FsError}
use Rattle.fs_model.specs.declared.error.FsError.TheVariants.{Failed}
use Rattle.fs_model.specs.Names.{Path, parent}
use Rattle.fs_model.specs.State.{FsState}
use Rattle.fs_model.specs.Effects.{apply}
use Rattle.fs_model.specs.Calls.{Call, Stats, Lists, ReadsAt, ReadsLink, WritesAt, SyncsFile, Does, MayFail, MayDo, refusal, is_root}
use Rattle.fs_model.specs.Trail.{Trail, Goes, Since}
use Rattle.fs_model.proofs.Going.{goes_since, goes_weaker}
use Rattle.crash_safety.specs.Frame.{IsInside, IsOutside, Within}
use Rattle.crash_safety.specs.Calling.{MakesWithin, KeepsWithin, Rewrites, LinksInside}
use Rattle.crash_safety.specs.Tracked.{Tracked}
use Rattle.crash_safety.specs.Synced.{IsHeld, NeedsOnly}
use Rattle.crash_safety.proofs.Called.{same_effect}
use Rattle.crash_safety.proofs.Going.{makes_keeps, links_keeps}
use Rattle.crash_safety.proofs.Needing.{goes_needs, rewrite_needs, keep_bytes_needs}

module _ (tops holders : List Path) (rewritten : Path) (inner : List Path) (apart : IsOutside inner rewritten) (inside : (path : Path) → IsInside inner path → IsInside tops path × IsHeld tops holders (parent path) × (is_root path ≡ false)) (a b : Trail) (tracked : Tracked a.present) (needs : NeedsOnly tops holders rewritten a.present) where
  pub makes_need : Goes (MakesWithin inner a.present) a b → Since (λ s. Within inner a.present s × Tracked s × NeedsOnly tops holders rewritten s) a b
  makes_need goes = goes_needs tops holders rewritten inner apart inside a b tracked needs (goes_weaker (MakesWithin inner a.present) (KeepsWithin inner a.present) (makes_keeps inner a.present) goes)

  pub links_need : Goes (LinksInside inner) a b → Since (λ s. Within inner a.present s × Tracked s × NeedsOnly tops holders rewritten s) a b
  links_need goes = goes_needs tops holders rewritten inner apart inside a b tracked needs (goes_weaker (LinksInside inner) (KeepsWithin inner a.present) (links_keeps inner a.present) goes)

module _ (tops holders : List Path) (rewritten : Path) where
  module _ (s : FsState) (needs : NeedsOnly tops holders rewritten s) where
    done : (effect e : Effect) → effect ≡ e → NeedsOnly tops holders rewritten (apply s e) → NeedsOnly tops holders rewritten (apply s effect)
    done effect e is holds = same_effect (NeedsOnly tops holders rewritten) s effect e is holds

    writes : (path : Path) (inode : ℕ) (bytes : List ℕ) → path ≡ rewritten → get s.names path ≡ Some (File inode) → NeedsOnly tops holders rewritten (apply s (Bytes inode bytes))
    writes path inode bytes is named = rewrite_needs tops holders rewritten s inode bytes (ap (get s.names) (sym is) ∙ named) needs

    does_need : (call : Call) (effect : Effect) → Rewrites rewritten s call → Does s call effect → NeedsOnly tops holders rewritten (apply s effect)
    does_need (Stats path) effect allowed does = done effect Nothing does needs
    does_need (Lists path) effect allowed does = done effect Nothing does needs
    does_need (ReadsAt path) effect allowed does = done effect Nothing does needs
    does_need (ReadsLink path) effect allowed does = done effect Nothing does needs
    does_need (WritesAt path from bytes) effect allowed (inode, named, is) = done effect _ is (writes path inode _ allowed named)
    does_need (SyncsFile path) effect allowed (inode, named, is) = done effect (KeepBytes inode) is (keep_bytes_needs tops holders rewritten s inode needs)
    does_need call effect allowed does = absurd allowed

    fails_need : (call : Call) (effect : Effect) → Rewrites rewritten s call → MayFail s call effect → NeedsOnly tops holders rewritten (apply s effect)
    fails_need (WritesAt path from bytes) effect allowed (inode, any, named, are_bytes, is) = done effect (Bytes inode any) is (writes path inode any allowed named)
    fails_need call effect allowed fails = elim fails [ inl nothing ↦ done effect Nothing nothing needs | inr does ↦ does_need call effect allowed does ]

    failed_need : (call : Call) (effect : Effect) (refused : Option FsError) → Rewrites rewritten s call → MatchOption refused (MayFail s call effect) (λ _. effect ≡ Nothing) → NeedsOnly tops holders rewritten (apply s effect)
    failed_need call effect None allowed may = fails_need call effect allowed may
    failed_need call effect (Some error) allowed may = done effect Nothing may needs

    call_need : (call : Call) (answer : Option FsError) (effect : Effect) → Rewrites rewritten s call → MayDo s call answer effect → NeedsOnly tops holders rewritten (apply s effect)
    call_need call None effect allowed may = does_need call effect allowed may.1
    call_need call (Some Failed) effect allowed may = failed_need call effect (refusal s call) allowed may
    call_need call (Some error) effect allowed may = done effect Nothing may.1 needs

  pub rewrites_need : (a b : Trail) → NeedsOnly tops holders rewritten a.present → Goes (Rewrites rewritten) a b → Since (NeedsOnly tops holders rewritten) a b
  rewrites_need a b needs goes = goes_since (Rewrites rewritten) (NeedsOnly tops holders rewritten) (λ s call answer effect here allowed may. call_need s here call answer effect allowed may) needs goes
