-- After the sync of all that needs it, all is on the disk.
use Rattle.std.proofs.Common.{◌≡◌, ◌⊎◌, inl, inr, ℕ, true, false, List, [], ◌∷◌, Some, refl, sym, ◌∙◌, ap}
use Rattle.std.specs.List.{AllByRecursion}
use Rattle.std.specs.FinMap.{get, contains_key, same_map}
use Rattle.fs_model.specs.declared.node.Node.TheVariants.{Dir, File}
use Rattle.fs_model.specs.Names.{Path, is_under}
use Rattle.fs_model.specs.PathLaws.{path_total, path_exact}
use Rattle.fs_model.specs.State.{Change, FsState}
use Rattle.fs_model.specs.Effects.{is_in, all_changed}
use Rattle.fs_model.specs.Crash.{Settled}
use Rattle.fs_model.proofs.Prefixes.{is_under_true, is_under_made}
use Rattle.crash_safety.specs.Frame.{IsInside, IsOutside}
use Rattle.crash_safety.specs.Tracked.{Tracked}
use Rattle.crash_safety.specs.Synced.{IsSynced, IsHeld, AreQuiet, WaitsInside, NeedsOnly}

-- a path is inside or outside
pub inside_or : (tops : List Path) (path : Path) → IsInside tops path ⊎ IsOutside tops path
inside_or [] path = inr (λ none. none)
inside_or (top ∷ tops) path =
    elim (is_under top path) as (λ b. is_under top path ≡ b → IsInside (top ∷ tops) path ⊎ IsOutside (top ∷ tops) path) [
      | true ↦ λ e. inl (inl (is_under_true top path e))
      | false ↦ λ e. elim (inside_or tops path) [
        | inl here ↦ inl (inr here)
        | inr outside ↦ inr (λ inside. elim inside [ inl under ↦ (let made = is_under_made top path under in cc (made, e)) | inr here ↦ outside here ])
      ]
    ] refl

module _ (tops holders : List Path) (rewritten : Path) (inside_too : IsInside tops rewritten) (s : FsState) (synced : IsSynced tops s) (calm : AreQuiet holders s) (needs : NeedsOnly tops holders rewritten s) where
  none_waits : (changes : List Change) → AllByRecursion (WaitsInside tops holders s) changes → ((dir : Path) → IsHeld tops holders dir → get s.names dir ≡ Some Dir → AllByRecursion (λ change. is_in dir change ≡ false) changes) → changes ≡ []
  none_waits [] all quiet = refl
  none_waits (change ∷ changes) all quiet =
      let (dir, held, stands, is) = all.0 in
      let no = (quiet dir held stands).0 in
      absurd (cc (is, no))

  quiet_there : (dir : Path) → IsHeld tops holders dir → get s.names dir ≡ Some Dir → AllByRecursion (λ change. is_in dir change ≡ false) s.pending
  quiet_there dir (inl inside) stands = synced.quiet dir inside stands
  quiet_there dir (inr one) stands = calm dir one stands

  pub synced_settled : Tracked s → Settled s
  synced_settled t =
      let none : s.pending ≡ [] = none_waits s.pending needs.waiting quiet_there in
      let clean : (path : Path) (inode : ℕ) → get s.names path ≡ Some (File inode) → contains_key s.dirty inode ≡ false =
      λ path inode named. elim (inside_or tops path) [ inl inside ↦ synced.clean path inode inside named | inr outside ↦ elim (needs.clean path inode outside named) [ inl clean ↦ clean | inr there ↦ synced.clean rewritten inode inside_too there ] ] in
      record {
        nothing_pending = none;
        names = same_map path_total path_exact s.names_kept s.names (λ path. sym (t.names path ∙ ap (λ (changes : List Change). get (all_changed s.names_kept changes) path) none));
        clean = clean;
        bytes = λ path inode named. t.bytes path inode named (clean path inode named);
      }
