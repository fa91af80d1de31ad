-- A settled state of sound maps is well-formed, and so is every image of a well-formed state.
use Rattle.std.proofs.Common.{◌≡◌, ℕ, Bool, true, false, cond, not, List, [], ◌∷◌, ◌++◌, Option, Some, None, refl, sym, ◌∙◌, ap, subst}
use Rattle.std.specs.Prelude.{is_some, IsSomeAnd}
use Rattle.std.specs.List.{AllByRecursion}
use Rattle.std.specs.Ordering.{nat_cmp}
use Rattle.std.specs.FinMap as map
use Rattle.fs_model.specs.declared.node.Node.{Node}
use Rattle.fs_model.specs.declared.node.Node.TheVariants.{Dir}
use Rattle.fs_model.specs.declared.error.FsError.{FsError}
use Rattle.fs_model.specs.Names.{Path}
use Rattle.fs_model.specs.PathLaws.{path_exact}
use Rattle.fs_model.specs.State.{Names, Contents, Change, Devices, FsState}
use Rattle.fs_model.specs.Effects.{all_changed}
use Rattle.fs_model.specs.Calls.{no_dir, blocked, blocked_from, AreBytes}
use Rattle.fs_model.specs.Crash.{IsSubsequence, none, with, without, is_reached, reached, Image, Settled}
use Rattle.fs_model.specs.WellFormed.{Each, EachPair, IsTree, IsKnown, IsBelowRoot, WellFormed}
use Rattle.fs_state.specs.Settled.{settled}
use Rattle.fs_state.proofs.Preserved.{each_all_changed, root_all_changed, more_known}
use Rattle.fs_state.proofs.Ways.{or_else_none, none_or_else, blocked_push}

-- all that a settled state needs to be well-formed
pub record IsSound (names : Names) (contents : Contents) (devices : Devices) : Type 0 where
  pub root : map.get names [] ≡ Some Dir
  pub tree : IsTree names
  pub known : Each (IsKnown contents devices) names

pub settled_well_formed : (names : Names) (contents : Contents) (devices : Devices) → IsSound names contents devices → WellFormed (settled names contents devices)
settled_well_formed names contents devices sound = record {
  root = sound.root;
  root_kept = sound.root;
  tree = sound.tree;
  names = sound.known;
  names_kept = sound.known;
  pending = tt;
  pending_below = tt;
  together = tt;
  dirty = λ inode h. (let clash : false ≡ true = ap is_some (sym (map.get-empty nat_cmp inode)) ∙ h in cc);
  clean = λ inode _ h. h;
}

some_kept : (P : Change → Type 0) {changes picked : List Change} → IsSubsequence changes picked → AllByRecursion P changes → AllByRecursion P picked
some_kept P none all = tt
some_kept P (with some) all = (all.0, some_kept P some all.1)
some_kept P (without some) all = some_kept P some all.1

get_reached : (names : Names) (q : Path) → map.get (reached names) q ≡ cond (is_reached names q) (map.get names q) None
get_reached names q = map.get-retain_keys names (is_reached names) q (λ x e. ap (is_reached names) (sym (path_exact q x e)))

is_open : (refused : Option FsError) → not (is_some refused) ≡ true → refused ≡ None
is_open None h = refl
is_open (Some error) h = cc

there_is_reached : (reach : Bool) (at : Option Node) → is_some (cond reach at None) ≡ true → reach ≡ true
there_is_reached true at h = refl
there_is_reached false at h = cc

-- the names that are reached are a tree
open_reached : (names : Names) (done rest : Path) → blocked names done ≡ None → blocked_from names done rest ≡ None → blocked_from (reached names) done rest ≡ None
open_reached names done [] way rest_open = refl
open_reached names done (name ∷ rest) way rest_open =
    let both = or_else_none (no_dir (map.get names done)) (blocked_from names (done ++ name ∷ []) rest) rest_open in
    let here : map.get (reached names) done ≡ map.get names done = get_reached names done ∙ ap (λ r. cond (not (is_some r)) (map.get names done) None) way in
    none_or_else (no_dir (map.get (reached names) done)) (blocked_from (reached names) (done ++ name ∷ []) rest) (ap no_dir here ∙ both.0)
    (open_reached names (done ++ name ∷ []) rest (blocked_push names [] done name way both.0) both.1)

reached_tree : (names : Names) → IsTree (reached names)
reached_tree names q stands =
    open_reached names [] q refl (is_open (blocked names q) (there_is_reached (is_reached names q) (map.get names q) (ap is_some (sym (get_reached names q)) ∙ stands)))

reached_known : (names : Names) (contents : Contents) (devices : Devices) → Each (IsKnown contents devices) names → Each (IsKnown contents devices) (reached names)
reached_known names contents devices each q =
    subst (IsKnown contents devices q) (sym (get_reached names q))
    (elim (is_reached names q) as (λ b. IsKnown contents devices q (cond b (map.get names q) None)) [ true ↦ each q | false ↦ tt ])

is_some_and : (o : Option (List ℕ)) → IsSomeAnd o AreBytes → is_some o ≡ true
is_some_and None h = absurd h
is_some_and (Some bytes) h = refl

module _ (s x : FsState) (image : Image s x) where
  pub image_settled : Settled x
  image_settled = record {
    nothing_pending = image.nothing_pending;
    names = image.names_kept;
    clean = λ path inode _. ap (λ d. is_some (map.get d inode)) image.nothing_dirty ∙ ap is_some (map.get-empty nat_cmp inode);
    bytes = λ path inode _. ap (λ b. map.get b inode) image.bytes_kept;
  }

  module _ (w : WellFormed s) where
    still_bytes : (inode : ℕ) → is_some (map.get s.bytes inode) ≡ true → is_some (map.get x.bytes inode) ≡ true
    still_bytes inode has =
        elim (map.contains_key s.dirty inode) as (λ b. map.contains_key s.dirty inode ≡ b → is_some (map.get x.bytes inode) ≡ true)
        [ true ↦ λ is_dirty. is_some_and (map.get x.bytes inode) (image.torn inode is_dirty) | false ↦ λ is_clean. ap is_some (image.clean inode is_clean) ∙ w.clean inode is_clean has ] refl

    abbrev left : Names
    left = all_changed s.names_kept image.picked

    left_sound : IsSound (reached left) x.bytes s.devices
    left_sound = record {
      root = get_reached left [] ∙ root_all_changed s.names_kept image.picked (some_kept (EachPair IsBelowRoot) image.some w.pending_below) ∙ w.root_kept;
      tree = reached_tree left;
      known = reached_known left x.bytes s.devices (λ q. more_known s.bytes x.bytes s.devices s.devices still_bytes (λ dir h. h) q (map.get left q)
          (each_all_changed (IsKnown s.bytes s.devices) s.names_kept image.picked w.names_kept (some_kept (EachPair (IsKnown s.bytes s.devices)) image.some w.pending) q));
    }

    pub image_well_formed : WellFormed x
    image_well_formed =
        let is : settled (reached left) x.bytes s.devices ≡ x = λ i. record {
          names = sym image.names i;
          bytes = x.bytes;
          names_kept = (sym image.names ∙ sym image.names_kept) i;
          bytes_kept = sym image.bytes_kept i;
          pending = sym image.nothing_pending i;
          dirty = sym image.nothing_dirty i;
          devices = sym image.devices i;
        } in
        subst WellFormed is (settled_well_formed (reached left) x.bytes s.devices left_sound)
