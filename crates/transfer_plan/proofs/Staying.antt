-- What a transfer needs stays where the names that it speaks of do.
use Rattle.std.proofs.Common.{◌≡◌, ◌≢◌, ◌∙◌, ◌++◌, ℕ, cond, inl, inr, List, [], ◌∷◌, Option, Some, None, MatchOption, refl, sym, ap, subst, arith}
use Rattle.std.specs.Prelude.{is_some}
use Rattle.std.specs.Option.{unwrap_or}
use Rattle.std.specs.List.{AllByRecursion}
use Rattle.std.specs.FinMap.{get, insert, get-insert}
use Rattle.fs_model.specs.declared.node.Node.{Node}
use Rattle.fs_model.specs.declared.node.Node.TheVariants.{Dir, File, Sym}
use Rattle.fs_model.specs.declared.effect.Effect.{Effect}
use Rattle.fs_model.specs.declared.effect.Effect.TheVariants.{Nothing}
use Rattle.fs_model.specs.declared.error.FsError.{FsError}
use Rattle.fs_model.specs.declared.error.FsError.TheVariants.{Failed}
use Rattle.fs_model.specs.Names.{Path, IsUnder, parent}
use Rattle.fs_model.specs.PathLaws.{path_total}
use Rattle.fs_model.specs.State.{Names, FsState}
use Rattle.fs_model.specs.Effects.{apply, set_name}
use Rattle.fs_model.specs.Calls.{Call, Stats, Lists, ReadsAt, ReadsLink, Creates, WritesAt, MakesDir, MakesSymlink, Links, Renames, Unlinks, RemovesDir, SyncsFile, SyncsDir, MayDo, MayFail, Does, refusal, blocked, device_of}
use Rattle.fs_model.specs.WellFormed.{IsTree}
use Rattle.fs_model.specs.Trail.{Trail, Goes, Since}
use Rattle.fs_model.proofs.Lookups.{set_name_other, same_path_or}
use Rattle.fs_model.proofs.Going.{goes_since}
use Rattle.crash_safety.specs.Synced.{IsOneOf}
use Rattle.crash_safety.proofs.Needing.{below_stands}
use Rattle.fs_tools.proofs.Copying.{prefix_is_dir}
use Rattle.transfer_plan.specs.declared.plan.PlanItem.{PlanItem}
use Rattle.transfer_plan.specs.Carriable.{targets, IsCarriable, CanBeCarried, HaveOneDevice, names_of, SparesName, SparesPlan}

module _ (a b : Names) where
  pub carriable_still : (item : PlanItem) → get b item.from ≡ get a item.from → get b item.to ≡ get a item.to → get b (parent item.to) ≡ get a (parent item.to) → IsCarriable a item → IsCarriable b item
  carriable_still item from to dir can = record {
    inode = can.inode;
    file = from ∙ can.file;
    dir = dir ∙ can.dir;
    replaces = can.replaces ∙ ap is_some (sym to);
    no_dir = λ is. can.no_dir (sym to ∙ is);
  }

  all_still : (items : List PlanItem) → ((name : Path) → IsOneOf (names_of items) name → get b name ≡ get a name) → AllByRecursion (IsCarriable a) items → AllByRecursion (IsCarriable b) items
  all_still [] same all = tt
  all_still (item ∷ items) same all = (
    carriable_still item (same item.from (inl refl)) (same item.to (inr (inl refl))) (same (parent item.to) (inr (inr (inr (inl refl))))) all.0,
    all_still items (λ name one. same name (inr (inr (inr (inr one))))) all.1,
  )

  pub names_stay : (items : List PlanItem) → ((name : Path) → IsOneOf (names_of items) name → get b name ≡ get a name) → CanBeCarried a items → CanBeCarried b items
  names_stay items same can = record { each = all_still items same can.each; apart = can.apart; other = can.other }

pub devices_stay : (a b : FsState) (items : List PlanItem) → ((name : Path) → IsOneOf (names_of items) name → get b.devices name ≡ get a.devices name) → HaveOneDevice a items → HaveOneDevice b items
devices_stay a b [] same all = tt
devices_stay a b (item ∷ items) same all = (
  ap (λ device. unwrap_or device 0) (same (parent item.from) (inr (inr (inl refl)))) ∙ all.0 ∙ sym (ap (λ device. unwrap_or device 0) (same (parent item.to) (inr (inr (inr (inl refl)))))),
  devices_stay a b items (λ name one. same name (inr (inr (inr (inr one))))) all.1,
)

-- a call that spares a name leaves what stands there, and its device
module _ (name : Path) (s : FsState) where
  abbrev pub IsSpared : FsState → Type 0
  IsSpared t = (get t.names name ≡ get s.names name) × (get t.devices name ≡ get s.devices name)

  at_effect : (effect is : Effect) → effect ≡ is → IsSpared (apply s is) → IsSpared (apply s effect)
  at_effect effect is same holds = subst (λ e. IsSpared (apply s e)) (sym same) holds

  set : (path : Path) (node : Option Node) → name ≢ path → get (set_name s.names path node) name ≡ get s.names name
  set path node apart = set_name_other s.names path node name apart

  device : (path : Path) (number : ℕ) → name ≢ path → get (insert s.devices path number) name ≡ get s.devices name
  device path number apart = get-insert path_total s.devices path number name ∙ same_path_or name path (λ b. cond b (Some number) (get s.devices name) ≡ get s.devices name) (λ same. absurd (apart same)) refl

  does : (call : Call) (effect : Effect) → SparesName name call → Does s call effect → IsSpared (apply s effect)
  does (Stats path) effect spares is = at_effect effect Nothing is (refl, refl)
  does (Lists path) effect spares is = at_effect effect Nothing is (refl, refl)
  does (ReadsAt path) effect spares is = at_effect effect Nothing is (refl, refl)
  does (ReadsLink path) effect spares is = at_effect effect Nothing is (refl, refl)
  does (Creates path) effect spares (inode, none, is) = at_effect effect _ is (set path (Some (File inode)) spares, refl)
  does (WritesAt path from bytes) effect spares (inode, named, is) = at_effect effect _ is (refl, refl)
  does (MakesDir path) effect spares is = at_effect effect _ is (set path (Some Dir) spares, device path (device_of s (parent path)) spares)
  does (MakesSymlink path target) effect spares is = at_effect effect _ is (set path (Some (Sym target)) spares, refl)
  does (Links from to) effect spares (inode, named, is) = at_effect effect _ is (set to (Some (File inode)) spares, refl)
  does (Renames from to) effect spares (inode, named, is) = at_effect effect _ is (set_name_other (set_name s.names from None) to (Some (File inode)) name spares.1 ∙ set from None spares.0, refl)
  does (Unlinks path) effect spares is = at_effect effect _ is (set path None spares, refl)
  does (RemovesDir path) effect spares is = at_effect effect _ is (set path None spares, refl)
  does (SyncsFile path) effect spares (inode, named, is) = at_effect effect _ is (refl, refl)
  does (SyncsDir path) effect spares is = at_effect effect _ is (refl, refl)

  fails : (call : Call) (effect : Effect) → SparesName name call → MayFail s call effect → IsSpared (apply s effect)
  fails (WritesAt path from bytes) effect spares (inode, any, named, are_bytes, is) = at_effect effect _ is (refl, refl)
  fails call effect spares may = elim may [ inl nothing ↦ at_effect effect Nothing nothing (refl, refl) | inr is ↦ does call effect spares is ]

  refused : (call : Call) (effect : Effect) (found : Option FsError) → SparesName name call → MatchOption found (MayFail s call effect) (λ _. effect ≡ Nothing) → IsSpared (apply s effect)
  refused call effect None spares may = fails call effect spares may
  refused call effect (Some error) spares may = at_effect effect Nothing may (refl, refl)

  pub spared : (call : Call) (answer : Option FsError) (effect : Effect) → SparesName name call → MayDo s call answer effect → IsSpared (apply s effect)
  spared call None effect spares may = does call effect spares may.1
  spared call (Some Failed) effect spares may = refused call effect (refusal s call) spares may
  spared call (Some error) effect spares may = at_effect effect Nothing may.1 (refl, refl)

module _ (items : List PlanItem) where
  pub call_keeps : (s : FsState) (call : Call) (answer : Option FsError) (effect : Effect) → SparesPlan items s call → MayDo s call answer effect → CanBeCarried s.names items → CanBeCarried (apply s effect).names items
  call_keeps s call answer effect spares may can = names_stay s.names (apply s effect).names items (λ name one. (spared name s call answer effect (spares name one) may).0) can

  pub call_keeps_devices : (s : FsState) (call : Call) (answer : Option FsError) (effect : Effect) → SparesPlan items s call → MayDo s call answer effect → HaveOneDevice s items → HaveOneDevice (apply s effect) items
  call_keeps_devices s call answer effect spares may have = devices_stay s (apply s effect) items (λ name one. (spared name s call answer effect (spares name one) may).1) have

  pub run_keeps : (a b : Trail) → Goes (SparesPlan items) a b → CanBeCarried a.present.names items → Since (λ s. CanBeCarried s.names items) a b
  run_keeps a b goes can = goes_since (SparesPlan items) (λ s. CanBeCarried s.names items) (λ s call answer effect here spares may. call_keeps s call answer effect spares may here) can goes

  pub run_keeps_devices : (a b : Trail) → Goes (SparesPlan items) a b → HaveOneDevice a.present items → Since (λ s. HaveOneDevice s items) a b
  run_keeps_devices a b goes have = goes_since (SparesPlan items) (λ s. HaveOneDevice s items) (λ s call answer effect here spares may. call_keeps_devices s call answer effect spares may here) have goes

-- what stands at a new name, and at its directory
pub target_stands : (names : Names) (items : List PlanItem) (path : Path) → AllByRecursion (IsCarriable names) items → IsOneOf (targets items) path → (get names (parent path) ≡ Some Dir) × (get names path ≢ Some Dir)
target_stands names [] path all none = absurd none
target_stands names (item ∷ items) path all (inl same) = (ap (λ p. get names (parent p)) same ∙ all.0.dir, λ is. all.0.no_dir (ap (get names) (sym same) ∙ is))
target_stands names (item ∷ items) path all (inr one) = target_stands names items path all.1 one

-- no new name lies below another
pub no_target_below : (items : List PlanItem) (names : Names) → IsTree names → CanBeCarried names items → (path other : Path) → IsOneOf (targets items) path → IsOneOf (targets items) other → IsUnder path other → other ≡ path
no_target_below items names tree can path other one another ([], is) = is ∙ append-nil path
  where
    append-nil : (p : Path) → p ++ [] ≡ p
    append-nil [] = refl
    append-nil (name ∷ p) = ap (λ rest. name ∷ rest) (append-nil p)
no_target_below items names tree can path other one another (name ∷ more, is) = absurd ((target_stands names items path can.each one).1 (passed above.0 above.1))
  where
    above : IsUnder path (parent other)
    above = (below_stands path other name more is).0

    stands : get names (parent other) ≡ Some Dir
    stands = (target_stands names items other can.each another).0

    passed : (rest : Path) → parent other ≡ path ++ rest → get names path ≡ Some Dir
    passed [] whole = ap (get names) (sym (whole ∙ append-nil path)) ∙ stands
      where
        append-nil : (p : Path) → p ++ [] ≡ p
        append-nil [] = refl
        append-nil (name ∷ p) = ap (λ rest. name ∷ rest) (append-nil p)
    passed (next ∷ rest) whole = prefix_is_dir names path (next ∷ rest) (λ none. absurd (omega arith)) (ap (blocked names) (sym whole) ∙ tree (parent other) (ap is_some stands))
