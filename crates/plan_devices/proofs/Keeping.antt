-- A run that removes no directory keeps the devices.
use Rattle.std.proofs.Common.{◌≡◌, ◌≢◌, ◌⊎◌, ◌∙◌, ◌++◌, ◌∷◌, [], ℕ, Option, Some, None, MatchOption, ◌-◌, Bool, true, false, cond, length, drop, inl, inr, refl, sym, ap, subst, append-nil, append_assoc}
use Rattle.std.proofs.lemmas.List.{append_cancel_left, take-append-drop}
use Rattle.std.specs.Prelude.{unwrap_or}
use Rattle.std.specs.FinMap.{get, get-insert}
use Rattle.fs_model.specs.declared.node.Node.{Node}
use Rattle.fs_model.specs.declared.node.Node.TheVariants.{Dir, File, Sym}
use Rattle.fs_model.specs.declared.effect.Effect.{Effect}
use Rattle.fs_model.specs.declared.effect.Effect.TheVariants.{Nothing, NewDir}
use Rattle.fs_model.specs.declared.error.FsError.{FsError}
use Rattle.fs_model.specs.declared.error.FsError.TheVariants.{Failed}
use Rattle.fs_model.specs.Names.{Path, IsUnder, parent, same_path}
use Rattle.fs_model.specs.PathLaws.{path_total, same_path_true}
use Rattle.fs_model.specs.State.{Names, FsState}
use Rattle.fs_model.specs.Effects.{apply, set_name}
use Rattle.fs_model.specs.Calls.{Call, Stats, Lists, ReadsAt, ReadsLink, Creates, WritesAt, MakesDir, MakesSymlink, Links, Renames, Unlinks, RemovesDir, SyncsFile, SyncsDir, MayDo, MayFail, Does, refusal, blocked, taken, device_of, is_root}
use Rattle.fs_model.specs.WellFormed.{WellFormed}
use Rattle.fs_model.specs.Trail.{Trail, Goes, Since, grown}
use Rattle.fs_model.proofs.Going.{goes_one, goes_since}
use Rattle.fs_model.proofs.Lookups.{get-set_name}
use Rattle.fs_model.proofs.Ways.{none_first, none_second}
use Rattle.crash_safety.specs.Calling.{KeepsDirs}
use Rattle.crash_safety.proofs.Renamed.{none_taken}
use Rattle.crash_safety.proofs.Needing.{parent_stands, below_stands}
use Rattle.phase_facts.specs.Held.{KeepsDirectories}
use Rattle.phase_facts.specs.CanUpgrade.{IsNearestDir}
use Rattle.phase_facts.proofs.Standing.{dir_stays}
use Rattle.plan_devices.specs.Kept.{KeepsDevices}

-- ---- paths

-- a path that is under another, and not it, is under that one's directory
under_parent : (top path : Path) → IsUnder top path → top ≢ path → IsUnder top (parent path)
under_parent top path ([], is) other = absurd (other (sym (append-nil top) ∙ sym is))
under_parent top path (name ∷ rest, is) other = (below_stands top path name rest is).0

-- what is above a path's directory is above the path
under_whole : (top path : Path) → IsUnder top (parent path) → IsUnder top path
under_whole top path (rest, is) = (rest ++ drop (length path - 1) path, sym (take-append-drop (length path - 1) path) ∙ ap (λ p. p ++ drop (length path - 1) path) is ∙ append_assoc top rest (drop (length path - 1) path))

same_under : (a b : Path) → IsUnder a b → IsUnder b a → a ≡ b
same_under a b (x, is) (y, same) = by x is (append_cancel_left a [] (x ++ y) (append-nil a ∙ same ∙ ap (λ p. p ++ y) is ∙ append_assoc a x y))
  where
    by : (x : Path) → b ≡ a ++ x → [] ≡ x ++ y → a ≡ b
    by [] is e = sym (append-nil a) ∙ sym is
    by (n ∷ x) is e = absurd (cc e)

-- ---- one call

-- a directory of t was one in s, with its device, or has that of the directory that it is in
module _ (s : FsState) where
  abbrev Old : FsState → Path → Type 0
  Old t dir = ((get s.names dir ≡ Some Dir) × (device_of t dir ≡ device_of s dir)) ⊎ ((get s.names dir ≡ None) × (get s.names (parent dir) ≡ Some Dir) × (device_of t dir ≡ device_of s (parent dir)))

  at_effect : (dir : Path) (effect e : Effect) → effect ≡ e → (get (apply s e).names dir ≡ Some Dir → Old (apply s e) dir) → get (apply s effect).names dir ≡ Some Dir → Old (apply s effect) dir
  at_effect dir effect e is old = subst (λ f. get (apply s f).names dir ≡ Some Dir → Old (apply s f) dir) (sym is) old

  still : (dir : Path) → get s.names dir ≡ Some Dir → Old s dir
  still dir there = inl (there, refl)

  -- a name of something else than a directory
  other_node : (dir path : Path) (node : Option Node) (names : Names) → node ≢ Some Dir → get (set_name names path node) dir ≡ Some Dir → get names dir ≡ Some Dir
  other_node dir path node names other there = by (same_path dir path) (sym (get-set_name names path node dir) ∙ there)
    where
      by : (b : Bool) → cond b node (get names dir) ≡ Some Dir → get names dir ≡ Some Dir
      by true e = absurd (other e)
      by false e = e

  no_dir_file : (inode : ℕ) → Some (File inode) ≢ Some Dir
  no_dir_file inode e = cc e

  no_dir_link : (target : Path) → Some (Sym target) ≢ Some Dir
  no_dir_link target e = cc e

  no_dir_none : (there : Option Node) → there ≡ None → there ≢ Some Dir
  no_dir_none there is e = cc (is, e)

  -- a directory that is made has the device of the one that it is in
  made_dir : (dir path : Path) → refusal s (MakesDir path) ≡ None → get (set_name s.names path (Some Dir)) dir ≡ Some Dir → (get s.names [] ≡ Some Dir) → Old (apply s (NewDir path (device_of s (parent path)))) dir
  made_dir dir path free there root = by (same_path dir path) refl
    where
      none : get s.names path ≡ None
      none = none_taken (get s.names path) (none_second (blocked s.names path) (taken (get s.names path)) free)

      way : blocked s.names path ≡ None
      way = none_first (blocked s.names path) (taken (get s.names path)) free

      not_root : (q : Path) → get s.names q ≡ None → is_root q ≡ false
      not_root [] e = absurd (cc (e, root))
      not_root (x ∷ q) e = refl

      device : device_of (apply s (NewDir path (device_of s (parent path)))) dir ≡ unwrap_or (cond (same_path dir path) (Some (device_of s (parent path))) (get s.devices dir)) 0
      device = ap (λ d. unwrap_or d 0) (get-insert path_total s.devices path (device_of s (parent path)) dir)

      by : (b : Bool) → same_path dir path ≡ b → Old (apply s (NewDir path (device_of s (parent path)))) dir
      by true is =
          let same = same_path_true dir path is in
          inr (
            ap (get s.names) same ∙ none,
            ap (λ q. get s.names (parent q)) same ∙ parent_stands s.names path way (not_root path none),
            device ∙ ap (λ b. unwrap_or (cond b (Some (device_of s (parent path))) (get s.devices dir)) 0) is ∙ ap (λ q. device_of s (parent q)) (sym same),
          )
      by false is =
          inl (
            ap (λ b. cond b (Some Dir) (get s.names dir)) (sym is) ∙ sym (get-set_name s.names path (Some Dir) dir) ∙ there,
            device ∙ ap (λ b. unwrap_or (cond b (Some (device_of s (parent path))) (get s.devices dir)) 0) is,
          )

  module _ (root : get s.names [] ≡ Some Dir) (dir : Path) where
    does : (call : Call) (effect : Effect) → KeepsDirs call → refusal s call ≡ None → Does s call effect → get (apply s effect).names dir ≡ Some Dir → Old (apply s effect) dir
    does (Stats path) effect keeps free is = at_effect dir effect Nothing is (still dir)
    does (Lists path) effect keeps free is = at_effect dir effect Nothing is (still dir)
    does (ReadsAt path) effect keeps free is = at_effect dir effect Nothing is (still dir)
    does (ReadsLink path) effect keeps free is = at_effect dir effect Nothing is (still dir)
    does (Creates path) effect keeps free (inode, none, is) = at_effect dir effect _ is (λ there. inl (other_node dir path (Some (File inode)) s.names (no_dir_file inode) there, refl))
    does (WritesAt path from bytes) effect keeps free (inode, named, is) = at_effect dir effect _ is (λ there. inl (there, refl))
    does (MakesDir path) effect keeps free is = at_effect dir effect _ is (λ there. made_dir dir path free there root)
    does (MakesSymlink path target) effect keeps free is = at_effect dir effect _ is (λ there. inl (other_node dir path (Some (Sym target)) s.names (no_dir_link target) there, refl))
    does (Links from to) effect keeps free (inode, named, is) = at_effect dir effect _ is (λ there. inl (other_node dir to (Some (File inode)) s.names (no_dir_file inode) there, refl))
    does (Renames from to) effect keeps free (inode, named, is) =
        at_effect dir effect _ is (λ there. inl (other_node dir from None s.names (no_dir_none None refl) (other_node dir to (Some (File inode)) (set_name s.names from None) (no_dir_file inode) there), refl))
    does (Unlinks path) effect keeps free is = at_effect dir effect _ is (λ there. inl (other_node dir path None s.names (no_dir_none None refl) there, refl))
    does (RemovesDir path) effect keeps free is = absurd keeps
    does (SyncsFile path) effect keeps free (inode, named, is) = at_effect dir effect _ is (λ there. inl (there, refl))
    does (SyncsDir path) effect keeps free is = at_effect dir effect _ is (λ there. inl (there, refl))

    fails : (call : Call) (effect : Effect) → KeepsDirs call → refusal s call ≡ None → MayFail s call effect → get (apply s effect).names dir ≡ Some Dir → Old (apply s effect) dir
    fails (WritesAt path from bytes) effect keeps free (inode, any, named, are_bytes, is) = at_effect dir effect _ is (λ there. inl (there, refl))
    fails call effect keeps free may = elim may [ inl nothing ↦ at_effect dir effect Nothing nothing (still dir) | inr is ↦ does call effect keeps free is ]

    failed : (call : Call) (effect : Effect) (found : Option FsError) → refusal s call ≡ found → KeepsDirs call → MatchOption found (MayFail s call effect) (λ _. effect ≡ Nothing) → get (apply s effect).names dir ≡ Some Dir → Old (apply s effect) dir
    failed call effect None free keeps may = fails call effect keeps free may
    failed call effect (Some error) free keeps may = at_effect dir effect Nothing may (still dir)

    answered : (call : Call) (answer : Option FsError) (effect : Effect) → KeepsDirs call → MayDo s call answer effect → get (apply s effect).names dir ≡ Some Dir → Old (apply s effect) dir
    answered call None effect keeps may = does call effect keeps may.0 may.1
    answered call (Some Failed) effect keeps may = failed call effect (refusal s call) refl keeps may
    answered call (Some error) effect keeps may = at_effect dir effect Nothing may.1 (still dir)

-- a directory of the state stays one
stays_dir : (s : FsState) (call : Call) (answer : Option FsError) (effect : Effect) → KeepsDirectories s call → MayDo s call answer effect → (dir : Path) → get s.names dir ≡ Some Dir → get (apply s effect).names dir ≡ Some Dir
stays_dir s call None effect allowed may dir there =
    let before : Trail = record { present = s; past = [] } in
    (dir_stays before (grown before (apply s effect)) dir (goes_one KeepsDirectories call None before (grown before (apply s effect)) allowed (effect, may, refl)) there).present
stays_dir s call (Some Failed) effect allowed may dir there =
    let before : Trail = record { present = s; past = [] } in
    (dir_stays before (grown before (apply s effect)) dir (goes_one KeepsDirectories call (Some Failed) before (grown before (apply s effect)) allowed (effect, may, refl)) there).present
stays_dir s call (Some error) effect allowed may dir there = subst (λ e. get (apply s e).names dir ≡ Some Dir) (sym may.1) there

-- ---- runs

step : (start s : FsState) (call : Call) (answer : Option FsError) (effect : Effect) → WellFormed start → KeepsDevices start s → KeepsDirectories s call → MayDo s call answer effect → KeepsDevices start (apply s effect)
step start s call answer effect well kept allowed may = record {
  dirs = λ dir there. stays_dir s call answer effect allowed may dir (kept.dirs dir there);
  devices = λ dir near there nearest. by dir near nearest (answered s (kept.dirs [] well.root) dir call answer effect allowed may there);
}
  where
    by : (dir near : Path) → IsNearestDir start.names dir near → Old s (apply s effect) dir → device_of (apply s effect) dir ≡ device_of start near
    by dir near nearest (inl (there, same)) = same ∙ kept.devices dir near there nearest
    by dir near nearest (inr (absent, above, same)) =
        let other : near ≢ dir = λ is. (let there : get s.names dir ≡ Some Dir = ap (get s.names) (sym is) ∙ kept.dirs near nearest.stands in cc (there, absent)) in
        same ∙ kept.devices (parent dir) near above (record {
          on_way = under_parent near dir nearest.on_way other;
          stands = nearest.stands;
          nearest = λ another under stands. nearest.nearest another (under_whole another dir under) stands;
        })

pub run_keeps : (start : FsState) (a b : Trail) → WellFormed start → KeepsDevices start a.present → Goes KeepsDirectories a b → Since (KeepsDevices start) a b
run_keeps start a b well kept goes = goes_since KeepsDirectories (KeepsDevices start) (λ s call answer effect here allowed may. step start s call answer effect well here allowed may) kept goes

-- each directory of the start is the nearest of itself
pub start_keeps : (s : FsState) → KeepsDevices s s
start_keeps s = record {
  dirs = λ dir there. there;
  devices = λ dir near there nearest. ap (device_of s) (sym (same_under near dir nearest.on_way (nearest.nearest dir ([], sym (append-nil dir)) there)));
}
