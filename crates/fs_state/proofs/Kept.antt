-- Every call keeps a state well-formed.
use Rattle.std.proofs.Common.{◌≡◌, ◌≢◌, ◌⊎◌, ℕ, Bool, true, false, cond, not, ⊎_elim, List, [], ◌∷◌, Option, Some, None, refl, sym, ◌∙◌, ap, subst}
use Rattle.std.specs.Prelude.{is_some, ◌||◌, MatchOption}
use Rattle.std.specs.List.{AllByRecursion, filter}
use Rattle.std.specs.Ordering.{nat_cmp, eq_by_cmp}
use Rattle.std.specs.Cmp.{nat_cmp_total, eq_by_cmp_equiv}
use Rattle.std.specs.FinMap as map
use Rattle.fs_model.specs.declared.node.Node.{Node}
use Rattle.fs_model.specs.declared.node.Node.TheVariants.{Dir, File, Sym}
use Rattle.fs_model.specs.declared.effect.Effect.{Effect}
use Rattle.fs_model.specs.declared.effect.Effect.TheVariants.{Nothing, KeepBytes, KeepNames}
use Rattle.fs_model.specs.declared.error.FsError.{FsError}
use Rattle.fs_model.specs.declared.error.FsError.TheVariants.{Failed, NotEmpty, CrossDir}
use Rattle.fs_model.specs.Names.{Path, same_path, parent}
use Rattle.fs_model.specs.PathLaws.{path_total, same_path_refl, same_path_true}
use Rattle.fs_model.specs.State.{Contents, Change, Devices, FsState}
use Rattle.fs_model.specs.Effects.{apply, set_name, changed, with_change, with_bytes, is_in, bytes_of}
use Rattle.fs_model.specs.Calls.{Call, Stats, Lists, ReadsAt, ReadsLink, Creates, WritesAt, MakesDir, MakesSymlink, Links, Renames, Unlinks, RemovesDir, SyncsFile, SyncsDir, refuse_if, no_dir, no_file, no_leaf, taken, blocked, crosses, is_root, has_child, device_of, refusal, Does, MayFail, MayDo}
use Rattle.fs_model.specs.WellFormed.{EachPair, IsTree, IsKnown, IsBelowRoot, IsOfOneDir, WellFormed}
use Rattle.fs_state.proofs.Preserved.{each_changed, each_all_changed, all_filter, all_push, all_map, root_changed, root_all_changed, more_known, get_set_other, same_cases}
use Rattle.fs_state.proofs.Ways.{or_else_none, taken_none, tree_set, tree_without, way_stays}

-- a map with a key more
pub still : {X : Type 0} (m : map.FinMap nat_cmp X) (k : ℕ) (v : X) (q : ℕ) → is_some (map.get m q) ≡ true → is_some (map.get (map.insert m k v) q) ≡ true
still m k v q stands =
    ap is_some (map.get-insert nat_cmp_total m k v q) ∙ elim (eq_by_cmp nat_cmp q k) as (λ b. is_some (cond b (Some v) (map.get m q)) ≡ true) [ true ↦ refl | false ↦ stands ]

pub still_device : (devices : Devices) (path : Path) (device : ℕ) (dir : Path) → is_some (map.get devices dir) ≡ true → is_some (map.get (map.insert devices path device) dir) ≡ true
still_device devices path device dir stands =
    ap is_some (map.get-insert path_total devices path device dir) ∙ elim (same_path dir path) as (λ b. is_some (cond b (Some device) (map.get devices dir)) ≡ true) [ true ↦ refl | false ↦ stands ]

same_inode : (k : ℕ) → eq_by_cmp nat_cmp k k ≡ true
same_inode k = (eq_by_cmp_equiv nat_cmp_total).refl k

pub inserted_there : {X : Type 0} (m : map.FinMap nat_cmp X) (k : ℕ) (v : X) → is_some (map.get (map.insert m k v) k) ≡ true
inserted_there m k v = ap is_some (map.get-insert nat_cmp_total m k v k ∙ ap (λ b. cond b (Some v) (map.get m k)) (same_inode k))

pub inserted_device : (devices : Devices) (path : Path) (device : ℕ) → is_some (map.get (map.insert devices path device) path) ≡ true
inserted_device devices path device = ap is_some (map.get-insert path_total devices path device path ∙ ap (λ b. cond b (Some device) (map.get devices path)) (same_path_refl path))

all_known : (s : FsState) (bytes : Contents) (devices : Devices)
    → ((inode : ℕ) → is_some (map.get s.bytes inode) ≡ true → is_some (map.get bytes inode) ≡ true)
    → ((dir : Path) → is_some (map.get s.devices dir) ≡ true → is_some (map.get devices dir) ≡ true)
    → AllByRecursion (EachPair (IsKnown s.bytes s.devices)) s.pending → AllByRecursion (EachPair (IsKnown bytes devices)) s.pending
all_known s bytes devices b d =
    all_map (EachPair (IsKnown s.bytes s.devices)) (EachPair (IsKnown bytes devices))
    (all_map (λ pair. IsKnown s.bytes s.devices pair.0 pair.1) (λ pair. IsKnown bytes devices pair.0 pair.1) (λ pair. more_known s.bytes bytes s.devices devices b d pair.0 pair.1))
    s.pending

wf_change : (s : FsState) → WellFormed s → (change : Change) → IsTree (changed s.names change) → EachPair (IsKnown s.bytes s.devices) change → EachPair IsBelowRoot change → IsOfOneDir change → WellFormed (with_change s change)
wf_change s w change tree known below one_dir = record {
  root = root_changed s.names change below ∙ w.root;
  root_kept = w.root_kept;
  tree = tree;
  names = each_changed (IsKnown s.bytes s.devices) s.names change w.names known;
  names_kept = w.names_kept;
  pending = all_push (EachPair (IsKnown s.bytes s.devices)) s.pending change w.pending known;
  pending_below = all_push (EachPair IsBelowRoot) s.pending change w.pending_below below;
  together = all_push IsOfOneDir s.pending change w.together one_dir;
  dirty = w.dirty;
  clean = w.clean;
}

wf_bytes : (s : FsState) → WellFormed s → (inode : ℕ) (bytes : List ℕ) → WellFormed (with_bytes s inode bytes)
wf_bytes s w inode bytes =
    let more = map.insert s.bytes inode bytes in
    let known = more_known s.bytes more s.devices s.devices (still s.bytes inode bytes) (λ dir h. h) in
    record {
      root = w.root;
      root_kept = w.root_kept;
      tree = w.tree;
      names = λ path. known path (map.get s.names path) (w.names path);
      names_kept = λ path. known path (map.get s.names_kept path) (w.names_kept path);
      pending = all_known s more s.devices (still s.bytes inode bytes) (λ dir h. h) w.pending;
      pending_below = w.pending_below;
      together = w.together;
      dirty = λ q is_dirty. ap is_some (map.get-insert nat_cmp_total s.bytes inode bytes q)
          ∙ elim (eq_by_cmp nat_cmp q inode) as (λ b. is_some (cond b (Some tt) (map.get s.dirty q)) ≡ true → is_some (cond b (Some bytes) (map.get s.bytes q)) ≡ true) [ true ↦ λ _. refl | false ↦ w.dirty q ]
          (ap is_some (sym (map.get-insert nat_cmp_total s.dirty inode tt q)) ∙ is_dirty);
      clean = λ q is_clean stands. elim (eq_by_cmp nat_cmp q inode) as (λ b. is_some (cond b (Some tt) (map.get s.dirty q)) ≡ false → is_some (cond b (Some bytes) (map.get s.bytes q)) ≡ true → is_some (map.get s.bytes_kept q) ≡ true) [ true ↦ λ h _. (let t : true ≡ false = h in cc) | false ↦ w.clean q ]
          (ap is_some (sym (map.get-insert nat_cmp_total s.dirty inode tt q)) ∙ is_clean)
          (ap is_some (sym (map.get-insert nat_cmp_total s.bytes inode bytes q)) ∙ stands);
    }

wf_device : (s : FsState) → WellFormed s → (path : Path) (device : ℕ) → WellFormed (record s { devices = map.insert s.devices path device })
wf_device s w path device =
    let more = map.insert s.devices path device in
    let known = more_known s.bytes s.bytes s.devices more (λ inode h. h) (still_device s.devices path device) in
    record {
      root = w.root;
      root_kept = w.root_kept;
      tree = w.tree;
      names = λ path. known path (map.get s.names path) (w.names path);
      names_kept = λ path. known path (map.get s.names_kept path) (w.names_kept path);
      pending = all_known s s.bytes more (λ inode h. h) (still_device s.devices path device) w.pending;
      pending_below = w.pending_below;
      together = w.together;
      dirty = w.dirty;
      clean = w.clean;
    }

wf_keep_bytes : (s : FsState) → WellFormed s → (inode : ℕ) → WellFormed (apply s (KeepBytes inode))
wf_keep_bytes s w inode = record {
  root = w.root;
  root_kept = w.root_kept;
  tree = w.tree;
  names = w.names;
  names_kept = w.names_kept;
  pending = w.pending;
  pending_below = w.pending_below;
  together = w.together;
  dirty = λ q is_dirty. elim (eq_by_cmp nat_cmp q inode) as (λ b. is_some (cond b None (map.get s.dirty q)) ≡ true → is_some (map.get s.bytes q) ≡ true) [ true ↦ λ h. (let f : false ≡ true = h in cc) | false ↦ w.dirty q ]
      (ap is_some (sym (map.get-remove nat_cmp_total s.dirty inode q)) ∙ is_dirty);
  clean = λ q is_clean stands. ap is_some (map.get-insert nat_cmp_total s.bytes_kept inode (bytes_of s.bytes inode) q)
      ∙ elim (eq_by_cmp nat_cmp q inode) as (λ b. is_some (cond b None (map.get s.dirty q)) ≡ false → is_some (cond b (Some (bytes_of s.bytes inode)) (map.get s.bytes_kept q)) ≡ true) [ true ↦ λ _. refl | false ↦ λ h. w.clean q h stands ]
      (ap is_some (sym (map.get-remove nat_cmp_total s.dirty inode q)) ∙ is_clean);
}

wf_keep_names : (s : FsState) → WellFormed s → (dir : Path) → WellFormed (apply s (KeepNames dir))
wf_keep_names s w dir =
    let here = filter (is_in dir) s.pending in
    let known = all_filter (EachPair (IsKnown s.bytes s.devices)) (is_in dir) s.pending w.pending in
    let below = all_filter (EachPair IsBelowRoot) (is_in dir) s.pending w.pending_below in
    record {
      root = w.root;
      root_kept = root_all_changed s.names_kept here below ∙ w.root_kept;
      tree = w.tree;
      names = w.names;
      names_kept = each_all_changed (IsKnown s.bytes s.devices) s.names_kept here w.names_kept known;
      pending = all_filter (EachPair (IsKnown s.bytes s.devices)) (λ change. not (is_in dir change)) s.pending w.pending;
      pending_below = all_filter (EachPair IsBelowRoot) (λ change. not (is_in dir change)) s.pending w.pending_below;
      together = all_filter IsOfOneDir (λ change. not (is_in dir change)) s.pending w.together;
      dirty = w.dirty;
      clean = w.clean;
    }

-- what is no directory is not the root
below_root : (s : FsState) → WellFormed s → (path : Path) → (no_dir (map.get s.names path) ≡ None → ⊥) → path ≢ []
below_root s w path never root = never (ap (λ p. no_dir (map.get s.names p)) root ∙ ap no_dir w.root)

never_free : (node : Option Node) → node ≡ None → no_dir node ≡ None → ⊥
never_free None free h = cc
never_free (Some node) free h = cc

never_leaf : (node : Option Node) → no_leaf node ≡ None → no_dir node ≡ None → ⊥
never_leaf None leaf h = cc
never_leaf (Some Dir) leaf h = cc
never_leaf (Some (File inode)) leaf h = cc
never_leaf (Some (Sym target)) leaf h = cc

never_file : (at : Option Node) (inode : ℕ) → at ≡ Some (File inode) → no_dir at ≡ None → ⊥
never_file at inode file h = let t : no_dir (Some (File inode)) ≡ None = ap no_dir (sym file) ∙ h in cc

file_known : (s : FsState) → WellFormed s → (path : Path) (inode : ℕ) → map.get s.names path ≡ Some (File inode) → is_some (map.get s.bytes inode) ≡ true
file_known s w path inode file = subst (IsKnown s.bytes s.devices path) file (w.names path)

not_true : (a b : Bool) → a || b ≡ false → (a ≡ false) × (b ≡ false)
not_true true b h = cc
not_true false b h = (refl, h)

not_refused : (test : Bool) (error : FsError) → refuse_if test error ≡ None → test ≡ false
not_refused true error h = cc
not_refused false error h = refl

not_root : (path : Path) → is_root path ≡ false → path ≢ []
not_root [] h e = cc
not_root (name ∷ names) h e = cc

-- one name is of one directory
alone : (path : Path) (at : Option Node) → IsOfOneDir ((path, at) ∷ [])
alone path at = (parent path, (refl, tt))

-- a new name at a free path
module _ (s : FsState) (w : WellFormed s) (path : Path) (node : Node) (free : map.get s.names path ≡ None) (is_open : blocked s.names path ≡ None) (known : IsKnown s.bytes s.devices path (Some node)) where
  wf_new : WellFormed (with_change s ((path, Some node) ∷ []))
  wf_new =
      let never = never_free (map.get s.names path) free in
      wf_change s w ((path, Some node) ∷ []) (tree_set s.names w.tree path (Some node) never is_open) (known, tt) (below_root s w path never, tt) (alone path (Some node))

-- a name less, of what is no directory
wf_less : (s : FsState) → WellFormed s → (path : Path) → (no_dir (map.get s.names path) ≡ None → ⊥) → blocked s.names path ≡ None → WellFormed (with_change s ((path, None) ∷ []))
wf_less s w path never is_open = wf_change s w ((path, None) ∷ []) (tree_set s.names w.tree path None never is_open) (tt, tt) (below_root s w path never, tt) (alone path None)

crosses_apart : (from to : Path) → crosses from to ≡ false → (from ≢ []) × (to ≢ [])
crosses_apart from to h =
    let first = not_true (is_root from) (is_root to || not (same_path (parent from) (parent to))) h in
    (not_root from first.0, not_root to (not_true (is_root to) (not (same_path (parent from) (parent to))) first.1).0)

not_false : (b : Bool) → not b ≡ false → b ≡ true
not_false true h = refl
not_false false h = cc

crosses_together : (from to : Path) → crosses from to ≡ false → parent from ≡ parent to
crosses_together from to h =
    let first = not_true (is_root from) (is_root to || not (same_path (parent from) (parent to))) h in
    let rest = not_true (is_root to) (not (same_path (parent from) (parent to))) first.1 in
    same_path_true (parent from) (parent to) (not_false (same_path (parent from) (parent to)) rest.1)

-- a file's other name, in place of its first
module _ (s : FsState) (w : WellFormed s) (from to : Path) (inode : ℕ) (file : map.get s.names from ≡ Some (File inode)) (free : map.get s.names to ≡ None) where
  wf_renamed : blocked s.names from ≡ None → blocked s.names to ≡ None → from ≢ [] → to ≢ [] → parent from ≡ parent to → WellFormed (with_change s ((from, None) ∷ (to, Some (File inode)) ∷ []))
  wf_renamed from_open to_open from_below to_below one_dir =
      let left = set_name s.names from None in
      let never = never_file (map.get s.names from) inode file in
      let still_free : map.get left to ≡ None =
      ⊎_elim
      (λ same. let clash : None ≡ Some (File inode) = sym free ∙ ap (map.get s.names) same ∙ file in cc)
      (λ other. get_set_other s.names from None to other ∙ free)
      (same_cases to from) in
      let tree = tree_set s.names w.tree from None never from_open in
      wf_change s w ((from, None) ∷ (to, Some (File inode)) ∷ [])
      (tree_set left tree to (Some (File inode)) (never_free (map.get left to) still_free) (way_stays s.names from never to to_open))
      (tt, (file_known s w from inode file, tt))
      (from_below, (to_below, tt))
      (parent to, (one_dir, (refl, tt)))

-- what a call does that is not refused keeps a state well-formed
does_kept : (s : FsState) → WellFormed s → (call : Call) (effect : Effect) → refusal s call ≡ None → Does s call effect → WellFormed (apply s effect)
does_kept s w (Stats path) effect free does = subst (λ e. WellFormed (apply s e)) (sym does) w
does_kept s w (Lists path) effect free does = subst (λ e. WellFormed (apply s e)) (sym does) w
does_kept s w (ReadsAt path) effect free does = subst (λ e. WellFormed (apply s e)) (sym does) w
does_kept s w (ReadsLink path) effect free does = subst (λ e. WellFormed (apply s e)) (sym does) w
does_kept s w (Creates path) effect free does =
    let both = or_else_none (blocked s.names path) (taken (map.get s.names path)) free in
    let t = with_bytes s does.0 [] in
    subst (λ e. WellFormed (apply s e)) (sym does.2)
    (wf_new t (wf_bytes s w does.0 []) path (File does.0) (taken_none (map.get s.names path) both.1) both.0 (inserted_there s.bytes does.0 []))
does_kept s w (WritesAt path from bytes) effect free does = subst (λ e. WellFormed (apply s e)) (sym does.2) (wf_bytes s w does.0 _)
does_kept s w (MakesDir path) effect free does =
    let both = or_else_none (blocked s.names path) (taken (map.get s.names path)) free in
    let device = device_of s (parent path) in
    let t = record s { devices = map.insert s.devices path device } in
    subst (λ e. WellFormed (apply s e)) (sym does)
    (wf_new t (wf_device s w path device) path Dir (taken_none (map.get s.names path) both.1) both.0 (inserted_device s.devices path device))
does_kept s w (MakesSymlink path target) effect free does =
    let both = or_else_none (blocked s.names path) (taken (map.get s.names path)) free in
    subst (λ e. WellFormed (apply s e)) (sym does) (wf_new s w path (Sym target) (taken_none (map.get s.names path) both.1) both.0 tt)
does_kept s w (Links from to) effect free does =
    let ways = or_else_none (blocked s.names from) _ free in
    let rest = or_else_none (blocked s.names to) _ ways.1 in
    let kinds = or_else_none (no_file (map.get s.names from)) _ rest.1 in
    let last = or_else_none (taken (map.get s.names to)) _ kinds.1 in
    subst (λ e. WellFormed (apply s e)) (sym does.2)
    (wf_new s w to (File does.0) (taken_none (map.get s.names to) last.0) rest.0 (file_known s w from does.0 does.1))
does_kept s w (Renames from to) effect free does =
    let ways = or_else_none (blocked s.names from) _ free in
    let rest = or_else_none (blocked s.names to) _ ways.1 in
    let across = or_else_none (refuse_if (crosses from to) CrossDir) _ rest.1 in
    let last = or_else_none (no_file (map.get s.names from)) (taken (map.get s.names to)) across.1 in
    let within = not_refused (crosses from to) CrossDir across.0 in
    let apart = crosses_apart from to within in
    subst (λ e. WellFormed (apply s e)) (sym does.2)
    (wf_renamed s w from to does.0 does.1 (taken_none (map.get s.names to) last.1) ways.0 rest.0 apart.0 apart.1 (crosses_together from to within))
does_kept s w (Unlinks path) effect free does =
    let both = or_else_none (blocked s.names path) (no_leaf (map.get s.names path)) free in
    subst (λ e. WellFormed (apply s e)) (sym does) (wf_less s w path (never_leaf (map.get s.names path) both.1) both.0)
does_kept s w (RemovesDir path) effect free does =
    let way = or_else_none (blocked s.names path) _ free in
    let rest = or_else_none (no_dir (map.get s.names path)) _ way.1 in
    let neither = not_true (is_root path) (has_child s.names path) (not_refused (is_root path || has_child s.names path) NotEmpty rest.1) in
    subst (λ e. WellFormed (apply s e)) (sym does)
    (wf_change s w ((path, None) ∷ []) (tree_without s.names path neither.1 w.tree) (tt, tt) (not_root path neither.0, tt) (alone path None))
does_kept s w (SyncsFile path) effect free does = subst (λ e. WellFormed (apply s e)) (sym does.2) (wf_keep_bytes s w does.0)
does_kept s w (SyncsDir path) effect free does = subst (λ e. WellFormed (apply s e)) (sym does) (wf_keep_names s w path)

either_kept : (s : FsState) → WellFormed s → (call : Call) (effect : Effect) → refusal s call ≡ None → (effect ≡ Nothing) ⊎ Does s call effect → WellFormed (apply s effect)
either_kept s w call effect free may = ⊎_elim (λ e. subst (λ e. WellFormed (apply s e)) (sym e) w) (does_kept s w call effect free) may

fails_kept : (s : FsState) → WellFormed s → (call : Call) (effect : Effect) → refusal s call ≡ None → MayFail s call effect → WellFormed (apply s effect)
fails_kept s w (WritesAt path from bytes) effect free may = subst (λ e. WellFormed (apply s e)) (sym may.4) (wf_bytes s w may.0 may.1)
fails_kept s w call effect free may = either_kept s w call effect free may

nothing_kept : (s : FsState) → WellFormed s → (effect : Effect) → effect ≡ Nothing → WellFormed (apply s effect)
nothing_kept s w effect e = subst (λ e. WellFormed (apply s e)) (sym e) w

-- every call, whatever it answers, keeps a state well-formed
pub kept : (s : FsState) → WellFormed s → (call : Call) (answer : Option FsError) (effect : Effect) → MayDo s call answer effect → WellFormed (apply s effect)
kept s w call None effect may = does_kept s w call effect may.0 may.1
kept s w call (Some Failed) effect may =
    elim (refusal s call) as (λ r. refusal s call ≡ r → MatchOption r (MayFail s call effect) (λ _. effect ≡ Nothing) → WellFormed (apply s effect))
    [ None ↦ λ free. fails_kept s w call effect free | Some error ↦ λ _. nothing_kept s w effect ] refl may
kept s w call (Some error) effect may = nothing_kept s w effect may.1
