-- The names of the start with the control file renamed.
use Rattle.std.proofs.Common.{◌≡◌, ◌≢◌, ℕ, Bool, true, false, cond, [], ◌∷◌, ◌++◌, length, Option, Some, None, refl, sym, ◌∙◌, ap, arith, append_assoc}
use Rattle.std.specs.Prelude.{is_some, not, ◌||◌}
use Rattle.std.specs.Ordering.{is_eq}
use Rattle.std.specs.Cmp.{tied_itself}
use Rattle.std.specs.FinMap.{get}
use Rattle.fs_model.specs.declared.node.Node.{Node}
use Rattle.fs_model.specs.declared.node.Node.TheVariants.{Dir, File, Sym}
use Rattle.fs_model.specs.declared.error.FsError.TheVariants.{CrossDir}
use Rattle.fs_model.specs.Names.{Path, parent, same_path}
use Rattle.fs_model.specs.PathLaws.{path_total, same_path_true}
use Rattle.fs_model.specs.State.{Names, Change, FsState}
use Rattle.fs_model.specs.Effects.{changed, set_name}
use Rattle.fs_model.specs.Calls.{Renames, refusal, blocked, blocked_from, or_else, no_file, taken, refuse_if, crosses, is_root, no_dir}
use Rattle.fs_model.specs.WellFormed.{IsTree}
use Rattle.fs_model.proofs.Lookups.{get-set_name, same_path_or, set_name_here, set_name_other}
use Rattle.fs_model.proofs.Ways.{none_first, none_second, no_dir_none}
use Rattle.crash_safety.specs.Upgrade.{Upgrade, names_of, CanDisable}

-- where two maps agree, they agree after a change
pub changed_alike : (a b : Names) (change : Change) (q : Path) → get a q ≡ get b q → get (changed a change) q ≡ get (changed b change) q
changed_alike a b [] q e = e
changed_alike a b (pair ∷ pairs) q e =
    changed_alike (set_name a pair.0 pair.1) (set_name b pair.0 pair.1) pairs q
    (get-set_name a pair.0 pair.1 q ∙ ap (cond (same_path q pair.0) pair.1) e ∙ sym (get-set_name b pair.0 pair.1 q))

again : {A : Type 0} (a b : Bool) (x y z : A) → cond a x (cond b y (cond a x (cond b y z))) ≡ cond a x (cond b y z)
again true b x y z = refl
again false true x y z = refl
again false false x y z = refl

-- a change of two names, once or twice
pub get_two : (names : Names) (p r : Path) (node next : Option Node) (q : Path) → get (changed names ((p, node) ∷ (r, next) ∷ [])) q ≡ cond (same_path q r) next (cond (same_path q p) node (get names q))
get_two names p r node next q = get-set_name (set_name names p node) r next q ∙ ap (cond (same_path q r) next) (get-set_name names p node q)

pub changed_twice : (names : Names) (p r : Path) (node next : Option Node) (q : Path) → get (changed (changed names ((p, node) ∷ (r, next) ∷ [])) ((p, node) ∷ (r, next) ∷ [])) q ≡ get (changed names ((p, node) ∷ (r, next) ∷ [])) q
changed_twice names p r node next q =
    let once = changed names ((p, node) ∷ (r, next) ∷ []) in
    get_two once p r node next q ∙ ap (λ o. cond (same_path q r) next (cond (same_path q p) node o)) (get_two names p r node next q)
    ∙ again (same_path q r) (same_path q p) next node (get names q) ∙ sym (get_two names p r node next q)

-- What a rename that isn't refused says of the state.
pub record MayRename (s : FsState) (from to : Path) : Type 0 where
  pub way : blocked s.names from ≡ None
  pub way_to : blocked s.names to ≡ None
  pub below_root : is_root from ≡ false
  pub below_root_to : is_root to ≡ false
  pub together : parent from ≡ parent to
  pub file : no_file (get s.names from) ≡ None
  pub free : get s.names to ≡ None

none_crosses : (test : Bool) → refuse_if test CrossDir ≡ None → test ≡ false
none_crosses true e = absurd (cc e)
none_crosses false e = refl

pub none_taken : (node : Option Node) → taken node ≡ None → node ≡ None
none_taken None e = refl
none_taken (Some node) e = absurd (cc e)

one_directory : (a b c : Bool) → (a || (b || not c)) ≡ false → (a ≡ false) × (b ≡ false) × (c ≡ true)
one_directory true b c e = absurd (cc e)
one_directory false true c e = absurd (cc e)
one_directory false false true e = (refl, refl, refl)
one_directory false false false e = absurd (cc e)

pub may_rename : (s : FsState) (from to : Path) → refusal s (Renames from to) ≡ None → MayRename s from to
may_rename s from to free =
    let ends = or_else (no_file (get s.names from)) (taken (get s.names to)) in
    let rest = or_else (refuse_if (crosses from to) CrossDir) ends in
    let behind : or_else (blocked s.names to) rest ≡ None = none_second (blocked s.names from) (or_else (blocked s.names to) rest) free in
    let both : rest ≡ None = none_second (blocked s.names to) rest behind in
    let last : ends ≡ None = none_second (refuse_if (crosses from to) CrossDir) ends both in
    let here = one_directory (is_root from) (is_root to) (same_path (parent from) (parent to)) (none_crosses (crosses from to) (none_first (refuse_if (crosses from to) CrossDir) ends both)) in
    record {
      way = none_first (blocked s.names from) (or_else (blocked s.names to) rest) free;
      way_to = none_first (blocked s.names to) rest behind;
      below_root = here.0;
      below_root_to = here.1;
      together = same_path_true (parent from) (parent to) here.2;
      file = none_first (no_file (get s.names from)) (taken (get s.names to)) last;
      free = none_taken (get s.names to) (none_second (no_file (get s.names from)) (taken (get s.names to)) last);
    }

pub file_there : (node : Option Node) → no_file node ≡ None → (inode : ℕ) × (node ≡ Some (File inode))
file_there None e = absurd (cc e)
file_there (Some Dir) e = absurd (cc e)
file_there (Some (File inode)) e = (inode, refl)
file_there (Some (Sym target)) e = absurd (cc e)

append-nil : (p : Path) → p ++ [] ≡ p
append-nil [] = refl
append-nil (n ∷ p) = ap (λ rest. n ∷ rest) (append-nil p)

-- where the proper prefixes of a path are alike, so is its way
pub blocked_same : (m n : Names) (done rest : Path) → ((front back : Path) → rest ≡ front ++ back → 0 ≢ length back → get m (done ++ front) ≡ get n (done ++ front)) → blocked_from m done rest ≡ blocked_from n done rest
blocked_same m n done [] alike = refl
blocked_same m n done (name ∷ rest) alike =
    (λ i. or_else (no_dir ((ap (get m) (sym (append-nil done)) ∙ alike [] (name ∷ rest) refl (λ z. absurd (omega arith)) ∙ ap (get n) (append-nil done)) i)) (blocked_from m (done ++ name ∷ []) rest))
    ∙ ap (or_else (no_dir (get n done))) (blocked_same m n (done ++ name ∷ []) rest
    (λ front back whole filled. ap (get m) (append_assoc done (name ∷ []) front) ∙ alike (name ∷ front) back (ap (λ l. name ∷ l) whole) filled ∙ ap (get n) (sym (append_assoc done (name ∷ []) front))))

-- each proper prefix of a free way is a directory
pub dir_on_way : (names : Names) (done whole front back : Path) → whole ≡ front ++ back → 0 ≢ length back → blocked_from names done whole ≡ None → get names (done ++ front) ≡ Some Dir
dir_on_way names done whole [] [] is filled free = absurd (filled refl)
dir_on_way names done whole [] (name ∷ back) is filled free =
    ap (get names) (append-nil done)
    ∙ no_dir_none (get names done) (none_first (no_dir (get names done)) (blocked_from names (done ++ name ∷ []) back) (ap (blocked_from names done) (sym is) ∙ free))
dir_on_way names done whole (name ∷ front) back is filled free =
    ap (get names) (sym (append_assoc done (name ∷ []) front))
    ∙ dir_on_way names (done ++ name ∷ []) (front ++ back) front back refl filled
    (none_second (no_dir (get names done)) (blocked_from names (done ++ name ∷ []) (front ++ back)) (ap (blocked_from names done) (sym is) ∙ free))

module _ (u : Upgrade) (can : CanDisable u) where
  pub control_file : (inode : ℕ) × (get u.start.names u.control ≡ Some (File inode))
  control_file = file_there (get u.start.names u.control) (may_rename u.start u.control u.renamed can.free).file

  pub names_differ : u.control ≢ u.renamed
  names_differ same =
      let there : get u.start.names u.control ≡ None = ap (get u.start.names) same ∙ (may_rename u.start u.control u.renamed can.free).free in
      let found = control_file.1 in
      cc (there, found)

  -- after the rename the control file is gone, and stands under its other name
  pub control_gone : get (names_of u true) u.control ≡ None
  control_gone =
      get_two u.start.names u.control u.renamed None (get u.start.names u.control) u.control
      ∙ same_path_or u.control u.renamed (λ b. cond b (get u.start.names u.control) (cond (same_path u.control u.control) None (get u.start.names u.control)) ≡ None)
      (λ e. absurd (names_differ e))
      (ap (λ r. cond (is_eq r) None (get u.start.names u.control)) (tied_itself path_total u.control))

  pub renamed_there : get (names_of u true) u.renamed ≡ get u.start.names u.control
  renamed_there = set_name_here (set_name u.start.names u.control None) u.renamed (get u.start.names u.control)

  -- a way that was free is free after the rename
  still_free : (q : Path) → blocked u.start.names q ≡ None → blocked (names_of u true) q ≡ None
  still_free q free =
      blocked_same (names_of u true) u.start.names [] q
      (λ front back whole filled.
      let dir : get u.start.names front ≡ Some Dir = dir_on_way u.start.names [] q front back whole filled free in
      let may = may_rename u.start u.control u.renamed can.free in
      let not_renamed : front ≢ u.renamed = λ same. (let there : get u.start.names front ≡ None = ap (get u.start.names) same ∙ may.free in cc (there, dir)) in
      let not_control : front ≢ u.control = λ same. (let there : get u.start.names front ≡ Some (File control_file.0) = ap (get u.start.names) same ∙ control_file.1 in cc (there, dir)) in
      set_name_other (set_name u.start.names u.control None) u.renamed (get u.start.names u.control) front not_renamed ∙ set_name_other u.start.names u.control None front not_control)
      ∙ free

  pub moved_tree : IsTree u.start.names → IsTree (names_of u true)
  moved_tree tree q stands =
      let may = may_rename u.start u.control u.renamed can.free in
      still_free q
      (same_path_or q u.renamed (λ b. is_some (cond b (get u.start.names u.control) (cond (same_path q u.control) None (get u.start.names q))) ≡ true → blocked u.start.names q ≡ None)
      (λ same _. ap (blocked u.start.names) same ∙ may.way_to)
      (was_there (same_path q u.control) (get u.start.names q) (tree q))
      (ap is_some (sym (get_two u.start.names u.control u.renamed None (get u.start.names u.control) q)) ∙ stands))
    where
      was_there : (b : Bool) (node : Option Node) {P : Type 0} → (is_some node ≡ true → P) → is_some (cond b None node) ≡ true → P
      was_there true found gives e = absurd (cc e)
      was_there false found gives e = gives e
