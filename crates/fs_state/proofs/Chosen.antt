-- What is picked is an image, and every image is picked.
use Rattle.std.proofs.Common.{◌≡◌, ℕ, Bool, true, false, cond, List, [], ◌∷◌, Option, Some, None, refl, sym, ◌∙◌, ap, subst}
use Rattle.std.specs.Prelude.{is_some, ◌||◌, IsSomeAnd}
use Rattle.std.specs.Option.{unwrap_or}
use Rattle.std.specs.List.{list_any, AllByRecursion}
use Rattle.std.specs.Ordering.{nat_cmp, eq_by_cmp, is_eq}
use Rattle.std.specs.declared.cmp.Ordering.{Ordering}
use Rattle.std.specs.declared.cmp.Ordering.TheVariants.{Less, Equal, Greater}
use Rattle.std.specs.Cmp.{nat_cmp_total, eq_by_cmp_equiv}
use Rattle.std.specs.FinMap.{IsAntisymmetric, FinMap, find, get, insert, remove, keys, retain_keys, contains_key, contains_key-keys, get-insert, get-remove, get-retain_keys, same_map, nat_cmp-IsAntisymmetric}
use Rattle.fs_model.specs.declared.node.Node.{Node}
use Rattle.fs_model.specs.Names.{Path, path_cmp, same_path}
use Rattle.fs_model.specs.PathLaws.{path_total, path_exact}
use Rattle.fs_model.specs.State.{Names, Contents, Change, FsState}
use Rattle.fs_model.specs.Effects.{all_changed, bytes_of}
use Rattle.fs_model.specs.Calls.{AreBytes}
use Rattle.fs_model.specs.Crash.{IsSubsequence, none, with, without, Image, reached}
use Rattle.fs_state.specs.Images.{Picked, chosen, left_bytes, without_failing, with_all, image_of}
use Rattle.fs_state.specs.Laws.{EveryImageHasAPick}

all_at : (P : ℕ → Type 0) (inodes : List ℕ) → AllByRecursion P inodes → (q : ℕ) → list_any (eq_by_cmp nat_cmp q) inodes ≡ true → P q
all_at P [] all q there = cc
all_at P (inode ∷ inodes) all q there =
    elim (nat_cmp q inode) as (λ r. nat_cmp q inode ≡ r → is_eq r || list_any (eq_by_cmp nat_cmp q) inodes ≡ true → P q)
    [ Less ↦ λ _ h. all_at P inodes all.1 q h | Equal ↦ λ e _. subst P (sym (nat_cmp-IsAntisymmetric q inode e)) all.0 | Greater ↦ λ _ h. all_at P inodes all.1 q h ] refl there

pub subsequence : (changes : List Change) (picks : List Bool) → IsSubsequence changes (chosen changes picks)
subsequence [] picks = none
subsequence (change ∷ changes) [] = without (subsequence changes [])
subsequence (change ∷ changes) (pick ∷ picks) =
    elim pick as (λ b. IsSubsequence (change ∷ changes) (cond b (change ∷ chosen changes picks) (chosen changes picks))) [ true ↦ with (subsequence changes picks) | false ↦ without (subsequence changes picks) ]

same_both : {A : Type 0} (b : Bool) (x : A) → cond b x x ≡ x
same_both true x = refl
same_both false x = refl

gone : (test more : Bool) (node : Option Node) → cond test (cond test node None) (cond more None (cond test node None)) ≡ cond test node None
gone true more _ = refl
gone false true _ = refl
gone false false _ = refl

other : (test passes more : Bool) (node : Option Node) → cond test (cond passes node node) (cond more None (cond passes node node)) ≡ cond test node (cond more None node)
other test true more _ = refl
other test false more _ = refl

none_left : (node : Option Node) → cond (is_some node) None node ≡ None
none_left None = refl
none_left (Some node) = refl

-- two keys are the same, or the test says no
same_or : {K : Type 0} (R : K → K → Ordering) → IsAntisymmetric R → (q p : K) (P : Bool → Type 0) → (q ≡ p → P true) → P false → P (eq_by_cmp R q p)
same_or R exact q p P here other =
    elim (R q p) as (λ r. R q p ≡ r → P (is_eq r)) [ Less ↦ λ _. other | Equal ↦ λ e. here (exact q p e) | Greater ↦ λ _. other ] refl

get_with_all : (bytes : ℕ → List ℕ) (contents : Contents) (inodes : List ℕ) (q : ℕ) → get (with_all bytes contents inodes) q ≡ cond (list_any (eq_by_cmp nat_cmp q) inodes) (Some (bytes q)) (get contents q)
get_with_all bytes contents [] q = refl
get_with_all bytes contents (inode ∷ inodes) q =
    let more = list_any (eq_by_cmp nat_cmp q) inodes in
    get_with_all bytes (insert contents inode (bytes inode)) inodes q
    ∙ ap (cond more (Some (bytes q))) (get-insert nat_cmp_total contents inode (bytes inode) q)
    ∙ same_or nat_cmp nat_cmp-IsAntisymmetric q inode (λ b. cond more (Some (bytes q)) (cond b (Some (bytes inode)) (get contents q)) ≡ cond (b || more) (Some (bytes q)) (get contents q))
    (λ e. ap (λ i. cond more (Some (bytes q)) (Some (bytes i))) (sym e) ∙ same_both more (Some (bytes q))) refl

get_without : (test : Path → Bool) (names : Names) (paths : List Path) (q : Path) → get (without_failing test names paths) q ≡ cond (test q) (get names q) (cond (list_any (same_path q) paths) None (get names q))
get_without test names [] q = sym (same_both (test q) (get names q))
get_without test names (p ∷ paths) q =
    let more = list_any (same_path q) paths in
    let rest = get_without test (cond (test p) names (remove names p)) paths q in
    let here : get (cond (test p) names (remove names p)) q ≡ cond (test p) (get names q) (cond (same_path q p) None (get names q)) =
    elim (test p) as (λ b. get (cond b names (remove names p)) q ≡ cond b (get names q) (cond (same_path q p) None (get names q))) [ true ↦ refl | false ↦ get-remove path_total names p q ] in
    rest ∙ ap (λ g. cond (test q) g (cond more None g)) here
    ∙ same_or path_cmp path_exact q p (λ b. cond (test q) (cond (test p) (get names q) (cond b None (get names q))) (cond more None (cond (test p) (get names q) (cond b None (get names q)))) ≡ cond (test q) (get names q) (cond (b || more) None (get names q)))
    (λ e. ap (λ x. cond (test q) (cond (test x) (get names q) None) (cond more None (cond (test x) (get names q) None))) (sym e) ∙ gone (test q) more (get names q))
    (other (test q) (test p) more (get names q))

pub retained : (test : Path → Bool) (names : Names) → without_failing test names (keys names) ≡ retain_keys names test
retained test names = same_map path_total path_exact (without_failing test names (keys names)) (retain_keys names test) (λ q.
    get_without test names (keys names) q
    ∙ ap (λ b. cond (test q) (get names q) (cond b None (get names q))) (sym (contains_key-keys names q))
    ∙ ap (λ g. cond (test q) (get names q) g) (none_left (get names q))
    ∙ sym (get-retain_keys names test q (λ x e. ap test (sym (path_exact q x e)))))

pub clean : (bytes : ℕ → List ℕ) (contents : Contents) (dirty : FinMap nat_cmp (Unit {0})) (q : ℕ) → contains_key dirty q ≡ false → get (with_all bytes contents (keys dirty)) q ≡ get contents q
clean bytes contents dirty q is_clean = get_with_all bytes contents (keys dirty) q ∙ ap (λ b. cond b (Some (bytes q)) (get contents q)) (sym (contains_key-keys dirty q) ∙ is_clean)

-- where an inode is not on the disk, it is left with the bytes that the test of all dirty inodes speaks of
pub torn : (P : List ℕ → Type 0) (bytes : ℕ → List ℕ) (contents : Contents) (dirty : FinMap nat_cmp (Unit {0})) → AllByRecursion (λ inode. P (bytes inode)) (keys dirty) → (q : ℕ) → contains_key dirty q ≡ true → IsSomeAnd (get (with_all bytes contents (keys dirty)) q) P
torn P bytes contents dirty all q is_dirty =
    let there = sym (contains_key-keys dirty q) ∙ is_dirty in
    subst (λ o. IsSomeAnd o P) (sym (get_with_all bytes contents (keys dirty) q ∙ ap (λ b. cond b (Some (bytes q)) (get contents q)) there)) (all_at (λ inode. P (bytes inode)) (keys dirty) all q there)

-- the picks that choose a subsequence
picks_of : {changes picked : List Change} → IsSubsequence changes picked → (picks : List Bool) × (chosen changes picks ≡ picked)
picks_of none = ([], refl)
picks_of (with {change = change} some) = let rest = picks_of some in (true ∷ rest.0, ap (λ cs. change ∷ cs) rest.1)
picks_of (without some) = let rest = picks_of some in (false ∷ rest.0, rest.1)

-- each inode with its bytes
abbrev named_of : (ℕ → List ℕ) → List ℕ → List (ℕ × List ℕ)
named_of bytes [] = []
named_of bytes (inode ∷ inodes) = (inode, bytes inode) ∷ named_of bytes inodes

find_named : (bytes : ℕ → List ℕ) (inodes : List ℕ) (q : ℕ) → list_any (eq_by_cmp nat_cmp q) inodes ≡ true → find nat_cmp q (named_of bytes inodes) ≡ Some (bytes q)
find_named bytes [] q there = cc
find_named bytes (inode ∷ inodes) q there =
    same_or nat_cmp nat_cmp-IsAntisymmetric q inode (λ b. b || list_any (eq_by_cmp nat_cmp q) inodes ≡ true → cond b (Some (bytes inode)) (find nat_cmp q (named_of bytes inodes)) ≡ Some (bytes q))
    (λ same _. ap (λ i. Some (bytes i)) (sym same)) (find_named bytes inodes q) there

-- the image that a pick names is one
pub is_image : (s : FsState) (pick : Picked) → AllByRecursion (λ inode. AreBytes (left_bytes s.bytes pick.bytes inode)) (keys s.dirty) → Image s (image_of s pick)
is_image s pick all = record {
  picked = chosen s.pending pick.changes;
  some = subsequence s.pending pick.changes;
  names = refl;
  clean = clean (left_bytes s.bytes pick.bytes) s.bytes_kept s.dirty;
  torn = torn AreBytes (left_bytes s.bytes pick.bytes) s.bytes_kept s.dirty all;
  names_kept = refl;
  bytes_kept = refl;
  nothing_pending = refl;
  nothing_dirty = refl;
  devices = refl;
}

some_bytes : (o : Option (List ℕ)) → IsSomeAnd o AreBytes → (o ≡ Some (unwrap_or o [])) × AreBytes (unwrap_or o [])
some_bytes None h = absurd h
some_bytes (Some bytes) h = (refl, h)

-- dirty inodes of an image are named with its bytes
module _ (s x : FsState) (image : Image s x) where
  abbrev its_bytes : ℕ → List ℕ
  its_bytes inode = bytes_of x.bytes inode

  abbrev its_names : List (ℕ × List ℕ)
  its_names = named_of its_bytes (keys s.dirty)

  same_contents : with_all (left_bytes s.bytes its_names) s.bytes_kept (keys s.dirty) ≡ x.bytes
  same_contents = same_map nat_cmp_total nat_cmp-IsAntisymmetric (with_all (left_bytes s.bytes its_names) s.bytes_kept (keys s.dirty)) x.bytes (λ q.
      elim (contains_key s.dirty q) as (λ b. contains_key s.dirty q ≡ b → get (with_all (left_bytes s.bytes its_names) s.bytes_kept (keys s.dirty)) q ≡ get x.bytes q) [
        | true ↦ λ is_dirty.
            (let there : list_any (eq_by_cmp nat_cmp q) (keys s.dirty) ≡ true = sym (contains_key-keys s.dirty q) ∙ is_dirty in
            get_with_all (left_bytes s.bytes its_names) s.bytes_kept (keys s.dirty) q ∙ ap (λ b. cond b (Some (left_bytes s.bytes its_names q)) (get s.bytes_kept q)) there
            ∙ ap (λ o. Some (unwrap_or o (bytes_of s.bytes q))) (find_named its_bytes (keys s.dirty) q there)
            ∙ sym (some_bytes (get x.bytes q) (image.torn q is_dirty)).0)
        | false ↦ λ is_clean. clean (left_bytes s.bytes its_names) s.bytes_kept s.dirty q is_clean ∙ sym (image.clean q is_clean)
      ] refl)

  named_bytes : (inodes : List ℕ) → AllByRecursion (λ inode. contains_key s.dirty inode ≡ true) inodes → AllByRecursion (λ item. AreBytes item.1) (named_of its_bytes inodes)
  named_bytes [] all = tt
  named_bytes (inode ∷ inodes) all = ((some_bytes (get x.bytes inode) (image.torn inode all.0)).1, named_bytes inodes all.1)

-- every inode of a list of keys is one
all_keys : (dirty : FinMap nat_cmp (Unit {0})) (inodes : List ℕ) → ((q : ℕ) → list_any (eq_by_cmp nat_cmp q) inodes ≡ true → contains_key dirty q ≡ true) → AllByRecursion (λ inode. contains_key dirty inode ≡ true) inodes
all_keys dirty [] each = tt
all_keys dirty (inode ∷ inodes) each =
    (each inode (ap (λ b. b || list_any (eq_by_cmp nat_cmp inode) inodes) ((eq_by_cmp_equiv nat_cmp_total).refl inode)), all_keys dirty inodes (λ q there. each q (either (eq_by_cmp nat_cmp q inode) (list_any (eq_by_cmp nat_cmp q) inodes) there)))
  where
    either : (a b : Bool) → b ≡ true → a || b ≡ true
    either true b h = refl
    either false b h = h

pub every_image : EveryImageHasAPick
every_image s x image =
    let picks = picks_of image.some in
    let pick : Picked = record { changes = picks.0; bytes = its_names s x image } in
    let names : reached (all_changed s.names_kept (chosen s.pending picks.0)) ≡ x.names = ap (λ cs. reached (all_changed s.names_kept cs)) picks.1 ∙ sym image.names in
    let bytes = same_contents s x image in
    let known = all_keys s.dirty (keys s.dirty) (λ q there. contains_key-keys s.dirty q ∙ there) in (
      pick,
      named_bytes s x image (keys s.dirty) known,
      λ i. record {
        names = names i;
        bytes = bytes i;
        names_kept = (names ∙ sym image.names_kept) i;
        bytes_kept = (bytes ∙ sym image.bytes_kept) i;
        pending = sym image.nothing_pending i;
        dirty = sym image.nothing_dirty i;
        devices = sym image.devices i;
      },
    )
