-- What is kept of the names of a walk.
use Rattle.std.proofs.Common.{◌≡◌, ◌++◌, ◌∙◌, inl, inr, ℕ, List, [], ◌∷◌, Option, Some, None, refl, sym, ap, subst, arith, append_assoc}
use Rattle.std.specs.Prelude.{is_some}
use Rattle.std.specs.Option.{unwrap_or}
use Rattle.std.specs.List.{AllByRecursion, flat_map}
use Rattle.std.specs.FinMap.{get}
use Rattle.fs_model.specs.declared.node.Node.{Node}
use Rattle.fs_model.specs.declared.node.Node.TheVariants.{Dir, File, Sym}
use Rattle.fs_model.specs.declared.node.Kind.{Kind}
use Rattle.fs_model.specs.declared.node.Kind.TheVariants.{Dir as DirKind, File as FileKind, Sym as SymKind}
use Rattle.fs_model.specs.declared.node.Stat.{Stat}
use Rattle.fs_model.specs.Names.{Path, IsUnder}
use Rattle.fs_model.specs.State.{FsState}
use Rattle.fs_model.specs.Calls.{blocked}
use Rattle.fs_model.specs.WellFormed.{IsTree}
use Rattle.fs_model.specs.Reading.{stat_of, stat_of_node}
use Rattle.fs_model.proofs.Runs.{all_append}
use Rattle.fs_tools.specs.Children.{child_of, IsIn}
use Rattle.fs_tools.specs.Walked.{IsAmong, IsNameUnder, IsWalk, TakesAll, dir_of, dir_of_kind, AreDirsUnder}
use Rattle.crash_safety.specs.Synced.{IsSynced}
use Rattle.fs_tools.specs.TreeSync.{IsCleanAt, IsQuiet, OnlySyncs}
use Rattle.fs_tools.proofs.Making.{append-nil}
use Rattle.fs_tools.proofs.Copying.{prefix_is_dir}
use Rattle.fs_tools.proofs.Naming.{among_all}
use Rattle.fs_tools.proofs.Walking.{among_left, among_right}
use Rattle.fs_tools.proofs.TreeSyncing.{clean_stays}

nil_right : {X : Type 0} (xs : List X) → xs ++ [] ≡ xs
nil_right [] = refl
nil_right (x ∷ xs) = ap (λ rest. x ∷ rest) (nil_right xs)

pub taken_all : {A X : Type 0} (kept : A → List X) (of : Path × Stat → List X) (a b : A) (items : List (Path × Stat)) → TakesAll (λ before at stat after. kept after ≡ kept before ++ of (at, stat)) a items b → kept b ≡ kept a ++ flat_map of items
taken_all kept of a b [] same = ap kept same ∙ sym (nil_right (kept a))
taken_all kept of a b (item ∷ items) (next, took, rest) =
    taken_all kept of next b items rest ∙ ap (λ front. front ++ flat_map of items) took ∙ append_assoc (kept a) (of item) (flat_map of items)

pub singles : (items : List (Path × Stat)) → flat_map (λ item. item ∷ []) items ≡ items
singles [] = refl
singles (item ∷ items) = ap (λ rest. item ∷ rest) (singles items)

-- a list that began with none has just these
pub listed : (before after items : List (Path × Stat)) → before ≡ [] → after ≡ before ++ flat_map (λ item. item ∷ []) items → after ≡ items
listed before after items none kept = kept ∙ ap (λ front. front ++ flat_map (λ item. item ∷ []) items) none ∙ singles items

dir_stands : (s : FsState) (path : Path) (stat : Stat) → stat_of s path ≡ Some stat → stat.kind ≡ DirKind → get s.names path ≡ Some Dir
dir_stands s path stat found is = of (get s.names path) refl found
  where
    kind_of : (other : Stat) → Some other ≡ Some stat → other.kind ≡ stat.kind
    kind_of other e = ap (λ (o : Option Stat). (unwrap_or o stat).kind) e

    of : (node : Option Node) → get s.names path ≡ node → stat_of_node s path node ≡ Some stat → get s.names path ≡ Some Dir
    of None same e = absurd (cc e)
    of (Some Dir) same e = same
    of (Some (File inode)) same e = absurd (let k = kind_of _ e in cc (k, is))
    of (Some (Sym target)) same e = absurd (let k = kind_of _ e in cc (k, is))

dirs_each : (s : FsState) (top : Path) (items : List (Path × Stat)) → AllByRecursion (IsNameUnder s top) items → AllByRecursion (λ dir. IsUnder top dir × (get s.names dir ≡ Some Dir)) (flat_map dir_of items)
dirs_each s top [] all = tt
dirs_each s top (item ∷ items) all = all_append (λ dir. IsUnder top dir × (get s.names dir ≡ Some Dir)) (dir_of item) (flat_map dir_of items) (one item.1.kind refl) (dirs_each s top items all.1)
  where
    one : (kind : Kind) → item.1.kind ≡ kind → AllByRecursion (λ dir. IsUnder top dir × (get s.names dir ≡ Some Dir)) (dir_of_kind kind item.0)
    one DirKind is = ((all.0.0, dir_stands s item.0 item.1 all.0.1 is), tt)
    one FileKind is = tt
    one SymKind is = tt

among_dirs : (items : List (Path × Stat)) (path : Path) (stat : Stat) → stat.kind ≡ DirKind → IsAmong items (path, stat) → IsAmong (flat_map dir_of items) path
among_dirs [] path stat is none = absurd none
among_dirs (item ∷ items) path stat is (inl same) =
    among_left (dir_of item) (flat_map dir_of items) path (subst (λ it. IsAmong (dir_of it) path) (sym same) (subst (λ kind. IsAmong (dir_of_kind kind path) path) (sym is) (inl refl)))
among_dirs (item ∷ items) path stat is (inr among) = among_right (dir_of item) (flat_map dir_of items) path (among_dirs items path stat is among)

pub walk_dirs : (s : FsState) (top : Path) (items : List (Path × Stat)) → IsWalk s top items → AreDirsUnder s top (flat_map dir_of items)
walk_dirs s top items walk = record {
  each = dirs_each s top items walk.each;
  whole = λ path under is. among_dirs items path _ refl (walk.whole path _ under (ap (stat_of_node s path) is));
}

-- the last name of some
last_view : (name : List ℕ) (rest : Path) → (front : Path) × (last : List ℕ) × (name ∷ rest ≡ front ++ last ∷ [])
last_view name [] = ([], name, refl)
last_view name (next ∷ rest) =
    let (front, last, is) = last_view next rest in
    (name ∷ front, last, ap (λ l. name ∷ l) is)

-- where the files of each directory are clean, so are all
pub all_clean : (s t : FsState) (top : Path) (dirs : List Path) → IsTree s.names → AreDirsUnder s top dirs → t.names ≡ s.names → IsCleanAt top t → AllByRecursion (λ dir. (path : Path) → IsIn dir path → IsCleanAt path t) dirs
    → (path rest : Path) → path ≡ top ++ rest → IsCleanAt path t
all_clean s t top dirs tree under same here clean path [] is inode named = subst (λ p. IsCleanAt p t) (sym (is ∙ append-nil top)) here inode named
all_clean s t top dirs tree under same here clean path (name ∷ rest) is inode named =
    let (front, last, whole) = last_view name rest in
    let dir = top ++ front in
    let child : path ≡ child_of dir last = is ∙ ap (λ r. top ++ r) whole ∙ sym (append_assoc top front (last ∷ [])) in
    let there : get s.names path ≡ Some (File inode) = ap (λ m. get m path) (sym same) ∙ named in
    let stands : get s.names dir ≡ Some Dir = prefix_is_dir s.names dir (last ∷ []) (λ z. absurd (omega arith)) (ap (blocked s.names) (sym child) ∙ tree path (ap is_some there)) in
    among_all (λ d. (p : Path) → IsIn d p → IsCleanAt p t) dirs clean dir (under.whole dir (front, refl) stands) path (last, child) inode named

-- after the files and then the directories, the tree is on the disk
pub tree_synced : (s t u : FsState) (top : Path) (dirs : List Path) → AreDirsUnder s top dirs → t.names ≡ s.names → OnlySyncs t u → ((path : Path) → IsUnder top path → IsCleanAt path t) → AllByRecursion (λ dir. IsQuiet dir u.pending) dirs → IsSynced (top ∷ []) u
tree_synced s t u top dirs are same syncs clean quiet = record {
  clean = λ path inode inside named. elim inside [ inl under ↦ clean_stays path t u syncs (clean path under) inode named | inr none ↦ absurd none ];
  quiet = λ dir inside stands. elim inside [
    | inl under ↦ among_all (λ d. IsQuiet d u.pending) dirs quiet dir (are.whole dir under (ap (λ m. get m dir) (sym (syncs.names ∙ same)) ∙ stands))
    | inr none ↦ absurd none
  ];
}
