-- The names of a walk that are counted are those of shared files.
use Rattle.std.proofs.Common.{◌≡◌, ◌≢◌, ◌↔◌, ◌≤◌, ◌+◌, ◌-◌, ◌^◌, ◌∙◌, inl, inr, ℕ, true, false, if◌then◌else◌, List, [], ◌∷◌, length, min, Option, Some, None, refl, sym, ap, subst, arith}
use Rattle.std.specs.List.{AllByRecursion}
use Rattle.std.specs.declared.cmp.Ordering.TheVariants.{Less}
use Rattle.std.specs.FinMap.{contains_key}
use Rattle.fs_model.specs.declared.node.Kind.{Kind}
use Rattle.fs_model.specs.declared.node.Kind.TheVariants.{Dir as DirKind, File as FileKind, Sym as SymKind}
use Rattle.fs_model.specs.declared.node.Stat.{Stat}
use Rattle.fs_model.specs.Names.{Path, path_cmp}
use Rattle.fs_model.specs.State.{FsState}
use Rattle.fs_tools.specs.Walked.{IsAmong, IsAscending, TakesAll}
use Rattle.fs_tools.proofs.Naming.{among_all}
use Rattle.tree_checks.specs.Findings.{IsLeast}
use Rattle.tree_checks.proofs.Leasts.{less_flip, not_itself}
use Rattle.shared_inodes.specs.Counted.{Inodes, is_kind_in, is_in, or_path, with_path, counted, AreShared}
use Rattle.shared_inodes.specs.Regions.{IsNameIn, IsWalkIn}
use Rattle.shared_inodes.specs.SharedInodes.{IsNamedIn, IsSharedIn, IsRising, AreAllOf}
use Rattle.shared_inodes.specs.declared.shared.Counted.{Counted}
use Rattle.shared_inodes.specs.declared.shared.SharedFiles.{SharedFiles}
use Rattle.shared_inodes.proofs.Named.{file_stat, stat_file}

-- the paths of the names whose file has one of the inodes
abbrev pub paths_of : Inodes → List (Path × Stat) → List Path
paths_of inodes [] = []
paths_of inodes (item ∷ items) = if is_in inodes item.1 then item.0 ∷ paths_of inodes items else paths_of inodes items

abbrev pub all_counted : Inodes → SharedFiles → List (Path × Stat) → SharedFiles
all_counted inodes found [] = found
all_counted inodes found (item ∷ items) = all_counted inodes (counted inodes found item.0 item.1) items

pub counted_all : (a b : Counted) (items : List (Path × Stat)) → TakesAll (λ (before : Counted) at stat (after : Counted). (after.inodes ≡ before.inodes) × (after.found ≡ counted before.inodes before.found at stat)) a items b → b.found ≡ all_counted a.inodes a.found items
counted_all a b [] same = ap (λ (x : Counted). x.found) same
counted_all a b (item ∷ items) (next, took, rest) = counted_all next b items rest ∙ (λ i. all_counted (took.0 i) (took.1 i) items)

-- the first of the paths, behind one that was found before
abbrev pub first_of : Option Path → List Path → Option Path
first_of (Some path) paths = Some path
first_of None [] = None
first_of None (path ∷ paths) = Some path

first_more : (found : Option Path) (path : Path) (paths : List Path) → first_of (or_path found path) paths ≡ first_of found (path ∷ paths)
first_more None path paths = refl
first_more (Some first) path paths = refl

first_none : (found : Option Path) → found ≡ first_of found []
first_none None = refl
first_none (Some first) = refl

least_of : (inodes : Inodes) (found : SharedFiles) (items : List (Path × Stat)) → (all_counted inodes found items).least ≡ first_of found.least (paths_of inodes items)
least_of inodes found [] = first_none found.least
least_of inodes found (item ∷ items) =
    elim (is_in inodes item.1) as (λ b. (all_counted inodes (if b then with_path found item.0 else found) items).least ≡ first_of found.least (if b then item.0 ∷ paths_of inodes items else paths_of inodes items)) [
      | true ↦ least_of inodes (with_path found item.0) items ∙ first_more found.least item.0 (paths_of inodes items)
      | false ↦ least_of inodes found items
    ]

number_of : (inodes : Inodes) (found : SharedFiles) (items : List (Path × Stat)) → found.count ≤ 2 ^ 64 - 1 → (all_counted inodes found items).count ≡ min (found.count + length (paths_of inodes items)) (2 ^ 64 - 1)
number_of inodes found [] small = omega (arith, small)
number_of inodes found (item ∷ items) small =
    elim (is_in inodes item.1) as (λ b. (all_counted inodes (if b then with_path found item.0 else found) items).count ≡ min (found.count + length (if b then item.0 ∷ paths_of inodes items else paths_of inodes items)) (2 ^ 64 - 1)) [
      | true ↦ (let rest = number_of inodes (with_path found item.0) items (omega arith) in rest ∙ omega arith)
      | false ↦ number_of inodes found items small
    ]

-- what the names have, those that are counted have
paths_each : (inodes : Inodes) (P : Path → Type 0) (items : List (Path × Stat)) → AllByRecursion (λ item. is_in inodes item.1 ≡ true → P item.0) items → AllByRecursion P (paths_of inodes items)
paths_each inodes P [] all = tt
paths_each inodes P (item ∷ items) all =
    elim (is_in inodes item.1) as (λ b. is_in inodes item.1 ≡ b → AllByRecursion P (if b then item.0 ∷ paths_of inodes items else paths_of inodes items)) [
      | true ↦ λ is. (all.0 is, paths_each inodes P items all.1)
      | false ↦ λ _. paths_each inodes P items all.1
    ] refl

each_map : (P Q : Path × Stat → Type 0) → ((item : Path × Stat) → P item → Q item) → (items : List (Path × Stat)) → AllByRecursion P items → AllByRecursion Q items
each_map P Q to [] all = tt
each_map P Q to (item ∷ items) all = (to item all.0, each_map P Q to items all.1)

paths_rise : (inodes : Inodes) (items : List (Path × Stat)) → IsAscending items → IsRising (paths_of inodes items)
paths_rise inodes [] rise = tt
paths_rise inodes (item ∷ items) rise =
    elim (is_in inodes item.1) as (λ b. IsRising (if b then item.0 ∷ paths_of inodes items else paths_of inodes items)) [
      | true ↦ (paths_each inodes (λ q. path_cmp item.0 q ≡ Less) items (each_map (λ later. path_cmp item.0 later.0 ≡ Less) (λ later. is_in inodes later.1 ≡ true → path_cmp item.0 later.0 ≡ Less) (λ later less _. less) items rise.0), paths_rise inodes items rise.1)
      | false ↦ paths_rise inodes items rise.1
    ]

paths_among : (inodes : Inodes) (items : List (Path × Stat)) (path : Path) (stat : Stat) → is_in inodes stat ≡ true → IsAmong items (path, stat) → IsAmong (paths_of inodes items) path
paths_among inodes [] path stat is none = absurd none
paths_among inodes (item ∷ items) path stat is (inl same) =
    let here : is_in inodes item.1 ≡ true = ap (λ it. is_in inodes it.1) same ∙ is in
    subst (λ b. IsAmong (if b then item.0 ∷ paths_of inodes items else paths_of inodes items) path) (sym here) (inl (ap (λ it. it.0) same))
paths_among inodes (item ∷ items) path stat is (inr among) =
    elim (is_in inodes item.1) as (λ b. IsAmong (if b then item.0 ∷ paths_of inodes items else paths_of inodes items) path) [
      | true ↦ inr (paths_among inodes items path stat is among)
      | false ↦ paths_among inodes items path stat is among
    ]

-- a file's inode is one of those
kind_in : (inodes : Inodes) (kind : Kind) (inode : ℕ) → is_kind_in inodes kind inode ≡ true → (kind ≡ FileKind) × (contains_key inodes inode ≡ true)
kind_in inodes DirKind inode is = absurd (cc is)
kind_in inodes FileKind inode is = (refl, is)
kind_in inodes SymKind inode is = absurd (cc is)

-- in ascending order, the first path is the least
first_least : (P : Path → Type 0) (paths : List Path) → AreAllOf P paths → IsLeast P (first_of None paths)
first_least P [] all = λ path has. all.whole path has
first_least P (first ∷ paths) all = (all.each.0, λ path has. of path (all.whole path has))
  where
    of : (path : Path) → IsAmong (first ∷ paths) path → path_cmp path first ≢ Less
    of path (inl same) = not_itself path first (sym same)
    of path (inr among) = less_flip first path (among_all (λ q. path_cmp first q ≡ Less) paths all.ascending.0 path among)

module _ (s : FsState) (tops others : List Path) (inodes : Inodes) (items : List (Path × Stat)) (walk : IsWalkIn s tops items) (named : (inode : ℕ) → (contains_key inodes inode ≡ true) ↔ IsNamedIn s.names others inode) where
  -- the names that are counted are those of shared files
  pub paths_shared : AreAllOf (IsSharedIn s.names tops others) (paths_of inodes items)
  paths_shared = record {
    ascending = paths_rise inodes items walk.ascending;
    each = paths_each inodes (IsSharedIn s.names tops others) items (each_map (IsNameIn s tops) (λ item. is_in inodes item.1 ≡ true → IsSharedIn s.names tops others item.0) one items walk.each);
    whole = λ path shared.
        let (inode, there, is, other) = shared in
        let (stat, found, file, same) = stat_file s path inode is in
        let here : is_in inodes stat ≡ true = (λ i. is_kind_in inodes (file i) (same i)) ∙ (named inode).1 other in
        paths_among inodes items path stat here (walk.whole path stat there found);
  }
    where
      one : (item : Path × Stat) → IsNameIn s tops item → is_in inodes item.1 ≡ true → IsSharedIn s.names tops others item.0
      one item (there, found) is =
          let (file, has) = kind_in inodes item.1.kind item.1.identity.inode is in
          (item.1.identity.inode, there, file_stat s item.0 item.1 found file, (named item.1.identity.inode).0 has)

  pub all_shared : (start found : SharedFiles) → start.count ≡ 0 → start.least ≡ None → found ≡ all_counted inodes start items → AreShared s.names tops others found
  all_shared start found zero none are = record {
    count = (paths_of inodes items, paths_shared, (let is = ap (λ (f : SharedFiles). f.count) are ∙ number_of inodes start items (omega (arith, zero)) in omega (arith, is, zero)));
    least = subst (IsLeast (IsSharedIn s.names tops others)) (sym (ap (λ (f : SharedFiles). f.least) are ∙ least_of inodes start items ∙ ap (λ o. first_of o (paths_of inodes items)) none)) (first_least (IsSharedIn s.names tops others) (paths_of inodes items) paths_shared);
  }
