-- The plan of a state can be carried out there.
use Rattle.std.proofs.Common.{◌≡◌, ◌≢◌, ◌⊎◌, ◌∙◌, inl, inr, ℕ, zero, suc, ◌+◌, ◌-◌, ◌<◌, ◌^◌, Bool, true, false, List, [], ◌∷◌, ◌++◌, map, if◌then◌else◌, Option, Some, None, refl, sym, ap, subst, arith}
use Rattle.std.specs.Prelude.{is_some}
use Rattle.std.specs.List.{AllByRecursion, flat_map}
use Rattle.std.specs.FinMap.{get}
use Rattle.fs_model.specs.declared.node.Node.{Node}
use Rattle.fs_model.specs.declared.node.Node.TheVariants.{Dir, File, Sym}
use Rattle.fs_model.specs.Names.{Path, parent}
use Rattle.fs_model.specs.State.{FsState}
use Rattle.fs_model.specs.Effects.{bytes_of}
use Rattle.fs_model.specs.Reading.{inode_of_node}
use Rattle.std.specs.Option.{option_map}
use Rattle.xact_status.specs.Files.{SegmentFiles}
use Rattle.crash_safety.specs.Synced.{IsOneOf}
use Rattle.crash_safety.proofs.Needing.{parent_of}
use Rattle.relation_files.specs.declared.relation.Fork.{Fork}
use Rattle.relation_files.specs.declared.relation.Fork.TheVariants.{Main, FreeSpace, Visibility}
use Rattle.relation_files.specs.Carried.{belongs, is_reached}
use Rattle.transfer_plan.specs.declared.plan.PlanItem.{PlanItem}
use Rattle.transfer_plan.specs.Carriable.{sources, targets, IsCarriable, AreApart, CanBeCarried}
use Rattle.relation_map.specs.declared.map.MapEntry.{MapEntry}
use Rattle.relation_map.specs.Equal.{Carriage}
use Rattle.plan_build.specs.Planned.{file_at, files_in, segments_from, segments_of, most_segments, item_of, fork_items, relation_items, carriages, plan_in}
use Rattle.plan_build.specs.Plannable.{IsPlannable, AreAlone, IsPlanOf}
use Rattle.plan_build.proofs.Adding.{most_segments_is}
use Rattle.plan_build.proofs.FileNames.{AreOne, dir_same, path_same}
use Rattle.plan_build.proofs.Lists.{Among, all_of, one_of, either, of_mapped, of_flat}
use Rattle.plan_build.proofs.Reaching.{in_plan, planned_is_carried, belongs_here, reached_next}

-- ---- what an item is of

-- the item is this segment's
pub record IsOf (s : FsState) (entry : Carriage) (item : PlanItem) : Type 0 where
  pub fork : Fork
  pub segment : ℕ
  pub one : Among (segments_of fork (files_in s entry.from_dir entry.file fork)) segment
  pub is : item ≡ item_of s entry fork segment

of_fork : (s : FsState) (entry : Carriage) (fork : Fork) (item : PlanItem) → Among (fork_items s entry fork) item → IsOf s entry item
of_fork s entry fork item one =
    let (segment, there, is) = of_mapped (item_of s entry fork) (segments_of fork (files_in s entry.from_dir entry.file fork)) item one in
    record { fork = fork; segment = segment; one = there; is = is }

pub of_relation : (s : FsState) (entry : Carriage) (item : PlanItem) → Among (relation_items s entry) item → IsOf s entry item
of_relation s entry item one = elim (either (fork_items s entry Main) (fork_items s entry FreeSpace ++ fork_items s entry Visibility) item one) [
  | inl main ↦ of_fork s entry Main item main
  | inr others ↦ elim (either (fork_items s entry FreeSpace) (fork_items s entry Visibility) item others) [ inl space ↦ of_fork s entry FreeSpace item space | inr seen ↦ of_fork s entry Visibility item seen ]
]

pub of_all : (s : FsState) (entries : List Carriage) (item : PlanItem) → Among (flat_map (relation_items s) entries) item → (entry : Carriage) × Among entries entry × IsOf s entry item
of_all s entries item one = let (entry, there, inner) = of_flat (relation_items s) entries item one in (entry, there, of_relation s entry item inner)

-- a new name, or an old one, is an item's
pub target_of : (items : List PlanItem) (path : Path) → IsOneOf (targets items) path → (item : PlanItem) × Among items item × (path ≡ item.to)
target_of [] path none = absurd none
target_of (item ∷ items) path (inl same) = (item, inl refl, same)
target_of (item ∷ items) path (inr one) = let (found, there, is) = target_of items path one in (found, inr there, is)

source_of : (items : List PlanItem) (path : Path) → IsOneOf (sources items) path → (item : PlanItem) × Among items item × (path ≡ item.from)
source_of [] path none = absurd none
source_of (item ∷ items) path (inl same) = (item, inl refl, same)
source_of (item ∷ items) path (inr one) = let (found, there, is) = source_of items path one in (found, inr there, is)

-- ---- each item can be carried

file_of : (bytes : ℕ → List ℕ) (found : Option Node) → is_some (option_map bytes (inode_of_node found)) ≡ true → (inode : ℕ) × (found ≡ Some (File inode))
file_of bytes None some = absurd (cc some)
file_of bytes (Some Dir) some = absurd (cc some)
file_of bytes (Some (File inode)) some = (inode, refl)
file_of bytes (Some (Sym target)) some = absurd (cc some)

some_belongs : (fork : Fork) (segment : ℕ) (file : Option (List ℕ)) → belongs fork segment file ≡ true → is_some file ≡ true
some_belongs fork segment None is = absurd (cc is)
some_belongs fork segment (Some bytes) is = refl

to_parent : (dir : Path) (file : ℕ) (fork : Fork) (segment : ℕ) → parent (file_at dir file fork segment) ≡ dir
unfolding file_at
to_parent dir file fork segment = parent_of dir _

item_carriable : (s : FsState) (entry : Carriage) (item : PlanItem) → IsPlannable s entry → IsOf s entry item → IsCarriable s.names item
item_carriable s entry item can of =
    let fork = of.fork in
    let segment = of.segment in
    let carried = planned_is_carried fork (files_in s entry.from_dir entry.file fork) segment of.one in
    let (inode, named) = file_of (bytes_of s.bytes) (get s.names (file_at entry.from_dir entry.file fork segment))
    (some_belongs fork segment (files_in s entry.from_dir entry.file fork segment) (belongs_here fork (files_in s entry.from_dir entry.file fork) segment carried.0)) in
    subst (IsCarriable s.names) (sym of.is) (record {
      inode = inode;
      file = named;
      dir = ap (get s.names) (to_parent entry.to_dir entry.file fork segment) ∙ can.dir;
      replaces = refl;
      no_dir = can.no_dirs fork segment carried.1;
    })

-- ---- no new name comes twice

one_of_either : (xs ys : List PlanItem) (path : Path) → IsOneOf (targets (xs ++ ys)) path → IsOneOf (targets xs) path ⊎ IsOneOf (targets ys) path
one_of_either [] ys path one = inr one
one_of_either (x ∷ xs) ys path (inl same) = inl (inl same)
one_of_either (x ∷ xs) ys path (inr one) = elim (one_of_either xs ys path one) [ inl front ↦ inl (inr front) | inr back ↦ inr back ]

apart_joined : (xs ys : List PlanItem) → AreApart xs → AreApart ys → ((path : Path) → IsOneOf (targets xs) path → IsOneOf (targets ys) path → ⊥) → AreApart (xs ++ ys)
apart_joined [] ys front back none = back
apart_joined (x ∷ xs) ys front back none = (
  (λ one. elim (one_of_either xs ys x.to one) [ inl there ↦ front.0 there | inr there ↦ none x.to (inl refl) there ]),
  apart_joined xs ys front.1 back (λ path one two. none path (inr one) two),
)

module _ (s : FsState) (entry : Carriage) (number : entry.file < 2 ^ 32) where
  segments_apart : (fork : Fork) (files : SegmentFiles) (from most : ℕ) → is_reached fork files from ≡ true → from + most < 2 ^ 32 → AreApart (map (item_of s entry fork) (segments_from fork files from most))
  segments_apart fork files from zero reached few = tt
  segments_apart fork files from (suc most) reached few = by (belongs fork from (files from)) refl (λ is. segments_apart fork files (from + 1) most (reached_next fork files from reached is) (omega arith))
    where
      later : belongs fork from (files from) ≡ true → IsOneOf (targets (map (item_of s entry fork) (segments_from fork files (from + 1) most))) (file_at entry.to_dir entry.file fork from) → ⊥
      later is one =
          let (item, there, at) = target_of (map (item_of s entry fork) (segments_from fork files (from + 1) most)) (file_at entry.to_dir entry.file fork from) one in
          let (segment, within, same) = of_mapped (item_of s entry fork) (segments_from fork files (from + 1) most) item there in
          let more = (in_plan fork files (from + 1) most segment (reached_next fork files from reached is) within).behind in
          let equal = path_same entry.to_dir entry.to_dir entry.file entry.file fork fork from segment number number (omega arith) (at ∙ ap (λ (x : PlanItem). x.to) same) in
          let segments : from ≡ segment = equal.segments in
          absurd (omega arith)

      by : (b : Bool) → belongs fork from (files from) ≡ b → (belongs fork from (files from) ≡ true → AreApart (map (item_of s entry fork) (segments_from fork files (from + 1) most)))
          → AreApart (map (item_of s entry fork) (if b then from ∷ segments_from fork files (from + 1) most else []))
      by false is rest = tt
      by true is rest = (later is, rest is)

  fork_apart : (fork : Fork) → AreApart (fork_items s entry fork)
  fork_apart fork =
      let most : ℕ = most_segments in
      let whole : most ≡ 2 ^ 32 - 1 = most_segments_is in
      let few : 0 + most < 2 ^ 32 = omega arith in
      segments_apart fork (files_in s entry.from_dir entry.file fork) 0 most_segments refl few

  forks_differ : (a b : Fork) → (a ≡ b → ⊥) → (path : Path) → IsOneOf (targets (fork_items s entry a)) path → IsOneOf (targets (fork_items s entry b)) path → ⊥
  forks_differ a b differ path one two =
      let (item, there, at) = target_of (fork_items s entry a) path one in
      let (other, here, is) = target_of (fork_items s entry b) path two in
      let (segment, within, same) = of_mapped (item_of s entry a) (segments_of a (files_in s entry.from_dir entry.file a)) item there in
      let (number', inside, equal) = of_mapped (item_of s entry b) (segments_of b (files_in s entry.from_dir entry.file b)) other here in
      differ (path_same entry.to_dir entry.to_dir entry.file entry.file a b segment number' number number (planned_is_carried a (files_in s entry.from_dir entry.file a) segment within).1
      (sym (at ∙ ap (λ (x : PlanItem). x.to) same) ∙ is ∙ ap (λ (x : PlanItem). x.to) equal)).forks

  relation_apart : AreApart (relation_items s entry)
  relation_apart =
      apart_joined (fork_items s entry Main) (fork_items s entry FreeSpace ++ fork_items s entry Visibility) (fork_apart Main)
      (apart_joined (fork_items s entry FreeSpace) (fork_items s entry Visibility) (fork_apart FreeSpace) (fork_apart Visibility) (forks_differ FreeSpace Visibility (λ same. absurd (cc same))))
      (λ path one two. elim (one_of_either (fork_items s entry FreeSpace) (fork_items s entry Visibility) path two) [ inl space ↦ forks_differ Main FreeSpace (λ same. absurd (cc same)) path one space | inr seen ↦ forks_differ Main Visibility (λ same. absurd (cc same)) path one seen ])

-- the new name of a relation's item tells the relation
pub one_relation : (s : FsState) (entry other : Carriage) (item : PlanItem) (fork : Fork) (segment : ℕ) → entry.file < 2 ^ 32 → other.file < 2 ^ 32 → item.to ≡ file_at other.to_dir other.file fork segment
    → (of : IsOf s entry item) → AreOne entry.to_dir entry.file of.fork of.segment other.to_dir other.file fork segment
one_relation s entry other item fork segment small few same of =
    path_same entry.to_dir other.to_dir entry.file other.file of.fork fork of.segment segment small few (planned_is_carried of.fork (files_in s entry.from_dir entry.file of.fork) of.segment of.one).1
    (sym (ap (λ (x : PlanItem). x.to) of.is) ∙ same)

all_apart : (s : FsState) (entries : List Carriage) → AllByRecursion (IsPlannable s) entries → AreAlone entries → AreApart (flat_map (relation_items s) entries)
all_apart s [] each alone = tt
all_apart s (entry ∷ entries) each alone =
    apart_joined (relation_items s entry) (flat_map (relation_items s) entries) (relation_apart s entry each.0.number) (all_apart s entries each.1 alone.1) none
  where
    none : (path : Path) → IsOneOf (targets (relation_items s entry)) path → IsOneOf (targets (flat_map (relation_items s) entries)) path → ⊥
    none path one two =
        let (item, there, at) = target_of (relation_items s entry) path one in
        let (other, here, is) = target_of (flat_map (relation_items s) entries) path two in
        let of = of_relation s entry item there in
        let (later, among, its) = of_all s entries other here in
        let equal = one_relation s entry later item its.fork its.segment each.0.number (one_of (IsPlannable s) entries later each.1 among).number (sym at ∙ is ∙ ap (λ (x : PlanItem). x.to) its.is) of in
        one_of (λ other. entry.to_dir ≡ other.to_dir → entry.file ≡ other.file → ⊥) entries later alone.0 among equal.dirs equal.files

pub plan_can_be_carried : (s : FsState) (entries : List MapEntry) (items : List PlanItem) → IsPlanOf s entries items → CanBeCarried s.names items
unfolding plan_in
plan_can_be_carried s entries items plan =
    let all = carriages entries in
    let planned : List PlanItem = flat_map (relation_items s) all in
    subst (CanBeCarried s.names) (sym plan.is) (record {
      each = all_of (IsCarriable s.names) planned (λ item one. (let (entry, among, of) = of_all s all item one in item_carriable s entry item (one_of (IsPlannable s) all entry plan.can.each among) of));
      apart = all_apart s all plan.can.each plan.can.alone;
      other = λ path one two.
          (let (item, there, at) = source_of planned path one in
          let (other, here, is) = target_of planned path two in
          let (entry, among, of) = of_all s all item there in
          let (later, between, its) = of_all s all other here in
          let same = dir_same entry.from_dir later.to_dir entry.file later.file of.fork its.fork of.segment its.segment (sym (at ∙ ap (λ (x : PlanItem). x.from) of.is) ∙ is ∙ ap (λ (x : PlanItem). x.to) its.is) in
          one_of (λ other. entry.from_dir ≢ other.to_dir) all later (one_of (λ entry. AllByRecursion (λ other. entry.from_dir ≢ other.to_dir) all) all entry plan.can.dirs among) between same);
    })
