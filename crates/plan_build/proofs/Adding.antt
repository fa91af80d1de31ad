-- The walk over the segments of a fork, and over relations.
use Rattle.std.proofs.Common.{◌≡◌, ◌∙◌, ℕ, suc, ◌+◌, ◌-◌, ◌^◌, ◌<◌, ◌≤◌, Bool, true, false, List, [], ◌∷◌, ◌++◌, map, drop, length, get_or, if◌then◌else◌, refl, ap, sym, subst, arith, append-nil, append_assoc, add-one, Result, Ok, Err, OnOk}
use Rattle.std.specs.List.{AllByRecursion, flat_map}
use Rattle.std.proofs.lemmas.List.{drop_all}
use Rattle.std.proofs.Math.Seq.{drop-cons}
use Rattle.fs_model.specs.declared.error.FsError.{FsError}
use Rattle.fs_model.specs.State.{FsState}
use Rattle.xact_status.specs.Files.{SegmentFiles}
use Rattle.relation_files.specs.declared.relation.Fork.{Fork}
use Rattle.relation_files.specs.declared.relation.Fork.TheVariants.{Main, FreeSpace, Visibility}
use Rattle.relation_files.specs.Carried.{belongs}
use Rattle.transfer_plan.specs.declared.plan.PlanItem.{PlanItem}
use Rattle.relation_map.specs.declared.map.MapEntry.{MapEntry}
use Rattle.relation_map.specs.Equal.{Carriage, carriage_of}
use Rattle.plan_build.specs.Planned.{files_in, segments_from, most_segments, HasEnds, item_of, fork_items, relation_items, carriages, AddsSegment, AddsFork, AddsRelation, AddsRelations}

pub most_segments_is : most_segments ≡ 2 ^ 32 - 1
unfolding most_segments
most_segments_is = refl

module _ (s : FsState) (entry : Carriage) (fork : Fork) where
  abbrev files : SegmentFiles
  files = files_in s entry.from_dir entry.file fork

  -- what is still to be added, from a segment on
  abbrev pub left_at : ℕ → List PlanItem
  left_at segment = map (item_of s entry fork) (segments_from fork files segment (most_segments - segment))

  left_by : (segment : ℕ) (more : Bool) → segment < 2 ^ 32 - 1 → more ≡ belongs fork segment (files segment)
      → left_at segment ≡ map (item_of s entry fork) (if more then segment ∷ segments_from fork files (segment + 1) (most_segments - (segment + 1)) else [])
  left_by segment more below is =
      let most : ℕ = most_segments in
      let whole : most ≡ 2 ^ 32 - 1 = most_segments_is in
      let next : most - segment ≡ suc (most - (segment + 1)) = omega arith in
      ap (λ n. map (item_of s entry fork) (segments_from fork files segment n)) next
      ∙ ap (λ b. map (item_of s entry fork) (if b then segment ∷ segments_from fork files (segment + 1) (most_segments - (segment + 1)) else [])) (sym is)

  pub at_start : (start : List PlanItem) → start ++ left_at 0 ≡ start ++ fork_items s entry fork
  at_start start =
      let from : most_segments - 0 ≡ most_segments = omega arith in
      ap (λ n. start ++ map (item_of s entry fork) (segments_from fork files 0 n)) from

  -- one segment more
  pub goes_on : (start before after : List PlanItem) (segment : ℕ) → segment < 2 ^ 32 - 1 → AddsSegment s entry fork segment before after true
      → before ++ left_at segment ≡ start ++ fork_items s entry fork → after ++ left_at (segment + 1) ≡ start ++ fork_items s entry fork
  goes_on start before after segment below adds so_far =
      ap (λ l. l ++ left_at (segment + 1)) adds.items
      ∙ append_assoc before (item_of s entry fork segment ∷ []) (left_at (segment + 1))
      ∙ ap (λ l. before ++ l) (sym (left_by segment true below adds.belongs))
      ∙ so_far

  -- the fork ends
  pub ends_here : (start before after : List PlanItem) (segment : ℕ) → segment < 2 ^ 32 - 1 → AddsSegment s entry fork segment before after false
      → before ++ left_at segment ≡ start ++ fork_items s entry fork → AddsFork s entry fork start after
  ends_here start before after segment below adds so_far = record {
    items = adds.items ∙ ap (λ l. before ++ l) (sym (left_by segment false below adds.belongs)) ∙ so_far;
    end = (segment, (let most : ℕ = most_segments in let whole : most ≡ 2 ^ 32 - 1 = most_segments_is in omega arith), sym adds.belongs);
  }

-- the forks of a relation after each other
pub three_forks : (s : FsState) (entry : Carriage) (a b c d : List PlanItem) → AddsFork s entry Main a b → AddsFork s entry FreeSpace b c → AddsFork s entry Visibility c d → AddsRelation s entry a d
three_forks s entry a b c d main space map = record {
  items =
      map.items ∙ ap (λ l. l ++ fork_items s entry Visibility) (space.items ∙ ap (λ l. l ++ fork_items s entry FreeSpace) main.items)
      ∙ ap (λ l. l ++ fork_items s entry Visibility) (append_assoc a (fork_items s entry Main) (fork_items s entry FreeSpace))
      ∙ append_assoc a (fork_items s entry Main ++ fork_items s entry FreeSpace) (fork_items s entry Visibility)
      ∙ ap (λ l. a ++ l) (append_assoc (fork_items s entry Main) (fork_items s entry FreeSpace) (fork_items s entry Visibility));
  ends = each;
}
  where
    each : HasEnds s entry
    each Main = main.end
    each FreeSpace = space.end
    each Visibility = map.end

-- of the entries those from a place on are still to be added
pub record IsAtEntry (s : FsState) (entries : List MapEntry) (index : ℕ) (start items : List PlanItem) : Type 0 where
  pub items_left : items ++ flat_map (relation_items s) (carriages (drop index entries)) ≡ start ++ flat_map (relation_items s) (carriages entries)
  pub ends_left : AllByRecursion (HasEnds s) (carriages (drop index entries)) → AllByRecursion (HasEnds s) (carriages entries)

pub at_first : (s : FsState) (entries : List MapEntry) (start : List PlanItem) → IsAtEntry s entries 0 start start
at_first s entries start = record { items_left = refl; ends_left = λ all. all }

-- those from a place on are the one there and those behind it
next_of : {A : Type 0} (xs : List A) (i : ℕ) (x : A) → i < length xs → x ≡ get_or xs i x → drop i xs ≡ x ∷ drop (i + 1) xs
next_of xs i x below is = drop-cons xs i x below ∙ (λ k. sym is k ∷ drop (sym (add-one i) k) xs)

pub next_entry : (s : FsState) (entries : List MapEntry) (index : ℕ) (entry : MapEntry) (start before after : List PlanItem) → index < length entries → entry ≡ get_or entries index entry
    → AddsRelation s (carriage_of entry) before after → IsAtEntry s entries index start before → IsAtEntry s entries (index + 1) start after
next_entry s entries index entry start before after below at adds so_far =
    let next : drop index entries ≡ entry ∷ drop (index + 1) entries = next_of entries index entry below at in
    record {
      items_left =
          ap (λ l. l ++ flat_map (relation_items s) (carriages (drop (index + 1) entries))) adds.items
          ∙ append_assoc before (relation_items s (carriage_of entry)) (flat_map (relation_items s) (carriages (drop (index + 1) entries)))
          ∙ ap (λ l. before ++ flat_map (relation_items s) (carriages l)) (sym next)
          ∙ so_far.items_left;
      ends_left = λ all. so_far.ends_left (subst (λ l. AllByRecursion (HasEnds s) (carriages l)) (sym next) (adds.ends, all));
    }

pub last_entry : (s : FsState) (entries : List MapEntry) (index : ℕ) (start items : List PlanItem) → length entries ≤ index → IsAtEntry s entries index start items → AddsRelations s (carriages entries) start items
last_entry s entries index start items all so_far =
    let none : drop index entries ≡ [] = drop_all index entries all in
    record {
      items = sym (append-nil items) ∙ ap (λ l. items ++ flat_map (relation_items s) (carriages l)) (sym none) ∙ so_far.items_left;
      ends = so_far.ends_left (subst (λ l. AllByRecursion (HasEnds s) (carriages l)) (sym none) tt);
    }

pub on_ok : {T : Type 0} (result : Result T FsError) (P Q : Type 0) → (P → Q) → OnOk result P → OnOk result Q
on_ok (Ok value) P Q then_so holds = then_so holds
on_ok (Err error) P Q then_so holds = tt
