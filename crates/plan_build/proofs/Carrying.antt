-- A plan that is carried out leaves the carried files in the new directories.
use Rattle.std.proofs.Common.{◌≡◌, ◌∙◌, inl, inr, ℕ, ◌+◌, Bool, true, false, List, [], ◌∷◌, ◌++◌, map, if◌then◌else◌, None, refl, sym, ap, subst}
use Rattle.std.specs.List.{AllByRecursion, flat_map}
use Rattle.fs_model.specs.State.{FsState}
use Rattle.fs_model.specs.Reading.{file_bytes}
use Rattle.control_file.specs.declared.job.Job.{Job}
use Rattle.catalog.specs.Cluster.{Cluster}
use Rattle.catalog.specs.Valid.{IsValid}
use Rattle.xact_status.specs.Files.{SegmentFiles}
use Rattle.crash_safety.specs.Synced.{IsOneOf}
use Rattle.relation_files.specs.declared.relation.Relation.{Relation}
use Rattle.relation_files.specs.declared.relation.Fork.{Fork}
use Rattle.relation_files.specs.declared.relation.Fork.TheVariants.{Main, FreeSpace, Visibility}
use Rattle.relation_files.specs.Places.{Site, relation_dir, segment_path, fork_files}
use Rattle.relation_files.specs.Relations.{relations_of}
use Rattle.relation_files.specs.Carried.{is_reached, carried}
use Rattle.transfer_plan.specs.declared.plan.PlanItem.{PlanItem}
use Rattle.transfer_plan.specs.Carriable.{targets}
use Rattle.relation_map.specs.declared.map.MapEntry.{MapEntry}
use Rattle.relation_map.specs.Equal.{Carriage, carriage}
use Rattle.relation_map.specs.Pairs.{old_site, new_site, entries_of}
use Rattle.relation_map.proofs.Alike.{same_carriages}
use Rattle.plan_build.specs.Planned.{file_at, files_in, segments_of, HasEnds, item_of, fork_items, relation_items, carriages, plan_in}
use Rattle.plan_build.specs.Plannable.{IsPlannable, AreAlone, IsPlanOf}
use Rattle.plan_build.specs.Carrying.{HasOnlyCarried, HasItems, HasCarried, HasRelations}
use Rattle.plan_build.proofs.Carriable.{of_all, target_of, one_relation}
use Rattle.plan_build.proofs.Lists.{Among, all_of, one_of, in_front, behind, mapped, flat_mapped, among}
use Rattle.plan_build.proofs.Reaching.{planned_is_carried, carried_is_planned}

-- an item of a fork is one of its relation
in_relation : (s : FsState) (entry : Carriage) (fork : Fork) (item : PlanItem) → Among (fork_items s entry fork) item → Among (relation_items s entry) item
in_relation s entry Main item one = in_front (fork_items s entry Main) (fork_items s entry FreeSpace ++ fork_items s entry Visibility) item one
in_relation s entry FreeSpace item one =
    behind (fork_items s entry Main) (fork_items s entry FreeSpace ++ fork_items s entry Visibility) item (in_front (fork_items s entry FreeSpace) (fork_items s entry Visibility) item one)
in_relation s entry Visibility item one =
    behind (fork_items s entry Main) (fork_items s entry FreeSpace ++ fork_items s entry Visibility) item (behind (fork_items s entry FreeSpace) (fork_items s entry Visibility) item one)

-- of entries that are alone one directory and file number has one
alone_one : (entries : List Carriage) → AreAlone entries → (a b : Carriage) → Among entries a → Among entries b → a.to_dir ≡ b.to_dir → a.file ≡ b.file → a ≡ b
alone_one [] alone a b none other dirs files = absurd none
alone_one (entry ∷ entries) alone a b (inl one) (inl two) dirs files = one ∙ sym two
alone_one (entry ∷ entries) alone a b (inl one) (inr two) dirs files =
    absurd (one_of (λ other. entry.to_dir ≡ other.to_dir → entry.file ≡ other.file → ⊥) entries b alone.0 two (ap (λ (e : Carriage). e.to_dir) (sym one) ∙ dirs) (ap (λ (e : Carriage). e.file) (sym one) ∙ files))
alone_one (entry ∷ entries) alone a b (inr one) (inl two) dirs files =
    absurd (one_of (λ other. entry.to_dir ≡ other.to_dir → entry.file ≡ other.file → ⊥) entries a alone.0 one (ap (λ (e : Carriage). e.to_dir) (sym two) ∙ sym dirs) (ap (λ (e : Carriage). e.file) (sym two) ∙ sym files))
alone_one (entry ∷ entries) alone a b (inr one) (inr two) dirs files = alone_one entries alone.1 a b one two dirs files

module _ (s x : FsState) (entries : List Carriage) (each : AllByRecursion (IsPlannable s) entries) (alone : AreAlone entries) (ends : AllByRecursion (HasEnds s) entries)
    (has : HasItems s x (flat_map (relation_items s) entries)) (entry : Carriage) (there : Among entries entry) (only : HasOnlyCarried s entry) (fork : Fork) (segment : ℕ) where
  abbrev planned : List PlanItem
  planned = flat_map (relation_items s) entries

  abbrev files : SegmentFiles
  files = files_in s entry.from_dir entry.file fork

  -- a carried segment has its file
  carried_there : is_reached fork files (segment + 1) ≡ true → files_in x entry.to_dir entry.file fork segment ≡ files segment
  carried_there reached =
      let item = item_of s entry fork segment in
      one_of (λ (one : PlanItem). file_bytes x one.to ≡ file_bytes s one.from) planned item has.each
      (flat_mapped (relation_items s) entries entry item there (in_relation s entry fork item
      (mapped (item_of s entry fork) (segments_of fork files) segment (carried_is_planned fork files (one_of (HasEnds s) entries entry ends there fork) segment reached))))

  -- the new name of another one is no item's
  no_target : is_reached fork files (segment + 1) ≡ false → IsOneOf (targets planned) (file_at entry.to_dir entry.file fork segment) → ⊥
  no_target missing one =
      let (item, found, at) = target_of planned (file_at entry.to_dir entry.file fork segment) one in
      let (later, between, its) = of_all s entries item found in
      let equal = one_relation s later entry item fork segment (one_of (IsPlannable s) entries later each between).number (one_of (IsPlannable s) entries entry each there).number (sym at) its in
      let same : later ≡ entry = alone_one entries alone later entry between there equal.dirs equal.files in
      let reached : is_reached its.fork (files_in s later.from_dir later.file its.fork) (its.segment + 1) ≡ true = (planned_is_carried its.fork (files_in s later.from_dir later.file its.fork) its.segment its.one).0 in
      let here : is_reached fork files (segment + 1) ≡ true =
      (λ i. is_reached (sym equal.forks i) (files_in s (sym same i).from_dir (sym same i).file (sym equal.forks i)) (sym equal.segments i + 1)) ∙ reached in
      absurd (cc (here, missing))

  carried_by : (b : Bool) → is_reached fork files (segment + 1) ≡ b → (is_reached fork files (segment + 1) ≡ b → carried fork files segment ≡ (if b then files segment else None))
      → files_in x entry.to_dir entry.file fork segment ≡ carried fork files segment
  carried_by true is gives = carried_there is ∙ sym (gives is)
  carried_by false is gives = has.others (file_at entry.to_dir entry.file fork segment) (no_target is) ∙ only fork segment (gives is) ∙ sym (gives is)

  pub entry_carried : files_in x entry.to_dir entry.file fork segment ≡ carried fork files segment
  unfolding carried
  entry_carried = carried_by (is_reached fork files (segment + 1)) refl (λ is. refl)

pub plan_carries : (s x : FsState) (entries : List MapEntry) (items : List PlanItem) → IsPlanOf s entries items → AllByRecursion (HasOnlyCarried s) (carriages entries) → HasItems s x items → AllByRecursion (HasCarried s x) (carriages entries)
unfolding plan_in
plan_carries s x entries items plan only has =
    let all = carriages entries in
    all_of (HasCarried s x) all (λ entry there fork segment.
    entry_carried s x all plan.can.each plan.can.alone plan.ends (subst (HasItems s x) plan.is has) entry there (one_of (HasOnlyCarried s) all entry only there) fork segment)

-- ---- the relations of a catalog

pub one_path : (site : Site) (relation : Relation) (fork : Fork) (segment : ℕ) → file_at (relation_dir site relation) relation.file fork segment ≡ segment_path site relation fork segment
unfolding file_at segment_path
one_path site relation fork segment = refl

pub one_file : (s : FsState) (site : Site) (relation : Relation) (fork : Fork) (segment : ℕ) → files_in s (relation_dir site relation) relation.file fork segment ≡ fork_files s site relation fork segment
one_file s site relation fork segment = ap (file_bytes s) (one_path site relation fork segment)

pub relations_carried : (job : Job) (catalog : Cluster) (s x : FsState) → IsValid catalog → AllByRecursion (HasCarried s x) (carriages (entries_of job catalog catalog)) → HasRelations job catalog s x
relations_carried job catalog s x valid all relation has fork segment =
    let each = subst (AllByRecursion (HasCarried s x)) (same_carriages job catalog valid) all in
    let it = one_of (HasCarried s x) (map (carriage job catalog) (relations_of catalog)) (carriage job catalog relation) each (mapped (carriage job catalog) (relations_of catalog) relation (among (relations_of catalog) relation has)) in
    sym (one_file x (new_site job catalog) relation fork segment) ∙ it fork segment
    ∙ ap (λ files. carried fork files segment) (λ i n. one_file s (old_site job catalog) relation fork n i)
