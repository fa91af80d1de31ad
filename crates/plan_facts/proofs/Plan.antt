-- The plan of a catalog that both clusters have.
use Rattle.std.proofs.Common.{◌≡◌, ℕ, ◌<◌, ◌+◌, ◌-◌, ◌^◌, Bool, true, false, if◌then◌else◌, List, [], ◌∷◌, ◌++◌, map, Option, Some, None, refl, sym, ◌∙◌, ap, arith, subst, inl, inr}
use Rattle.std.specs.Prelude.{is_some}
use Rattle.std.specs.List.{AllByRecursion, Contains, flat_map}
use Rattle.fs_model.specs.Names.{Path}
use Rattle.fs_model.specs.State.{FsState}
use Rattle.control_file.specs.declared.job.Job.{Job}
use Rattle.catalog.specs.Cluster.{Cluster}
use Rattle.catalog.specs.Valid.{IsValid}
use Rattle.xact_status.specs.Files.{SegmentFiles}
use Rattle.relation_files.specs.declared.relation.Relation.{Relation}
use Rattle.relation_files.specs.declared.relation.Fork.{Fork}
use Rattle.relation_files.specs.declared.relation.Fork.TheVariants.{Main, FreeSpace, Visibility}
use Rattle.relation_files.specs.Places.{Site, relation_dir, segment_path, fork_files}
use Rattle.relation_files.specs.Relations.{relations_of}
use Rattle.relation_files.specs.Carried.{belongs, is_reached, carried}
use Rattle.cluster_meaning.specs.Blocks.{most_segments as most_in_blocks}
use Rattle.transfer_plan.specs.declared.plan.PlanItem.{PlanItem}
use Rattle.relation_map.specs.Equal.{Carriage, carriage}
use Rattle.relation_map.specs.Pairs.{old_site, new_site, entries_of}
use Rattle.relation_map.proofs.Alike.{same_carriages}
use Rattle.plan_build.specs.Planned.{files_in, segments_of, most_segments, item_of, fork_items, relation_items, carriages, plan_in, HasEnds}
use Rattle.plan_build.specs.Plannable.{IsPlanOf}
use Rattle.plan_build.proofs.Adding.{most_segments_is}
use Rattle.plan_build.proofs.Carriable.{IsOf, of_all}
use Rattle.plan_build.proofs.Carrying.{one_path, one_file}
use Rattle.plan_build.proofs.Lists.{Among, one_of, in_front, behind, mapped, of_mapped, flat_mapped, among, contains}
use Rattle.plan_build.proofs.Reaching.{in_plan, belongs_here, planned_is_carried, carried_is_planned}
use Rattle.upgraded.specs.CarriedFiles.{IsCarriedFile, IsPlan}

most_in_blocks_is : most_in_blocks ≡ 2 ^ 32 - 1
unfolding most_in_blocks
most_in_blocks_is = refl

stands : (fork : Fork) (n : ℕ) (file : Option (List ℕ)) → belongs fork n file ≡ true → is_some file ≡ true
stands fork n None e = absurd (cc e)
stands fork n (Some bytes) e = refl

-- a segment that is reached with those before it is carried, and the other way round
reached_carried : (fork : Fork) (files : SegmentFiles) (n : ℕ) → is_reached fork files (n + 1) ≡ true → is_some (carried fork files n) ≡ true
unfolding carried
reached_carried fork files n reached = ap (λ b. is_some (if b then files n else None)) reached ∙ stands fork n (files n) (belongs_here fork files n reached)

carried_reached : (fork : Fork) (files : SegmentFiles) (n : ℕ) → is_some (carried fork files n) ≡ true → is_reached fork files (n + 1) ≡ true
unfolding carried
carried_reached fork files n e = by (is_reached fork files (n + 1)) refl
  where
    by : (b : Bool) → is_reached fork files (n + 1) ≡ b → is_reached fork files (n + 1) ≡ true
    by true is = is
    by false is = absurd (let f = ap (λ b. is_some (if b then files n else None)) (sym is) ∙ e in cc f)

module _ (job : Job) (catalog : Cluster) (s : FsState) (items : List PlanItem) (valid : IsValid catalog) (plan : IsPlanOf s (entries_of job catalog catalog) items) where
  abbrev all : List Carriage
  all = map (carriage job catalog) (relations_of catalog)

  same_all : carriages (entries_of job catalog catalog) ≡ all
  same_all = same_carriages job catalog valid

  planned : items ≡ flat_map (relation_items s) all
  unfolding plan_in
  planned = plan.is ∙ ap (flat_map (relation_items s)) same_all

  files_of : (relation : Relation) (fork : Fork) → files_in s (relation_dir (old_site job catalog) relation) relation.file fork ≡ fork_files s (old_site job catalog) relation fork
  files_of relation fork = λ i n. one_file s (old_site job catalog) relation fork n i

  each : (item : PlanItem) → Contains items item → IsCarriedFile job catalog s item.from item.to
  each item found =
      let (entry, there, of) = of_all s all item (among (flat_map (relation_items s) all) item (subst (λ l. Contains l item) planned found)) in
      let (relation, listed, is) = of_mapped (carriage job catalog) (relations_of catalog) entry there in
      by relation listed (subst (λ e. IsOf s e item) is of)
    where
      by : (relation : Relation) → Among (relations_of catalog) relation → IsOf s (carriage job catalog relation) item → IsCarriedFile job catalog s item.from item.to
      by relation listed of =
          let files = files_in s (relation_dir (old_site job catalog) relation) relation.file of.fork in
          let reached = in_plan of.fork files 0 most_segments of.segment refl of.one in
          record {
            relation = relation;
            listed = contains (relations_of catalog) relation listed;
            fork = of.fork;
            segment = of.segment;
            numbered = (let most : ℕ = most_segments in let whole : most ≡ 2 ^ 32 - 1 = most_segments_is in let lt : of.segment < 0 + most = reached.within in omega (arith, most_in_blocks_is));
            carried = ap (λ f. is_some (carried of.fork f of.segment)) (sym (files_of relation of.fork)) ∙ reached_carried of.fork files of.segment reached.reached;
            from_is = ap (λ (i : PlanItem). i.from) of.is ∙ one_path (old_site job catalog) relation of.fork of.segment;
            to_is = ap (λ (i : PlanItem). i.to) of.is ∙ one_path (new_site job catalog) relation of.fork of.segment;
          }

  ends_of : (relation : Relation) → Among (relations_of catalog) relation → HasEnds s (carriage job catalog relation)
  ends_of relation listed = one_of (HasEnds s) all (carriage job catalog relation) (subst (AllByRecursion (HasEnds s)) same_all plan.ends) (mapped (carriage job catalog) (relations_of catalog) relation listed)

  in_relation : (entry : Carriage) (fork : Fork) (item : PlanItem) → Among (fork_items s entry fork) item → Among (relation_items s entry) item
  in_relation entry Main item one = in_front (fork_items s entry Main) (fork_items s entry FreeSpace ++ fork_items s entry Visibility) item one
  in_relation entry FreeSpace item one = behind (fork_items s entry Main) (fork_items s entry FreeSpace ++ fork_items s entry Visibility) item (in_front (fork_items s entry FreeSpace) (fork_items s entry Visibility) item one)
  in_relation entry Visibility item one = behind (fork_items s entry Main) (fork_items s entry FreeSpace ++ fork_items s entry Visibility) item (behind (fork_items s entry FreeSpace) (fork_items s entry Visibility) item one)

  whole : (from to : Path) → IsCarriedFile job catalog s from to → (item : PlanItem) × Contains items item × (item.from ≡ from) × (item.to ≡ to)
  whole from to file =
      let relation = file.relation in
      let listed = among (relations_of catalog) relation file.listed in
      let entry = carriage job catalog relation in
      let files = files_in s (relation_dir (old_site job catalog) relation) relation.file file.fork in
      let there = ap (λ f. is_some (carried file.fork f file.segment)) (files_of relation file.fork) ∙ file.carried in
      let one = carried_is_planned file.fork files (ends_of relation listed file.fork) file.segment (carried_reached file.fork files file.segment there) in
      let item = item_of s entry file.fork file.segment in
      let inside = in_relation entry file.fork item (mapped (item_of s entry file.fork) (segments_of file.fork files) file.segment one) in
      let found = flat_mapped (relation_items s) all entry item (mapped (carriage job catalog) (relations_of catalog) relation listed) inside in (
        item,
        subst (λ l. Contains l item) (sym planned) (contains (flat_map (relation_items s) all) item found),
        one_path (old_site job catalog) relation file.fork file.segment ∙ sym file.from_is,
        one_path (new_site job catalog) relation file.fork file.segment ∙ sym file.to_is,
      )

  -- a carried segment has a small number
  numbered : (relation : Relation) → Contains (relations_of catalog) relation → (fork : Fork) (segment : ℕ) → is_some (carried fork (fork_files s (old_site job catalog) relation fork) segment) ≡ true → segment < 2 ^ 32
  numbered relation found fork segment there =
      let listed = among (relations_of catalog) relation found in
      let files = files_in s (relation_dir (old_site job catalog) relation) relation.file fork in
      let here = ap (λ f. is_some (carried fork f segment)) (files_of relation fork) ∙ there in
      (planned_is_carried fork files segment (carried_is_planned fork files (ends_of relation listed fork) segment (carried_reached fork files segment here))).1

  pub is_plan : IsPlan job catalog s items
  is_plan = record { each = each; all = whole; ends = numbered }
