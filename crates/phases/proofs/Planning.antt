-- The plan of a transfer is of the catalog's relations.
use Rattle.std.proofs.Common.{◌≡◌, ◌∙◌, List, sym, ap, subst}
use Rattle.std.specs.List.{AllByRecursion, flat_map}
use Rattle.fs_model.specs.State.{FsState}
use Rattle.control_file.specs.declared.job.Job.{Job}
use Rattle.catalog.specs.Cluster.{Cluster}
use Rattle.catalog.specs.Valid.{IsValid}
use Rattle.relation_files.specs.declared.relation.Relation.{Relation}
use Rattle.relation_files.specs.Relations.{relations_of}
use Rattle.transfer_plan.specs.declared.plan.PlanItem.{PlanItem}
use Rattle.relation_map.specs.Equal.{Carriage, carriage}
use Rattle.relation_map.specs.Pairs.{entries_of}
use Rattle.relation_map.proofs.Alike.{same_carriages}
use Rattle.plan_build.specs.Planned.{file_at, carriages, relation_items, plan_in}
use Rattle.plan_build.proofs.Carriable.{IsOf, of_all}
use Rattle.plan_build.proofs.Carrying.{one_path}
use Rattle.plan_build.proofs.Lists.{Among, all_of, of_mapped, contains}
use Rattle.phase_facts.specs.Places.{old_site, new_site}
use Rattle.phase_facts.specs.Plans.{IsRelationItem}

of_relation : (job : Job) (catalog : Cluster) (s : FsState) (entry : Carriage) (relation : Relation) (item : PlanItem) → Among (relations_of catalog) relation → entry ≡ carriage job catalog relation → IsOf s entry item → IsRelationItem job catalog item
of_relation job catalog s entry relation item there is of = record {
  relation = relation;
  listed = contains (relations_of catalog) relation there;
  fork = of.fork;
  segment = of.segment;
  from_is = ap (λ (i : PlanItem). i.from) of.is ∙ ap (λ (e : Carriage). file_at e.from_dir e.file of.fork of.segment) is ∙ one_path (old_site job catalog) relation of.fork of.segment;
  to_is = ap (λ (i : PlanItem). i.to) of.is ∙ ap (λ (e : Carriage). file_at e.to_dir e.file of.fork of.segment) is ∙ one_path (new_site job catalog) relation of.fork of.segment;
}

pub plan_of_relations : (job : Job) (catalog : Cluster) (s : FsState) → IsValid catalog → (items : List PlanItem) → items ≡ plan_in s (entries_of job catalog catalog) → AllByRecursion (IsRelationItem job catalog) items
unfolding plan_in
plan_of_relations job catalog s valid items is =
    subst (AllByRecursion (IsRelationItem job catalog)) (sym is)
    (all_of (IsRelationItem job catalog) (flat_map (relation_items s) (carriages (entries_of job catalog catalog)))
    (λ item one.
    let (entry, there, of) = of_all s (carriages (entries_of job catalog catalog)) item one in
    let (relation, listed, same) = of_mapped (carriage job catalog) (relations_of catalog) entry (subst (λ (entries : List Carriage). Among entries entry) (same_carriages job catalog valid) there) in
    of_relation job catalog s entry relation item listed same of))
