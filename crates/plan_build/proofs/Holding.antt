-- A plan is of each state that has the same at the names of its relations.
use Rattle.std.proofs.Common.{◌≡◌, ◌∙◌, ◌++◌, List, [], ◌∷◌, map, refl, sym, ap}
use Rattle.std.specs.Prelude.{is_some}
use Rattle.std.specs.List.{AllByRecursion, flat_map}
use Rattle.fs_model.specs.State.{FsState}
use Rattle.relation_files.specs.declared.relation.Fork.{Fork}
use Rattle.relation_files.specs.declared.relation.Fork.TheVariants.{Main, FreeSpace, Visibility}
use Rattle.relation_files.specs.Carried.{belongs}
use Rattle.transfer_plan.specs.declared.plan.PlanItem.{PlanItem}
use Rattle.relation_map.specs.declared.map.MapEntry.{MapEntry}
use Rattle.relation_map.specs.Equal.{Carriage}
use Rattle.plan_build.specs.Planned.{file_at, segments_of, HasEnds, fork_items, relation_items, carriages, plan_in}
use Rattle.plan_build.specs.Plannable.{IsPlannable, IsPlanOf}
use Rattle.plan_build.specs.Carrying.{HaveSame}

module _ (a b : FsState) where
  fork_still : (entry : Carriage) (fork : Fork) → HaveSame a b entry → fork_items b entry fork ≡ fork_items a entry fork
  fork_still entry fork same =
      λ i. map (λ segment. record { from = file_at entry.from_dir entry.file fork segment; to = file_at entry.to_dir entry.file fork segment; replaces = is_some (same.new fork segment i) })
      (segments_of fork (λ segment. same.files fork segment i))

  items_still : (entry : Carriage) → HaveSame a b entry → relation_items b entry ≡ relation_items a entry
  items_still entry same = λ i. fork_still entry Main same i ++ (fork_still entry FreeSpace same i ++ fork_still entry Visibility same i)

  all_still : (entries : List Carriage) → AllByRecursion (HaveSame a b) entries → flat_map (relation_items b) entries ≡ flat_map (relation_items a) entries
  all_still [] same = refl
  all_still (entry ∷ entries) same = λ i. items_still entry same.0 i ++ all_still entries same.1 i

  plannable_still : (entry : Carriage) → HaveSame a b entry → IsPlannable a entry → IsPlannable b entry
  plannable_still entry same can = record {
    number = can.number;
    first = ap is_some (same.files Main 0) ∙ can.first;
    files = λ fork segment node few is. can.files fork segment node few (sym (same.old fork segment) ∙ is);
    dir = same.dir ∙ can.dir;
    no_dirs = λ fork segment few is. can.no_dirs fork segment few (sym (same.new fork segment) ∙ is);
  }

  each_still : (entries : List Carriage) → AllByRecursion (HaveSame a b) entries → AllByRecursion (IsPlannable a) entries → AllByRecursion (IsPlannable b) entries
  each_still [] same can = tt
  each_still (entry ∷ entries) same can = (plannable_still entry same.0 can.0, each_still entries same.1 can.1)

  ends_still : (entries : List Carriage) → AllByRecursion (HaveSame a b) entries → AllByRecursion (HasEnds a) entries → AllByRecursion (HasEnds b) entries
  ends_still [] same ends = tt
  ends_still (entry ∷ entries) same ends = (
    λ fork. (let (last, below, is) = ends.0 fork in (last, below, ap (belongs fork last) (same.0.files fork last) ∙ is)),
    ends_still entries same.1 ends.1,
  )

  pub plan_still : (entries : List MapEntry) (items : List PlanItem) → AllByRecursion (HaveSame a b) (carriages entries) → IsPlanOf a entries items → IsPlanOf b entries items
  unfolding plan_in
  plan_still entries items same plan = record {
    can = record { each = each_still (carriages entries) same plan.can.each; alone = plan.can.alone; dirs = plan.can.dirs };
    is = plan.is ∙ sym (all_still (carriages entries) same);
    ends = ends_still (carriages entries) same plan.ends;
  }
