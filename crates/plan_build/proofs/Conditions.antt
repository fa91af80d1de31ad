-- Where both clusters have one catalog, and its relations their files, a plan can be made.
use Rattle.std.proofs.Common.{◌≡◌, ◌≢◌, ◌∙◌, ◌<◌, ◌^◌, true, [], ◌∷◌, ◌++◌, map, Contains, Some, sym, ap, subst}
use Rattle.std.specs.Prelude.{is_some}
use Rattle.std.specs.List.{AllByRecursion}
use Rattle.std.specs.FinMap.{get}
use Rattle.fs_model.specs.declared.node.Node.TheVariants.{Dir}
use Rattle.fs_model.specs.State.{FsState}
use Rattle.crash_safety.proofs.Needing.{parent_of, parent_stands, no_root}
use Rattle.fs_model.specs.WellFormed.{WellFormed}
use Rattle.control_file.specs.declared.job.Job.{Job}
use Rattle.catalog.specs.Cluster.{Cluster}
use Rattle.catalog.specs.Spaces.{file_places}
use Rattle.catalog.specs.Valid.{IsValid}
use Rattle.relation_files.specs.declared.relation.Relation.{Relation}
use Rattle.relation_files.specs.declared.relation.Fork.TheVariants.{Main}
use Rattle.relation_files.specs.Places.{relation_dir, file_name, segment_path}
use Rattle.relation_files.specs.Relations.{relation_at, relations_in, relations_of}
use Rattle.relation_map.specs.Equal.{Carriage, carriage}
use Rattle.relation_map.specs.Pairs.{old_site, new_site, entries_of}
use Rattle.relation_map.proofs.Alike.{same_carriages}
use Rattle.plan_build.specs.Planned.{carriages}
use Rattle.plan_build.specs.Plannable.{IsPlannable, AreAlone, AreOtherDirs, CanBePlanned}
use Rattle.plan_build.specs.Carrying.{HasFiles, HaveOwnLocations}
use Rattle.plan_build.proofs.Carrying.{one_path, one_file}
use Rattle.plan_build.proofs.Distinct.{all_alone, other_dirs}
use Rattle.plan_build.proofs.Lists.{Among, all_of, of_mapped, of_flat, contains}
use Rattle.plan_build.proofs.Standing.{file_small}

-- the file number of a relation has 32 bits
number_small : (c : Cluster) → IsValid c → (relation : Relation) → Among (relations_of c) relation → relation.file < 2 ^ 32
unfolding relations_of relations_in
number_small c valid relation one =
    let (d, there, inside) = of_flat relations_in c.databases relation one in
    let (place, among, is) = of_mapped (relation_at d) (file_places d) relation inside in
    subst (λ (r : Relation). r.file < 2 ^ 32) (sym is) (file_small c valid d there place among)

relation_plannable : (s : FsState) (job : Job) (c : Cluster) (relation : Relation) → relation.file < 2 ^ 32 → HasFiles s job c relation → IsPlannable s (carriage job c relation)
relation_plannable s job c relation small has = record {
  number = small;
  first = ap is_some (one_file s (old_site job c) relation Main 0) ∙ has.first;
  files = λ fork segment node few is. has.files fork segment node few (ap (get s.names) (sym (one_path (old_site job c) relation fork segment)) ∙ is);
  dir = has.dir;
  no_dirs = λ fork segment few is. has.no_dirs fork segment few (ap (get s.names) (sym (one_path (new_site job c) relation fork segment)) ∙ is);
}

pub can_be_planned : (job : Job) (c : Cluster) (s : FsState) → IsValid c → job.old ≢ job.new → HaveOwnLocations c.tablespaces
    → ((relation : Relation) → Contains (relations_of c) relation → HasFiles s job c relation) → CanBePlanned s (entries_of job c c)
can_be_planned job c s valid other own has =
    let same : carriages (entries_of job c c) ≡ map (carriage job c) (relations_of c) = same_carriages job c valid in
    record {
      each = subst (AllByRecursion (IsPlannable s)) (sym same) (all_of (IsPlannable s) (map (carriage job c) (relations_of c)) each);
      alone = subst AreAlone (sym same) (all_alone job c valid own);
      dirs = subst AreOtherDirs (sym same) (other_dirs job c (relations_of c) other);
    }
  where
    each : (entry : Carriage) → Among (map (carriage job c) (relations_of c)) entry → IsPlannable s entry
    each entry one =
        let (relation, there, is) = of_mapped (carriage job c) (relations_of c) entry one in
        subst (IsPlannable s) (sym is) (relation_plannable s job c relation (number_small c valid relation there) (has relation (contains (relations_of c) relation there)))

-- the directory of a file that stands
pub dir_stands : (job : Job) (c : Cluster) (s : FsState) (relation : Relation) → WellFormed s → is_some (get s.names (segment_path (new_site job c) relation Main 0)) ≡ true → get s.names (relation_dir (new_site job c) relation) ≡ Some Dir
unfolding segment_path
dir_stands job c s relation formed some =
    let dir = relation_dir (new_site job c) relation in
    let name = file_name relation Main 0 in
    ap (get s.names) (sym (parent_of dir name)) ∙ parent_stands s.names (dir ++ name ∷ []) (formed.tree (dir ++ name ∷ []) some) (no_root dir name)
