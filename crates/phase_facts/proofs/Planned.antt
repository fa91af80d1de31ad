-- The files of relations stand in the directories of their clusters that a plan is in.
use Rattle.std.proofs.Common.{◌≡◌, ◌∙◌, ◌++◌, ◌∷◌, [], ℕ, true, false, nat_eq, if◌then◌else◌, List, map, Some, inl, inr, refl, sym, ap, subst, append_assoc}
use Rattle.std.specs.Prelude.{codes}
use Rattle.std.specs.List.{AllByRecursion, Contains, find}
use Rattle.std.specs.Fmt.{decimal}
use Rattle.fs_model.specs.Names.{Path, parent}
use Rattle.fs_model.specs.State.{FsState}
use Rattle.control_file.specs.declared.job.Job.{Job}
use Rattle.control_file.specs.declared.releases.Release.{Release}
use Rattle.control_file.specs.declared.releases.Release.TheVariants.{V15, V16}
use Rattle.control_file.specs.Version.{dir_name_of}
use Rattle.crash_safety.specs.Frame.{IsInside}
use Rattle.crash_safety.specs.Synced.{IsOneOf}
use Rattle.crash_safety.proofs.Needing.{parent_of}
use Rattle.catalog.specs.declared.owners.Tablespace.{Tablespace}
use Rattle.catalog.specs.Cluster.{Cluster, default_tablespace}
use Rattle.catalog.specs.Spaces.{tablespace_has}
use Rattle.catalog.specs.Valid.{IsValid}
use Rattle.relation_files.specs.declared.relation.Relation.{Relation}
use Rattle.relation_files.specs.declared.relation.Fork.{Fork}
use Rattle.relation_files.specs.Places.{Site, tablespace_dir, location_in, relation_dir, segment_path, file_name}
use Rattle.relation_files.specs.Relations.{relations_of}
use Rattle.catalog_server.proofs.Members.{In}
use Rattle.transfer_plan.specs.declared.plan.PlanItem.{PlanItem}
use Rattle.transfer_plan.specs.Carriable.{names_of, targets}
use Rattle.phase_facts.specs.Places.{file_tops, holders_in, locations_of}
use Rattle.phase_facts.specs.CanUpgrade.{CanUpgrade}
use Rattle.phase_facts.specs.Plans.{IsRelationItem, IsPlanIn}
use Rattle.phase_facts.proofs.Replaying.{region_in}
use Rattle.phase_facts.proofs.Tablespaces.{tablespace_found, location_among}

pub inside_left : (tops more : List Path) (path : Path) → IsInside tops path → IsInside (tops ++ more) path
inside_left [] more path none = absurd none
inside_left (top ∷ tops) more path (inl under) = inl under
inside_left (top ∷ tops) more path (inr inside) = inr (inside_left tops more path inside)

pub inside_right : (tops more : List Path) (path : Path) → IsInside more path → IsInside (tops ++ more) path
inside_right [] more path inside = inside
inside_right (top ∷ tops) more path inside = inr (inside_right tops more path inside)

module _ (root : Path) (release : Release) (catalog : Cluster) (valid : IsValid catalog) (locations : List Path) (recorded : (location : Path) → IsOneOf (locations_of catalog.tablespaces) location → IsOneOf locations location) where
  abbrev site : Site
  site = record { root = root; release = release; tablespaces = catalog.tablespaces }

  -- what is below a tablespace's directory
  below_dir : (tablespace : ℕ) (t : Tablespace) → find (tablespace_has tablespace) catalog.tablespaces ≡ Some t → In catalog.tablespaces t → t.oid ≡ tablespace → (rest : Path) → IsInside (file_tops root release locations) (tablespace_dir site tablespace ++ rest)
  below_dir tablespace t is found same rest =
      (elim (nat_eq tablespace default_tablespace) as (λ b. nat_eq tablespace default_tablespace ≡ b → IsInside (file_tops root release locations) ((if b then root ++ codes "base" ∷ [] else location_in (find (tablespace_has tablespace) catalog.tablespaces) ++ dir_name_of release ∷ []) ++ rest)) [
        | true ↦ λ _. inl (rest, refl)
        | false ↦ λ e. inr (subst (λ found_one. IsInside (map (λ location. location ++ dir_name_of release ∷ []) locations) ((location_in found_one ++ dir_name_of release ∷ []) ++ rest)) (sym is)
            (region_in (dir_name_of release) locations t.location rest (recorded t.location (location_among catalog.tablespaces t found (ap (λ n. nat_eq n default_tablespace) same ∙ e)))))
      ]) refl

  pub below_relation : (r : Relation) → Contains (relations_of catalog) r → (rest : Path) → IsInside (file_tops root release locations) (relation_dir site r ++ rest)
  below_relation r listed rest =
      let (t, is, found, same) = tablespace_found catalog valid r listed in
      subst (IsInside (file_tops root release locations)) (sym (append_assoc (tablespace_dir site r.tablespace) (decimal r.database ∷ []) rest))
      (below_dir r.tablespace t is found same (decimal r.database ∷ rest))

  pub segment_inside : (r : Relation) → Contains (relations_of catalog) r → (fork : Fork) (segment : ℕ) → IsInside (file_tops root release locations) (segment_path site r fork segment)
  unfolding segment_path
  segment_inside r listed fork segment = below_relation r listed (file_name r fork segment ∷ [])

  pub parent_inside : (r : Relation) → Contains (relations_of catalog) r → (fork : Fork) (segment : ℕ) → IsInside (file_tops root release locations) (parent (segment_path site r fork segment))
  unfolding segment_path
  parent_inside r listed fork segment =
      subst (IsInside (file_tops root release locations)) (append-nil (relation_dir site r) ∙ sym (parent_of (relation_dir site r) (file_name r fork segment))) (below_relation r listed [])
    where
      append-nil : (path : Path) → path ++ [] ≡ path
      append-nil [] = refl
      append-nil (name ∷ path) = ap (λ rest. name ∷ rest) (append-nil path)

module _ (job : Job) (catalog : Cluster) (head : List ℕ) (s : FsState) (can : CanUpgrade job catalog head s) where
  abbrev old_tops : List Path
  old_tops = file_tops job.old V15 (holders_in job s)

  abbrev new_tops : List Path
  new_tops = file_tops job.new V16 (holders_in job s)

  from_in : (item : PlanItem) → IsRelationItem job catalog item → IsInside old_tops item.from × IsInside old_tops (parent item.from)
  from_in item is = (
    subst (IsInside old_tops) (sym is.from_is) (segment_inside job.old V15 catalog can.valid (holders_in job s) can.recorded is.relation is.listed is.fork is.segment),
    subst (λ path. IsInside old_tops (parent path)) (sym is.from_is) (parent_inside job.old V15 catalog can.valid (holders_in job s) can.recorded is.relation is.listed is.fork is.segment),
  )

  to_in_new : (item : PlanItem) → IsRelationItem job catalog item → IsInside new_tops item.to × IsInside new_tops (parent item.to)
  to_in_new item is = (
    subst (IsInside new_tops) (sym is.to_is) (segment_inside job.new V16 catalog can.valid (holders_in job s) can.recorded is.relation is.listed is.fork is.segment),
    subst (λ path. IsInside new_tops (parent path)) (sym is.to_is) (parent_inside job.new V16 catalog can.valid (holders_in job s) can.recorded is.relation is.listed is.fork is.segment),
  )

  all_targets : (items : List PlanItem) → AllByRecursion (IsRelationItem job catalog) items → (path : Path) → IsOneOf (targets items) path → IsInside new_tops path
  all_targets [] all path none = absurd none
  all_targets (item ∷ items) all path (inl same) = subst (IsInside new_tops) (sym same) (to_in_new item all.0).0
  all_targets (item ∷ items) all path (inr one) = all_targets items all.1 path one

  all_names : (items : List PlanItem) → AllByRecursion (IsRelationItem job catalog) items → (path : Path) → IsOneOf (names_of items) path → IsInside (old_tops ++ new_tops) path
  all_names [] all path none = absurd none
  all_names (item ∷ items) all path (inl same) = subst (IsInside (old_tops ++ new_tops)) (sym same) (inside_left old_tops new_tops item.from (from_in item all.0).0)
  all_names (item ∷ items) all path (inr (inl same)) = subst (IsInside (old_tops ++ new_tops)) (sym same) (inside_right old_tops new_tops item.to (to_in_new item all.0).0)
  all_names (item ∷ items) all path (inr (inr (inl same))) = subst (IsInside (old_tops ++ new_tops)) (sym same) (inside_left old_tops new_tops (parent item.from) (from_in item all.0).1)
  all_names (item ∷ items) all path (inr (inr (inr (inl same)))) = subst (IsInside (old_tops ++ new_tops)) (sym same) (inside_right old_tops new_tops (parent item.to) (to_in_new item all.0).1)
  all_names (item ∷ items) all path (inr (inr (inr (inr one)))) = all_names items all.1 path one

  pub relation_plan_in : (items : List PlanItem) → AllByRecursion (IsRelationItem job catalog) items → IsPlanIn job s items
  relation_plan_in items all = record { targets = all_targets items all; names = all_names items all }
