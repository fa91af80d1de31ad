-- The main file of each relation is one of the names that the replay of its catalog makes.
use Rattle.std.proofs.Common.{◌≡◌, inl, inr, ℕ, Bool, true, false, not, if◌then◌else◌, List, [], ◌∷◌, ◌++◌, map, Option, Some, None, refl, sym, ◌∙◌, ap, subst}
use Rattle.std.specs.Option.{option_map_or}
use Rattle.std.specs.List.{Contains, flat_map, find, list_any}
use Rattle.control_file.specs.declared.job.Job.{Job}
use Rattle.control_file.specs.declared.releases.Release.TheVariants.{V16}
use Rattle.catalog.specs.Cluster.{Cluster, DatabaseObjects, first_databases, started}
use Rattle.catalog.specs.Spaces.{tablespace_has, database_has}
use Rattle.catalog.specs.Valid.{IsValid}
use Rattle.relation_files.specs.declared.relation.Relation.{Relation}
use Rattle.relation_files.specs.Relations as files
use Rattle.new_names.specs.declared.names.NewName.{NewName}
use Rattle.catalog_server.specs.declared.relation.Relation.{Relation as ServerRelation}
use Rattle.catalog_server.specs.ReplayNames.{relation_has, relations_of, relations_in, is_new_relation, file_names, holding_names, relation_names, tablespace_names, database_names, held_names, new_names, catalog_name, listed_names}
use Rattle.catalog_server.specs.MainFiles.{main_file, main_files, listed_files}
use Rattle.catalog_server.proofs.Members.{In, to_in, from_in, in_left, in_right, in_if, in_find, in_map, in_flat, flat_in}
use Rattle.catalog_server.proofs.MainFiles.{files_are_main}
use Rattle.upgraded.specs.Places.{new_site, replay_names}

-- a cluster starts with no relations
none_at_start : (bootstrap : List ℕ) (oid : ℕ) → relations_in (started bootstrap) oid ≡ []
unfolding relations_of
none_at_start bootstrap oid = by (find (database_has oid) first_databases) refl
  where
    empty_first : (d : DatabaseObjects) → In first_databases d → relations_of d ≡ []
    empty_first d (inl is) = ap relations_of is
    empty_first d (inr (inl is)) = ap relations_of is
    empty_first d (inr (inr (inl is))) = ap relations_of is
    empty_first d (inr (inr (inr none))) = absurd none

    by : (found : Option DatabaseObjects) → find (database_has oid) first_databases ≡ found → option_map_or relations_of found [] ≡ []
    by None e = refl
    by (Some d) e = empty_first d (in_find (database_has oid) first_databases d e)

module _ (job : Job) (catalog : Cluster) (valid : IsValid catalog) where
  abbrev before : Cluster
  before = started catalog.bootstrap

  in_held : (d : DatabaseObjects) (name : NewName) → In (listed_files job.new V16 catalog.tablespaces d) name → In (held_names job.new V16 before catalog d) name
  in_held d name found =
      let (r, r_found, here) = flat_in (λ (r : ServerRelation). file_names job.new V16 d.oid r.file (find (tablespace_has r.tablespace) catalog.tablespaces)) (relations_of d) name found in
      let new : is_new_relation (relations_in before d.oid) r ≡ true = ap (λ earlier. is_new_relation earlier r) (none_at_start catalog.bootstrap d.oid) in
      in_right (flat_map (holding_names job.new V16 d.oid (relations_in before d.oid) (relations_of d)) catalog.tablespaces)
      (flat_map (relation_names job.new V16 catalog.tablespaces d.oid (relations_in before d.oid)) (relations_of d)) name
      (in_flat (relation_names job.new V16 catalog.tablespaces d.oid (relations_in before d.oid)) (relations_of d) r name r_found
      (in_if (is_new_relation (relations_in before d.oid) r) (file_names job.new V16 d.oid r.file (find (tablespace_has r.tablespace) catalog.tablespaces)) name new here))

  in_names : (d : DatabaseObjects) → In catalog.databases d → (name : NewName) → In (held_names job.new V16 before catalog d) name → In (new_names job.new V16 before catalog) name
  unfolding new_names
  in_names d d_found name found =
      in_right (flat_map (tablespace_names job.new V16 before) catalog.tablespaces) (flat_map (database_names job.new V16 before) catalog.databases ++ flat_map (held_names job.new V16 before catalog) catalog.databases) name
      (in_right (flat_map (database_names job.new V16 before) catalog.databases) (flat_map (held_names job.new V16 before catalog) catalog.databases) name
      (in_flat (held_names job.new V16 before catalog) catalog.databases d name d_found found))

  pub main_listed : (relation : Relation) → Contains (files.relations_of catalog) relation → Contains (replay_names job catalog) (main_file (new_site job catalog) relation)
  unfolding files.relations_of
  main_listed relation found =
      let (d, d_found, inside) = flat_in files.relations_in catalog.databases relation (to_in (files.relations_of catalog) relation found) in
      let name = main_file (new_site job catalog) relation in
      let main : In (main_files (new_site job catalog) d) name = in_map (main_file (new_site job catalog)) (files.relations_in d) relation inside in
      let listed : In (listed_files job.new V16 catalog.tablespaces d) name = subst (λ l. In l name) (sym (files_are_main job.new V16 catalog d valid (from_in catalog.databases d d_found))) main in
      from_in (replay_names job catalog) name (in_left (new_names job.new V16 before catalog) (catalog_name job.new catalog ∷ []) name (in_names d d_found name (in_held d name listed)))
