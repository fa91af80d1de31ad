-- What the names are that the replay of the old catalog makes: directories and links, the versions of databases, the first
-- segments of relations, and the catalog's text.
use Rattle.std.proofs.Common.{◌≡◌, ◌⊎◌, inl, inr, ℕ, Bool, true, false, cond, [], ◌∷◌, ◌++◌, codes, refl, sym, ap, subst, nat_eq}
use Rattle.std.specs.List.{Contains, flat_map, find}
use Rattle.std.specs.Fmt.{decimal}
use Rattle.fs_model.specs.Names.{Path}
use Rattle.control_file.specs.declared.job.Job.{Job}
use Rattle.control_file.specs.declared.releases.Release.TheVariants.{V16}
use Rattle.control_file.specs.Version.{dir_name_of, version_text_of}
use Rattle.catalog.specs.declared.owners.Tablespace.{Tablespace}
use Rattle.catalog.specs.Cluster.{Cluster, DatabaseObjects, started, default_tablespace}
use Rattle.catalog.specs.Spaces.{tablespace_has}
use Rattle.catalog.specs.Valid.{IsValid}
use Rattle.relation_files.specs.declared.relation.Relation.{Relation}
use Rattle.relation_files.specs.declared.relation.Fork.TheVariants.{Main}
use Rattle.relation_files.specs.Places.{segment_path}
use Rattle.relation_files.specs.Relations as files
use Rattle.new_names.specs.declared.names.NewName.{NewName}
use Rattle.new_names.specs.declared.names.NewNode.{NewNode}
use Rattle.new_names.specs.declared.names.NewNode.TheVariants.{Dir, File, Sym}
use Rattle.new_names.specs.Frame.{IsListed}
use Rattle.catalog_server.specs.declared.relation.Relation as server
use Rattle.catalog_server.specs.Profile.{catalog_path}
use Rattle.catalog_server.specs.ReplayNames.{base_path, links_path, link_path, databases_path, relations_of, relations_in, is_new_tablespace, is_new_database, is_new_relation, is_newly_held, tablespace_names, database_names, holding_names, file_names, relation_names, held_names, new_names, catalog_name}
use Rattle.catalog_server.specs.MainFiles.{listed_files, main_file, main_files}
use Rattle.catalog_server.proofs.Members.{In, to_in, from_in, in_either, in_flat, flat_in, from_if, from_map}
use Rattle.catalog_server.proofs.MainFiles.{files_are_main}
use Rattle.upgraded.specs.Places.{new_site, replay_names}

abbrev pub IsNoFile : NewNode → Type 0
IsNoFile Dir = Unit {0}
IsNoFile (File bytes) = ⊥
IsNoFile (Sym target) = Unit {0}

-- the last name is a number, or the release's, or the path is that of the databases
abbrev pub IsDirectoryName : Path → Path → Type 0
IsDirectoryName root path =
    ((dir : Path) × (n : ℕ) × (path ≡ dir ++ decimal n ∷ [])) ⊎ (((dir : Path) × (path ≡ dir ++ dir_name_of V16 ∷ [])) ⊎ (path ≡ base_path root))

abbrev pub IsVersionName : Path → Path → Type 0
IsVersionName root path = (n : ℕ) × (path ≡ base_path root ++ decimal n ∷ codes "PG_VERSION" ∷ [])

abbrev pub IsMainName : Job → Cluster → Path → Type 0
IsMainName job catalog path = (relation : Relation) × Contains (files.relations_of catalog) relation × (path ≡ segment_path (new_site job catalog) relation Main 0)

abbrev pub IsKind : Job → Cluster → Path → NewNode → Type 0
IsKind job catalog path what =
    (IsNoFile what × IsDirectoryName job.new path) ⊎ (IsVersionName job.new path ⊎ (IsMainName job catalog path ⊎ (path ≡ catalog_path job.new)))

module _ (job : Job) (catalog : Cluster) (valid : IsValid catalog) where
  abbrev Kind : NewName → Type 0
  Kind name = IsKind job catalog name.path name.node

  abbrev before : Cluster
  before = started catalog.bootstrap

  directory_of : (location : Path) (b : Bool) → IsDirectoryName job.new (cond b (base_path job.new) (location ++ dir_name_of V16 ∷ []))
  directory_of location true = inr (inr refl)
  directory_of location false = inr (inl (location, refl))

  of_tablespace : (t : Tablespace) (name : NewName) → In (tablespace_names job.new V16 before t) name → Kind name
  of_tablespace t name found = by (from_if (is_new_tablespace before t) _ name found).1
    where
      by : In (record { path = databases_path job.new V16 t; node = Dir } ∷ record { path = link_path job.new t.oid; node = Sym t.location } ∷ []) name → Kind name
      by (inl is) = subst Kind (sym is) (inl (tt, directory_of t.location (nat_eq t.oid default_tablespace)))
      by (inr (inl is)) = subst Kind (sym is) (inl (tt, inl (links_path job.new, t.oid, refl)))
      by (inr (inr none)) = absurd none

  of_database : (d : DatabaseObjects) (name : NewName) → In (database_names job.new V16 before d) name → Kind name
  of_database d name found = by (from_if (is_new_database before d) _ name found).1
    where
      by : In (record { path = base_path job.new ++ decimal d.oid ∷ []; node = Dir } ∷ record { path = base_path job.new ++ decimal d.oid ∷ codes "PG_VERSION" ∷ []; node = File (version_text_of V16) } ∷ []) name → Kind name
      by (inl is) = subst Kind (sym is) (inl (tt, inl (base_path job.new, d.oid, refl)))
      by (inr (inl is)) = subst Kind (sym is) (inr (inl (d.oid, refl)))
      by (inr (inr none)) = absurd none

  of_holding : (d : DatabaseObjects) (t : Tablespace) (name : NewName) → In (holding_names job.new V16 d.oid (relations_in before d.oid) (relations_of d) t) name → Kind name
  of_holding d t name found = by (from_if (is_newly_held (relations_in before d.oid) (relations_of d) t) _ name found).1
    where
      by : In (record { path = databases_path job.new V16 t ++ decimal d.oid ∷ []; node = Dir } ∷ []) name → Kind name
      by (inl is) = subst Kind (sym is) (inl (tt, inl (databases_path job.new V16 t, d.oid, refl)))
      by (inr none) = absurd none

  of_relation : (d : DatabaseObjects) → In catalog.databases d → (r : server.Relation) → In (relations_of d) r → (name : NewName)
      → In (relation_names job.new V16 catalog.tablespaces d.oid (relations_in before d.oid) r) name → Kind name
  unfolding files.relations_of files.relations_in
  of_relation d among r r_among name found =
      let here : In (listed_files job.new V16 catalog.tablespaces d) name =
      in_flat (λ (r : server.Relation). file_names job.new V16 d.oid r.file (find (tablespace_has r.tablespace) catalog.tablespaces)) (relations_of d) r name r_among
      (from_if (is_new_relation (relations_in before d.oid) r) _ name found).1 in
      let main : In (main_files (new_site job catalog) d) name = subst (λ l. In l name) (files_are_main job.new V16 catalog d valid (from_in catalog.databases d among)) here in
      let (relation, inside, is) = from_map (main_file (new_site job catalog)) (files.relations_in d) name main in
      subst Kind (sym is) (inr (inr (inl (relation, from_in (files.relations_of catalog) relation (in_flat files.relations_in catalog.databases d relation among inside), refl))))

  of_held : (d : DatabaseObjects) → In catalog.databases d → (name : NewName) → In (held_names job.new V16 before catalog d) name → Kind name
  of_held d among name found =
      in_either (flat_map (holding_names job.new V16 d.oid (relations_in before d.oid) (relations_of d)) catalog.tablespaces)
      (flat_map (relation_names job.new V16 catalog.tablespaces d.oid (relations_in before d.oid)) (relations_of d)) name (Kind name)
      (λ here. let (t, _, inside) = flat_in (holding_names job.new V16 d.oid (relations_in before d.oid) (relations_of d)) catalog.tablespaces name here in of_holding d t name inside)
      (λ here. let (r, r_among, inside) = flat_in (relation_names job.new V16 catalog.tablespaces d.oid (relations_in before d.oid)) (relations_of d) name here in of_relation d among r r_among name inside) found

  of_new : (name : NewName) → In (new_names job.new V16 before catalog) name → Kind name
  unfolding new_names
  of_new name found =
      in_either (flat_map (tablespace_names job.new V16 before) catalog.tablespaces) (flat_map (database_names job.new V16 before) catalog.databases ++ flat_map (held_names job.new V16 before catalog) catalog.databases) name (Kind name)
      (λ here. let (t, _, inside) = flat_in (tablespace_names job.new V16 before) catalog.tablespaces name here in of_tablespace t name inside)
      (λ rest.
      in_either (flat_map (database_names job.new V16 before) catalog.databases) (flat_map (held_names job.new V16 before catalog) catalog.databases) name (Kind name)
      (λ here. let (d, _, inside) = flat_in (database_names job.new V16 before) catalog.databases name here in of_database d name inside)
      (λ here. let (d, among, inside) = flat_in (held_names job.new V16 before catalog) catalog.databases name here in of_held d among name inside) rest) found

  -- each name of the replay is one of these
  pub listed_kind : (path : Path) (what : NewNode) → IsListed (replay_names job catalog) path what → IsKind job catalog path what
  listed_kind path what listed =
      let name : NewName = record { path = path; node = what } in
      in_either (new_names job.new V16 before catalog) (catalog_name job.new catalog ∷ []) name (Kind name)
      (of_new name)
      (λ here. elim here [ inl is ↦ inr (inr (inr (ap (λ (n : NewName). n.path) is))) | inr none ↦ absurd none ]) (to_in (replay_names job catalog) name listed)
