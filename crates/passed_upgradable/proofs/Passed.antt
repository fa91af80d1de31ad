-- Where the checks find nothing, an upgrade gives an upgraded cluster.
use Rattle.std.proofs.Common.{◌≡◌, ◌≢◌, ℕ, ◌<◌, Bool, true, false, not, List, [], ◌∷◌, ◌++◌, Option, Some, None, refl, sym, ◌∙◌, ap, subst, append_assoc}
use Rattle.std.specs.Prelude.{codes, is_some, unwrap_or}
use Rattle.std.specs.List.{Contains}
use Rattle.std.specs.FinMap.{get}
use Rattle.std.specs.Fmt.{decimal}
use Rattle.fs_model.specs.declared.node.Node.{Node}
use Rattle.fs_model.specs.declared.node.Node.TheVariants.{Dir, File, Sym}
use Rattle.fs_model.specs.Names.{Path}
use Rattle.fs_model.specs.State.{Names, FsState}
use Rattle.fs_model.specs.Effects.{bytes_of}
use Rattle.fs_model.specs.Reading.{file_bytes, inode_of_node}
use Rattle.std.specs.Option.{option_map}
use Rattle.fs_model.specs.WellFormed.{WellFormed}
use Rattle.fs_tools.specs.Children.{child_of}
use Rattle.control_file.specs.declared.job.Job.{Job}
use Rattle.control_file.specs.declared.modes.Side.TheVariants.{Old, New}
use Rattle.control_file.specs.declared.releases.Release.TheVariants.{V15, V16}
use Rattle.control_file.specs.ControlRecord.{IsRecordOf, control_of}
use Rattle.crash_safety.specs.Places.{control_at}
use Rattle.catalog.specs.declared.owners.Tablespace.{Tablespace}
use Rattle.catalog.specs.Cluster.{Cluster, default_tablespace}
use Rattle.catalog.specs.Valid.{IsValid}
use Rattle.catalog_server.specs.Profile.{profile_path}
use Rattle.catalog_server.specs.Fresh.{IsUnused, AreLocationsReady}
use Rattle.catalog_server.proofs.Members.{In, to_in}
use Rattle.relation_files.specs.declared.relation.Relation.{Relation}
use Rattle.relation_files.specs.declared.relation.Fork.TheVariants.{Main}
use Rattle.relation_files.specs.Places.{segment_path}
use Rattle.relation_files.specs.Relations.{relations_of}
use Rattle.cluster_meaning.specs.Cluster.{control_at as control_in}
use Rattle.phase_facts.specs.CanUpgrade.{AreRead}
use Rattle.tree_checks.specs.Findings.{found_if}
use Rattle.tree_checks.specs.Looks.{kind_at, kind_of, is_file}
use Rattle.file_checks.specs.Clusters.{old_site}
use Rattle.file_checks.specs.RelationFiles.{IsBadRelation}
use Rattle.shared_inodes.specs.SharedInodes.{IsSharedInode}
use Rattle.upgraded.specs.Upgraded.{ReadsCatalog}
use Rattle.upgraded.specs.Upgradable.{IsPlaced, IsUpgradable}
use Rattle.passed_checks.specs.Controls.{AreStoppedClusters}
use Rattle.passed_checks.specs.Passing.{PassesFiles, PassesRelations}
use Rattle.passed_checks.proofs.Stopped.{are_stopped}
use Rattle.passed_checks.proofs.Standing.{dir_stands, unused_cluster, profile_alone}
use Rattle.passed_checks.proofs.Located.{no_first, not_found, locations_ready, link_stands, new_free, places_apart, placed_in}
use Rattle.passed_checks.proofs.Beginning.{in_new_regions}
use Rattle.passed_checks.proofs.OwnFiles.{first_there}
use Rattle.passed_upgradable.proofs.Valid.{relation_known}
use Rattle.passed_upgradable.proofs.Records.{read_is_record, read_is_control}
use Rattle.passed_upgradable.proofs.Free.{all_below_free, file_free}

module _ (read : ReadsCatalog) (s : FsState) (job : Job) (catalog : Cluster) (well : WellFormed s) (valid : IsValid catalog) (are_read : AreRead read job catalog s) (passes : PassesFiles s job catalog) (relations : PassesRelations s job catalog) where
  stopped : AreStoppedClusters s job
  stopped = are_stopped s job passes.controls

  unused : IsUnused job.new s
  unused = unused_cluster s job.old job.new passes.directories passes.used

  ready : AreLocationsReady job.new V16 catalog s
  ready = locations_ready s job.old job.new catalog passes.tablespaces

  profile_free : (name : List ℕ) (rest : Path) → name ≢ codes "catalog.sql" → get s.names (profile_path job.new ++ name ∷ rest) ≡ None
  profile_free name rest other =
      ap (get s.names) (sym (append_assoc (profile_path job.new) (name ∷ []) rest))
      ∙ all_below_free s.names well.tree (profile_path job.new ++ name ∷ []) rest (profile_alone s.names job.new passes.used name other)

  old_control : control_in s job.old ≡ stopped.old.control
  old_control = ap (λ file. control_of (unwrap_or file [])) stopped.old.control_bytes ∙ sym (read_is_control stopped.old.bytes V15 stopped.old.control stopped.old.says)

  new_control : control_in s job.new ≡ stopped.new.control
  new_control = ap (λ file. control_of (unwrap_or file [])) stopped.new.control_bytes ∙ sym (read_is_control stopped.new.bytes V16 stopped.new.control stopped.new.says)

  record_there : (bytes : List ℕ) → file_bytes s (control_at job.new) ≡ Some bytes → IsRecordOf bytes V16
  record_there bytes is =
      let same : stopped.new.bytes ≡ bytes = (let both : Some stopped.new.bytes ≡ Some bytes = sym stopped.new.control_bytes ∙ is in cc both) in
      subst (λ b. IsRecordOf b V16) same (read_is_record stopped.new.bytes V16 stopped.new.control stopped.new.says)

  pub is_upgradable : IsUpgradable read job catalog s
  is_upgradable = record {
    well_formed = well;
    valid = valid;
    reading = are_read.old;
    apart = λ path in_old. places_apart s job.old job.new catalog passes.tablespaces stopped.new_apart stopped.old_apart path in_old;
    locations = λ t found other.
        let there = placed_in catalog t found other in
        let free = new_free s job.old job.new catalog passes.tablespaces t there in
        record { link = decimal t.oid; links = link_stands s job.old job.new catalog passes.tablespaces t there; not_above = free.0; not_below = free.1 };
    first_files = λ relation found. first_there s job.old catalog relations.files relation found;
    free_files = λ relation found fork segment. file_free s well job.new catalog unused passes.used ready relation (relation_known catalog valid relation found) fork segment;
    free_profile = profile_free;
    record_there = record_there;
    version_there = stopped.new.version;
    profile_dir = dir_stands s.names (profile_path job.new) passes.directories.1.1.1.1.1.1.0;
    unshared = λ path other inode in_old in_new is same. passes.shared other (inode, in_new_regions s.names job.old job.new other in_new, same, (path, in_old, is));
    segments_have_blocks = λ e. stopped.old.segment_size (ap (λ c. c.relseg_size) (sym old_control) ∙ e);
    relseg_size = ap (λ c. c.relseg_size) new_control ∙ sym stopped.one_segment_size ∙ ap (λ c. c.relseg_size) (sym old_control);
  }
