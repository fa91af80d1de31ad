-- What the last phase needs of the state before it.
use Rattle.std.proofs.Common.{◌≡◌, ◌∙◌, ◌++◌, ◌∷◌, [], ℕ, true, false, nat_eq, not, ◌||◌, if◌then◌else◌, List, Some, None, inl, inr, refl, sym, ap, subst, append_assoc}
use Rattle.std.proofs.lemmas.Bool.{eqb-true}
use Rattle.std.specs.Prelude.{codes, map, is_some}
use Rattle.std.specs.List.{AllByRecursion, flat_map}
use Rattle.std.specs.FinMap.{get}
use Rattle.fs_model.specs.declared.node.Node.TheVariants.{Dir}
use Rattle.fs_model.specs.Names.{Path, parent}
use Rattle.fs_model.specs.State.{FsState}
use Rattle.fs_model.specs.Calls.{Stats, Creates, SyncsDir, refusal, or_else, missing, no_dir, taken}
use Rattle.fs_model.specs.WellFormed.{WellFormed}
use Rattle.fs_model.specs.Trail.{Trail}
use Rattle.control_file.specs.declared.job.Job.{Job}
use Rattle.control_file.specs.declared.releases.Release.TheVariants.{V16}
use Rattle.control_file.specs.Version.{dir_name_of}
use Rattle.catalog.specs.declared.owners.Tablespace.{Tablespace}
use Rattle.catalog.specs.Cluster.{Cluster, default_tablespace, started}
use Rattle.crash_safety.specs.Sound.{Stage}
use Rattle.crash_safety.proofs.Needing.{parent_of}
use Rattle.new_names.specs.declared.names.NewName.{NewName}
use Rattle.new_names.specs.declared.names.NewNode.TheVariants as new
use Rattle.new_names.specs.Standing.{AllStand}
use Rattle.catalog_server.specs.ReplayNames.{databases_path, tablespace_names, database_names, held_names, is_new_tablespace, new_names, catalog_name, listed_names}
use Rattle.catalog_server.proofs.Members.{In, from_in, in_left, in_if, in_flat}
use Rattle.transfer_plan.proofs.Freeing.{way_free}
use Rattle.last_sync.specs.declared.places.Places.{Places}
use Rattle.last_sync.specs.Finished.{CanFinish}
use Rattle.phase_facts.specs.Places.{mark_at, locations_of}
use Rattle.phase_facts.specs.CanUpgrade.{CanUpgrade}
use Rattle.phase_facts.specs.Held.{Held}
use Rattle.phase_facts.specs.Finishing.{AreEndPlaces, HasRegions}

-- ---- directories that stand

module _ (s : FsState) (well : WellFormed s) where
  stat_free : (path : Path) → get s.names path ≡ Some Dir → refusal s (Stats path) ≡ None
  stat_free path there = λ i. or_else (well.tree path (ap is_some there) i) (missing (there i))

  sync_free : (path : Path) → get s.names path ≡ Some Dir → refusal s (SyncsDir path) ≡ None
  sync_free path there = λ i. or_else (well.tree path (ap is_some there) i) (no_dir (there i))

  regions_free : (release : List ℕ) (locations : List Path) → AllByRecursion (λ location. get s.names (location ++ release ∷ []) ≡ Some Dir) locations → AllByRecursion (λ top. refusal s (Stats top) ≡ None) (map (λ location. location ++ release ∷ []) locations)
  regions_free release [] all = tt
  regions_free release (location ∷ locations) all = (stat_free (location ++ release ∷ []) all.0, regions_free release locations all.1)

  holders_free : (dirs : List Path) → AllByRecursion (λ dir. get s.names dir ≡ Some Dir) dirs → AllByRecursion (λ dir. refusal s (SyncsDir dir) ≡ None) dirs
  holders_free [] all = tt
  holders_free (dir ∷ dirs) all = (sync_free dir all.0, holders_free dirs all.1)

  mark_free : (root : Path) → get s.names (root ++ codes "pg_profile" ∷ []) ≡ Some Dir → get s.names (mark_at root) ≡ None → refusal s (Creates (mark_at root)) ≡ None
  mark_free root profile none =
      let is : parent (mark_at root) ≡ root ++ codes "pg_profile" ∷ [] = ap parent (sym (append_assoc root (codes "pg_profile" ∷ []) (codes "done" ∷ []))) ∙ parent_of (root ++ codes "pg_profile" ∷ []) (codes "done") in
      (λ i. or_else (way_free s.names well.tree (mark_at root) (ap (get s.names) is ∙ profile) i) (taken (none i)))

still_stand : (a b : FsState) → ((dir : Path) → get a.names dir ≡ Some Dir → get b.names dir ≡ Some Dir) → (dirs : List Path) → AllByRecursion (λ dir. get a.names dir ≡ Some Dir) dirs → AllByRecursion (λ dir. get b.names dir ≡ Some Dir) dirs
still_stand a b stays [] all = tt
still_stand a b stays (dir ∷ dirs) all = (stays dir all.0, still_stand a b stays dirs all.1)

pub can_finish : (job : Job) (catalog : Cluster) (head : List ℕ) (stage : Stage) (opening now : Trail) → CanUpgrade job catalog head opening.present → (places : Places) → AreEndPlaces job catalog places → Held job stage opening now → WellFormed now.present → HasRegions catalog now.present → CanFinish places now.present
can_finish job catalog head stage opening now can places ends held well regions = record {
  tops = subst (AllByRecursion (λ top. refusal now.present (Stats top) ≡ None)) (sym ends.tops) (stat_free now.present well job.new (held.dirs job.new can.root), regions_free now.present well (dir_name_of V16) (locations_of catalog.tablespaces) regions);
  holders = subst (AllByRecursion (λ dir. refusal now.present (SyncsDir dir) ≡ None)) (sym ends.holders) (holders_free now.present well (locations_of catalog.tablespaces) (still_stand opening.present now.present held.dirs (locations_of catalog.tablespaces) can.held));
  mark = subst (λ mark. refusal now.present (Creates mark) ≡ None) (sym ends.mark) (mark_free now.present well job.new (held.dirs (job.new ++ codes "pg_profile" ∷ []) can.profile) held.unmarked);
}

-- ---- the directories that the replay makes

module _ (job : Job) (catalog : Cluster) (t : FsState) (stand : AllStand t (listed_names job.new V16 (started catalog.bootstrap) catalog)) where
  is_new : (tablespace : Tablespace) → nat_eq tablespace.oid default_tablespace ≡ false → is_new_tablespace (started catalog.bootstrap) tablespace ≡ true
  is_new tablespace other = ap (λ b. not (b || false)) (turned tablespace.oid default_tablespace other)
    where
      turned : (m n : ℕ) → nat_eq m n ≡ false → nat_eq n m ≡ false
      turned m n differ = (elim (nat_eq n m) as (λ b. nat_eq n m ≡ b → b ≡ false) [
        | true ↦ λ e. absurd (let same = eqb-true n m e in let turn : nat_eq m n ≡ nat_eq n m = (λ i. nat_eq (sym same i) (same i)) in cc (turn, e, differ))
        | false ↦ λ e. refl
      ]) refl

  named_in : (tablespace : Tablespace) → In catalog.tablespaces tablespace → nat_eq tablespace.oid default_tablespace ≡ false → In (listed_names job.new V16 (started catalog.bootstrap) catalog) (record { path = databases_path job.new V16 tablespace; node = new.Dir })
  unfolding new_names
  named_in tablespace found other =
      let before = started catalog.bootstrap in
      let name : NewName = record { path = databases_path job.new V16 tablespace; node = new.Dir } in
      in_left (new_names job.new V16 before catalog) (catalog_name job.new catalog ∷ []) name
      (in_left (flat_map (tablespace_names job.new V16 before) catalog.tablespaces) (flat_map (database_names job.new V16 before) catalog.databases ++ flat_map (held_names job.new V16 before catalog) catalog.databases) name
      (in_flat (tablespace_names job.new V16 before) catalog.tablespaces tablespace name found
      (in_if (is_new_tablespace before tablespace) _ name (is_new tablespace other) (inl refl))))

  regions_of : (ts : List Tablespace) → ((tablespace : Tablespace) → In ts tablespace → In catalog.tablespaces tablespace) → AllByRecursion (λ location. get t.names (location ++ dir_name_of V16 ∷ []) ≡ Some Dir) (locations_of ts)
  regions_of [] among = tt
  regions_of (tablespace ∷ ts) among =
      (elim (nat_eq tablespace.oid default_tablespace) as (λ b. nat_eq tablespace.oid default_tablespace ≡ b → AllByRecursion (λ location. get t.names (location ++ dir_name_of V16 ∷ []) ≡ Some Dir) (if b then locations_of ts else tablespace.location ∷ locations_of ts)) [
        | true ↦ λ e. regions_of ts (λ other found. among other (inr found))
        | false ↦ λ e. (
          subst (λ path. get t.names path ≡ Some Dir) (ap (λ b. if b then job.new ++ codes "base" ∷ [] else tablespace.location ++ dir_name_of V16 ∷ []) e)
              (stand (record { path = databases_path job.new V16 tablespace; node = new.Dir }) (from_in (listed_names job.new V16 (started catalog.bootstrap) catalog) _ (named_in tablespace (among tablespace (inl refl)) e))),
          regions_of ts (λ other found. among other (inr found)),
        )
      ]) refl

  pub regions_stand : HasRegions catalog t
  regions_stand = regions_of catalog.tablespaces (λ tablespace found. found)
