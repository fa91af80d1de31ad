-- Where the checks find nothing, an upgrade may begin.
use Rattle.std.proofs.Common.{◌≡◌, ◌≢◌, ◌⊎◌, inl, inr, ℕ, Bool, true, false, not, if◌then◌else◌, List, [], ◌∷◌, ◌++◌, map, Option, Some, None, refl, sym, ◌∙◌, ap, append-nil, append_assoc, subst}
use Rattle.std.proofs.lemmas.List.{append_cancel_left}
use Rattle.std.proofs.lemmas.Slice.Eq.{bytes_eq-Decides}
use Rattle.std.specs.Prelude.{codes, is_some, nat_eq}
use Rattle.std.specs.List.{AllByRecursion, Contains, filter_map, cons_option}
use Rattle.std.specs.FinMap.{get}
use Rattle.std.specs.Fmt.{decimal}
use Rattle.fs_model.specs.declared.node.Node.{Node}
use Rattle.fs_model.specs.declared.node.Node.TheVariants.{Dir, File, Sym}
use Rattle.fs_model.specs.Names.{Path, IsUnder}
use Rattle.fs_model.specs.State.{Names, FsState}
use Rattle.fs_model.specs.Calls.{Renames, refusal, children}
use Rattle.fs_model.specs.WellFormed.{Each, WellFormed}
use Rattle.fs_tools.specs.Children.{child_of, paths_in}
use Rattle.fs_tools.specs.Walked.{IsAmong}
use Rattle.fs_tools.proofs.Naming.{all_among, path_among}
use Rattle.control_file.specs.declared.job.Job.{Job}
use Rattle.control_file.specs.declared.modes.Mode.{Mode}
use Rattle.control_file.specs.declared.modes.Mode.TheVariants.{Copy, Link}
use Rattle.control_file.specs.declared.modes.Side.TheVariants.{Old, New}
use Rattle.control_file.specs.declared.releases.Release.TheVariants.{V15, V16}
use Rattle.control_file.specs.Version.{dir_name_of}
use Rattle.catalog.specs.declared.owners.Tablespace.{Tablespace}
use Rattle.catalog.specs.Cluster.{Cluster, default_tablespace}
use Rattle.catalog.specs.Valid.{IsValid}
use Rattle.crash_safety.specs.Frame.{IsInside, IsOutside}
use Rattle.crash_safety.specs.Upgrade.{IsOldInode}
use Rattle.crash_safety.specs.Sound.{IsNoOldFile}
use Rattle.crash_safety.specs.Synced.{IsOneOf}
use Rattle.crash_safety.specs.Places.{control_at, disabled_at, links_at, target_of, target_at, locations, tops_at, StandApart}
use Rattle.catalog_server.proofs.Members.{In}
use Rattle.catalog_server.proofs.Unused.{room_when_unused}
use Rattle.status_transfer.specs.Counted.{IsHeadOf}
use Rattle.phase_facts.specs.Places.{disables, upgrade_in, mark_at, holders_in, locations_of}
use Rattle.relation_files.specs.declared.relation.Relation.{Relation}
use Rattle.relation_files.specs.Relations.{relations_of}
use Rattle.phase_facts.specs.CanUpgrade.{AreApart, HasOneDevice, CanBegin, CanUpgrade}
use Rattle.tree_checks.specs.Shared.{old_regions, new_regions}
use Rattle.file_checks.specs.Tablespaces.{is_placed, placed, IsTablespaceDir}
use Rattle.shared_inodes.specs.SharedInodes.{IsSharedInode}
use Rattle.passed_checks.specs.Controls.{AreStoppedClusters}
use Rattle.passed_checks.specs.Passing.{PassesFiles, PassesRelations}
use Rattle.passed_checks.proofs.Disabling.{can_rename}
use Rattle.passed_checks.proofs.Stopped.{are_stopped}
use Rattle.passed_checks.proofs.Standing.{dir_stands, old_status, new_status, unused_cluster, profile_alone}
use Rattle.passed_checks.proofs.Located.{location_stands, locations_ready, link_known, link_stands, old_free, new_free, others_free, places_apart, placed_in}
use Rattle.passed_checks.proofs.OwnFiles.{first_there, own_files}
use Rattle.passed_checks.proofs.Devices.{one_device}

-- ---- lists

among_in : {A : Type 0} (xs : List A) (x : A) → IsAmong xs x → In xs x
among_in [] x found = absurd found
among_in (y ∷ ys) x (inl is) = inl (sym is)
among_in (y ∷ ys) x (inr found) = inr (among_in ys x found)

in_among : {A : Type 0} (xs : List A) (x : A) → In xs x → IsAmong xs x
in_among [] x found = absurd found
in_among (y ∷ ys) x (inl is) = inl (sym is)
in_among (y ∷ ys) x (inr found) = inr (in_among ys x found)

one_in : (xs : List Path) (x : Path) → IsOneOf xs x → In xs x
one_in [] x found = absurd found
one_in (y ∷ ys) x (inl is) = inl is
one_in (y ∷ ys) x (inr found) = inr (one_in ys x found)

in_one : (xs : List Path) (x : Path) → In xs x → IsOneOf xs x
in_one [] x found = absurd found
in_one (y ∷ ys) x (inl is) = inl is
in_one (y ∷ ys) x (inr found) = inr (in_one ys x found)

inside_one : (tops : List Path) (top path : Path) → IsAmong tops top → IsUnder top path → IsInside tops path
inside_one [] top path found under = absurd found
inside_one (one ∷ tops) top path (inl is) (rest, same) = inl (rest, same ∙ ap (λ p. p ++ rest) (sym is))
inside_one (one ∷ tops) top path (inr found) under = inr (inside_one tops top path found under)

under_itself : (path : Path) → IsUnder path path
under_itself path = ([], sym (append-nil path))

-- lists of directories no path of which is inside both stand apart
stand_apart : (tops others : List Path) → ((path : Path) → IsInside tops path → IsOutside others path) → StandApart tops others
stand_apart tops others apart =
    all_among (λ top. AllByRecursion (λ other. (IsUnder top other → ⊥) × (IsUnder other top → ⊥)) others) tops (λ top found.
    all_among (λ other. (IsUnder top other → ⊥) × (IsUnder other top → ⊥)) others (λ other there. (
      (λ under. apart other (inside_one tops top other found under) (inside_one others other other there (under_itself other))),
      (λ under. apart top (inside_one tops top top found (under_itself top)) (inside_one others other top there under)),
    )))

-- ---- the locations that links lead to

symlink_there : (there : Option Node) (target : Path) → target_of there ≡ Some target → there ≡ Some (Sym target)
symlink_there None target is = absurd (cc is)
symlink_there (Some Dir) target is = absurd (cc is)
symlink_there (Some (File inode)) target is = absurd (cc is)
symlink_there (Some (Sym other)) target is = (let same : other ≡ target = cc is in λ i. Some (Sym (same i)))

module _ (names : Names) (root : Path) where
  abbrev Linked : Path → Type 0
  Linked location = (name : List ℕ) × (get names (links_at root ++ name ∷ []) ≡ Some (Sym location))

  link_or_later : (name : List ℕ) (later : List Path) (location : Path) → (In later location → Linked location) → In (cons_option (target_at names (links_at root) name) later) location → Linked location
  link_or_later name later location tail found = by (target_at names (links_at root) name) refl found
    where
      by : (target : Option Path) → target_at names (links_at root) name ≡ target → In (cons_option target later) location → Linked location
      by None is found = tail found
      by (Some one) is (inl same) = (name, symlink_there (get names (links_at root ++ name ∷ [])) location (is ∙ ap Some (sym same)))
      by (Some one) is (inr found) = tail found

  links_lead : (children : List (List ℕ)) (location : Path) → In (filter_map (target_at names (links_at root)) children) location → Linked location
  links_lead [] location found = absurd found
  links_lead (name ∷ children) location found = link_or_later name (filter_map (target_at names (links_at root)) children) location (links_lead children location) found

  leads_there : (children : List (List ℕ)) (name : List ℕ) (location : Path) → In children name → target_at names (links_at root) name ≡ Some location → In (filter_map (target_at names (links_at root)) children) location
  leads_there [] name location found is = absurd found
  leads_there (one ∷ children) name location (inl same) is =
      subst (λ target. In (cons_option target (filter_map (target_at names (links_at root)) children)) location) (sym is ∙ ap (target_at names (links_at root)) same) (inl refl)
  leads_there (one ∷ children) name location (inr found) is = behind (target_at names (links_at root) one) (leads_there children name location found is)
    where
      behind : (target : Option Path) → In (filter_map (target_at names (links_at root)) children) location → In (cons_option target (filter_map (target_at names (links_at root)) children)) location
      behind None there = there
      behind (Some other) there = inr there

  child_in : (dir : Path) (children : List (List ℕ)) (name : List ℕ) → IsAmong (map (child_of dir) children) (child_of dir name) → In children name
  child_in dir [] name found = absurd found
  child_in dir (one ∷ children) name (inl is) = inl (let same : name ∷ [] ≡ one ∷ [] = append_cancel_left dir (name ∷ []) (one ∷ []) (sym is) in cc same)
  child_in dir (one ∷ children) name (inr found) = inr (child_in dir children name found)

  pub linked_is_location : (name : List ℕ) (location : Path) → get names (links_at root ++ name ∷ []) ≡ Some (Sym location) → In (locations names root) location
  linked_is_location name location is =
      leads_there (children names (links_at root)) name location (child_in (links_at root) (children names (links_at root)) name (path_among names (links_at root) name (ap is_some is))) (ap target_of is)

  pub location_is_linked : (location : Path) → In (locations names root) location → (name : List ℕ) × (get names (links_at root ++ name ∷ []) ≡ Some (Sym location))
  location_is_linked location found = links_lead (children names (links_at root)) location found

-- ---- the locations that a catalog has

recorded_or_later : (t : Tablespace) (ts : List Tablespace) (location : Path) → (In (locations_of ts) location → (u : Tablespace) × In (placed ts) u × (location ≡ u.location)) → In (locations_of (t ∷ ts)) location → (u : Tablespace) × In (placed (t ∷ ts)) u × (location ≡ u.location)
recorded_or_later t ts location tail found = by (nat_eq t.oid default_tablespace) found
  where
    by : (b : Bool) → In (if b then locations_of ts else t.location ∷ locations_of ts) location → (u : Tablespace) × In (if not b then t ∷ placed ts else placed ts) u × (location ≡ u.location)
    by true later = tail later
    by false (inl is) = (t, inl refl, is)
    by false (inr later) = let (u, there, is) = tail later in (u, inr there, is)

location_recorded : (ts : List Tablespace) (location : Path) → In (locations_of ts) location → (u : Tablespace) × In (placed ts) u × (location ≡ u.location)
location_recorded [] location found = absurd found
location_recorded (t ∷ ts) location found = recorded_or_later t ts location (location_recorded ts location) found

records_or_later : (t : Tablespace) (ts : List Tablespace) (u : Tablespace) → (In (placed ts) u → In (locations_of ts) u.location) → In (placed (t ∷ ts)) u → In (locations_of (t ∷ ts)) u.location
records_or_later t ts u tail found = by (nat_eq t.oid default_tablespace) found
  where
    by : (b : Bool) → In (if not b then t ∷ placed ts else placed ts) u → In (if b then locations_of ts else t.location ∷ locations_of ts) u.location
    by true later = tail later
    by false (inl is) = inl (ap (λ v. v.location) is)
    by false (inr later) = inr (tail later)

placed_recorded : (ts : List Tablespace) (u : Tablespace) → In (placed ts) u → In (locations_of ts) u.location
placed_recorded [] u found = absurd found
placed_recorded (t ∷ ts) u found = records_or_later t ts u (placed_recorded ts u) found

-- ---- shared files

more_regions : (locations more : List Path) (release : List ℕ) (path : Path) → IsInside (map (λ location. location ++ release ∷ []) locations) path → IsInside (map (λ location. location ++ release ∷ []) (locations ++ more)) path
more_regions [] more release path inside = absurd inside
more_regions (location ∷ locations) more release path (inl under) = inl under
more_regions (location ∷ locations) more release path (inr inside) = inr (more_regions locations more release path inside)

pub in_new_regions : (names : Names) (old new path : Path) → IsInside (tops_at (locations names old) (dir_name_of V16) new) path → IsInside (new_regions names old new) path
in_new_regions names old new path (inl under) = inl under
in_new_regions names old new path (inr inside) = inr (more_regions (locations names old) (locations names new) (dir_name_of V16) path inside)

none_shared : (s : FsState) (job : Job) → IsSharedInode s job.old job.new None → Each (IsNoOldFile (upgrade_in job s)) s.names
none_shared s job none path in_new inode is old = none path (inode, in_new_regions s.names job.old job.new path in_new, is, old)

-- ---- the beginning

done_other : codes "done" ≡ codes "catalog.sql" → ⊥
done_other e =
    let same = (bytes_eq-Decides (codes "done") (codes "catalog.sql")).1 e in
    let f : true ≡ false = sym same in
    cc f

module _ (s : FsState) (job : Job) (catalog : Cluster) (well : WellFormed s) (passes : PassesFiles s job catalog) where
  stopped : AreStoppedClusters s job
  stopped = are_stopped s job passes.controls

  -- each location that a link leads to is that of a tablespace
  held : (location : Path) → In (locations s.names job.old) location → (t : Tablespace) × In (placed catalog.tablespaces) t × (location ≡ t.location)
  held location found =
      let (name, is) = location_is_linked s.names job.old location found in
      let (t, there, named, same) = link_known s job.old job.new catalog passes.tablespaces name location is in
      (t, there, same)

  apart_from_old : AllByRecursion (AreApart job.old) (holders_in job s)
  apart_from_old = all_among (AreApart job.old) (holders_in job s) (λ location found.
      let (t, there, is) = held location (among_in (holders_in job s) location found) in
      let free = old_free s job.old job.new catalog passes.tablespaces t there in
      subst (AreApart job.old) (sym is) (free.1, free.0))

  apart_from_new : AllByRecursion (AreApart job.new) (holders_in job s)
  apart_from_new = all_among (AreApart job.new) (holders_in job s) (λ location found.
      let (t, there, is) = held location (among_in (holders_in job s) location found) in
      let free = new_free s job.old job.new catalog passes.tablespaces t there in
      subst (AreApart job.new) (sym is) (free.1, free.0))

  can_disable : (mode : Mode) → job.mode ≡ mode → disables mode ≡ true → refusal s (Renames (control_at job.old) (disabled_at job.old)) ≡ None
  can_disable Copy is e = absurd (cc e)
  can_disable Link is e = can_rename s well job.old stopped.old.inode stopped.old.control_file (passes.disabled is)

  devices : (mode : Mode) → job.mode ≡ mode → disables mode ≡ true → PassesRelations s job catalog → (relation : Relation) → Contains (relations_of catalog) relation → HasOneDevice job catalog s relation
  devices Copy is e relations = absurd (cc e)
  devices Link is e relations = one_device s job catalog (relations.devices is)

  pub can_begin : CanBegin job s
  can_begin = record {
    well_formed = well;
    apart = stand_apart (upgrade_in job s).old_tops (upgrade_in job s).new_tops (λ path in_old. places_apart s job.old job.new catalog passes.tablespaces stopped.new_apart stopped.old_apart path in_old);
    old_apart = apart_from_old;
    new_apart = apart_from_new;
    control = (stopped.old.inode, stopped.old.control_file);
    can_disable = can_disable job.mode refl;
    unshared = none_shared s job passes.shared;
    unmarked = ap (get s.names) (sym (append_assoc job.new (codes "pg_profile" ∷ []) (codes "done" ∷ []))) ∙ profile_alone s.names job.new passes.used (codes "done") done_other;
  }

  pub can_upgrade : PassesRelations s job catalog → IsValid catalog → (head : List ℕ) → IsHeadOf s (control_at job.new) head → CanUpgrade job catalog head s
  can_upgrade relations valid head is = record {
    begins = can_begin;
    valid = valid;
    own_locations = λ t u found there not_default other_default other same.
        let apart = others_free s job.old job.new catalog passes.tablespaces t (placed_in catalog t found not_default) u (placed_in catalog u there other_default) other in
        apart.0 ([], sym same ∙ sym (append-nil t.location));
    files = λ relation found. record {
      first = first_there s job.old catalog relations.files relation found;
      files = λ fork segment there small is. own_files s job.old catalog relations.files relation found fork segment there small is;
    };
    one_device = λ link. devices job.mode refl link relations;
    recorded = λ location found.
        let (t, there, same) = location_recorded catalog.tablespaces location (one_in (locations_of catalog.tablespaces) location found) in
        in_one (holders_in job s) location (subst (In (holders_in job s)) (sym same) (linked_is_location s.names job.old (decimal t.oid) t.location (link_stands s job.old job.new catalog passes.tablespaces t there)));
    known = λ location found.
        let (t, there, same) = held location (one_in (holders_in job s) location found) in
        in_one (locations_of catalog.tablespaces) location (subst (In (locations_of catalog.tablespaces)) (sym same) (placed_recorded catalog.tablespaces t there));
    held = all_among (λ location. get s.names location ≡ Some Dir) (locations_of catalog.tablespaces) (λ location found.
        let (t, there, same) = location_recorded catalog.tablespaces location (among_in (locations_of catalog.tablespaces) location found) in
        subst (λ p. get s.names p ≡ Some Dir) (sym same) (location_stands s job.old job.new catalog passes.tablespaces t there));
    room = room_when_unused job.new V16 catalog s well valid (unused_cluster s job.old job.new passes.directories passes.used) (locations_ready s job.old job.new catalog passes.tablespaces);
    old_status = old_status s.names job.old job.new passes.directories;
    new_status = new_status s.names job.old job.new passes.directories;
    new_head = is;
    root = stopped.new.dir;
    profile = dir_stands s.names (job.new ++ codes "pg_profile" ∷ []) passes.directories.1.1.1.1.1.1.0;
  }
