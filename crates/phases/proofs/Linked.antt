-- The phases' calls make no tablespace link in the new cluster but those of the replay, which lead to the old one's locations.
use Rattle.std.proofs.Common.{◌≡◌, ◌++◌, ◌||◌, inl, inr, ℕ, Bool, true, false, not, if◌then◌else◌, nat_eq, List, [], ◌∷◌, Option, Some, None, refl, sym, ap, subst}
use Rattle.std.proofs.lemmas.Bool.{eqb-true, eq-eqb}
use Rattle.std.specs.List.{flat_map, find}
use Rattle.std.specs.Fmt.{decimal}
use Rattle.std.specs.Prelude.{codes}
use Rattle.fs_model.specs.Names.{Path}
use Rattle.fs_model.specs.State.{FsState}
use Rattle.fs_model.specs.Calls.{Call, MakesSymlink}
use Rattle.fs_model.specs.Trail.{Trail, Goes}
use Rattle.fs_tools.specs.Walked.{IsAmong}
use Rattle.control_file.specs.declared.job.Job.{Job}
use Rattle.control_file.specs.declared.releases.Release.TheVariants.{V16}
use Rattle.control_file.specs.Version.{version_text_of}
use Rattle.catalog.specs.declared.owners.Tablespace.{Tablespace}
use Rattle.catalog.specs.Cluster.{Cluster, DatabaseObjects, started, default_tablespace}
use Rattle.catalog.specs.Spaces.{tablespace_has}
use Rattle.crash_safety.specs.Calling.{Syncs, Rewrites}
use Rattle.crash_safety.specs.Marked.{Marks}
use Rattle.crash_safety.specs.Places.{control_at, links_at}
use Rattle.crash_safety.specs.Synced.{IsOneOf}
use Rattle.dump_grammar.specs.Canonical.{canonical}
use Rattle.new_names.specs.declared.names.NewName.{NewName}
use Rattle.new_names.specs.declared.names.NewNode.TheVariants.{Dir, File, Sym}
use Rattle.new_names.specs.Frame.{IsListed, MakesListed}
use Rattle.catalog_server.specs.declared.relation.Relation.{Relation}
use Rattle.catalog_server.specs.ReplayNames.{base_path, link_path, databases_path, relations_of, relations_in, is_new_tablespace, is_new_database, is_new_relation, is_newly_held, tablespace_names, database_names, holding_names, file_names, relation_names, held_names, new_names, catalog_name, listed_names}
use Rattle.catalog_server.proofs.Members.{In, to_in, in_either, flat_in, from_if}
use Rattle.status_transfer.specs.Carried.{CarriesInto}
use Rattle.status_transfer.specs.Status.{status_dirs}
use Rattle.transfer_plan.specs.declared.plan.PlanItem.{PlanItem}
use Rattle.copy_transfer.specs.CopiedFiles.{CopiesTo}
use Rattle.link_transfer.specs.LinkedFiles.{LinksItems}
use Rattle.disable_old.specs.Renamed.{Disables}
use Rattle.last_sync.specs.declared.places.Places.{Places}
use Rattle.last_sync.specs.Finished.{MarksAfterSync}
use Rattle.phase_facts.specs.Places.{holders_in, locations_of}
use Rattle.phase_facts.specs.CanUpgrade.{CanUpgrade}
use Rattle.phases.specs.Facts.{LinksKnownSince}
use Rattle.phases.specs.Preparing.{CarriesThenReads}
use Rattle.phases.proofs.Linking.{LinksKnown, then_known, unchanged_known}

-- ---- the links of a replay

-- a tablespace but the default one has its location among those of the catalog
recorded : (ts : List Tablespace) (t : Tablespace) → In ts t → nat_eq t.oid default_tablespace ≡ false → IsOneOf (locations_of ts) t.location
recorded [] t found other = absurd found
recorded (u ∷ ts) t (inl is) other = here (nat_eq u.oid default_tablespace) refl
  where
    here : (b : Bool) → nat_eq u.oid default_tablespace ≡ b → IsOneOf (if b then locations_of ts else u.location ∷ locations_of ts) t.location
    here true e = absurd (let same : nat_eq t.oid default_tablespace ≡ nat_eq u.oid default_tablespace = ap (λ (v : Tablespace). nat_eq v.oid default_tablespace) is in cc (same, e, other))
    here false e = inl (ap (λ (v : Tablespace). v.location) is)
recorded (u ∷ ts) t (inr later) other = behind (nat_eq u.oid default_tablespace) (recorded ts t later other)
  where
    behind : (b : Bool) → IsOneOf (locations_of ts) t.location → IsOneOf (if b then locations_of ts else u.location ∷ locations_of ts) t.location
    behind true rest = rest
    behind false rest = inr rest

-- the default tablespace is no new one
not_default : (bootstrap : List ℕ) (t : Tablespace) → is_new_tablespace (started bootstrap) t ≡ true → nat_eq t.oid default_tablespace ≡ false
not_default bootstrap t new = by (nat_eq t.oid default_tablespace) refl
  where
    by : (b : Bool) → nat_eq t.oid default_tablespace ≡ b → nat_eq t.oid default_tablespace ≡ false
    by false e = e
    by true e =
        let same : t.oid ≡ default_tablespace = eqb-true t.oid default_tablespace e in
        let test : nat_eq default_tablespace t.oid ≡ true = eq-eqb default_tablespace t.oid (sym same) in
        let old : not (nat_eq default_tablespace t.oid || false) ≡ false = ap (λ b. not (b || false)) test in
        absurd (cc (old, new))

module _ (root : Path) (bootstrap : List ℕ) (catalog : Cluster) where
  abbrev before : Cluster
  before = started bootstrap

  -- a link leads to a location of the catalog
  abbrev Leads : NewName → Type 0
  Leads name = (target : Path) → name.node ≡ Sym target → IsOneOf (locations_of catalog.tablespaces) target

  is_dir : (name : NewName) → name.node ≡ Dir → Leads name
  is_dir name is target link = absurd (cc (is, link))

  is_file : (name : NewName) (bytes : List ℕ) → name.node ≡ File bytes → Leads name
  is_file name bytes is target link = absurd (cc (is, link))

  of_tablespace : (t : Tablespace) → In catalog.tablespaces t → (name : NewName) → In (tablespace_names root V16 before t) name → Leads name
  of_tablespace t there name found = let (new, inside) = from_if (is_new_tablespace before t) _ name found in by new inside
    where
      by : is_new_tablespace before t ≡ true → In (record { path = databases_path root V16 t; node = Dir } ∷ record { path = link_path root t.oid; node = Sym t.location } ∷ []) name → Leads name
      by new (inl is) = is_dir name (ap (λ (n : NewName). n.node) is)
      by new (inr (inl is)) = λ target link.
          let leads : name.node ≡ Sym t.location = ap (λ (n : NewName). n.node) is in
          let same : t.location ≡ target = cc (leads, link) in
          subst (IsOneOf (locations_of catalog.tablespaces)) same (recorded catalog.tablespaces t there (not_default bootstrap t new))
      by new (inr (inr none)) = absurd none

  of_database : (d : DatabaseObjects) (name : NewName) → In (database_names root V16 before d) name → Leads name
  of_database d name found = by (from_if (is_new_database before d) _ name found).1
    where
      by : In (record { path = base_path root ++ decimal d.oid ∷ []; node = Dir } ∷ record { path = base_path root ++ decimal d.oid ∷ codes "PG_VERSION" ∷ []; node = File (version_text_of V16) } ∷ []) name → Leads name
      by (inl is) = is_dir name (ap (λ (n : NewName). n.node) is)
      by (inr (inl is)) = is_file name (version_text_of V16) (ap (λ (n : NewName). n.node) is)
      by (inr (inr none)) = absurd none

  of_holding : (d : DatabaseObjects) (t : Tablespace) (name : NewName) → In (holding_names root V16 d.oid (relations_in before d.oid) (relations_of d) t) name → Leads name
  of_holding d t name found = by (from_if (is_newly_held (relations_in before d.oid) (relations_of d) t) _ name found).1
    where
      by : In (record { path = databases_path root V16 t ++ decimal d.oid ∷ []; node = Dir } ∷ []) name → Leads name
      by (inl is) = is_dir name (ap (λ (n : NewName). n.node) is)
      by (inr none) = absurd none

  of_file : (database file : ℕ) (place : Option Tablespace) (name : NewName) → In (file_names root V16 database file place) name → Leads name
  of_file database file None name found = absurd found
  of_file database file (Some t) name (inl is) = is_file name [] (ap (λ (n : NewName). n.node) is)
  of_file database file (Some t) name (inr none) = absurd none

  of_relation : (d : DatabaseObjects) (r : Relation) (name : NewName) → In (relation_names root V16 catalog.tablespaces d.oid (relations_in before d.oid) r) name → Leads name
  of_relation d r name found = of_file d.oid r.file (find (tablespace_has r.tablespace) catalog.tablespaces) name (from_if (is_new_relation (relations_in before d.oid) r) _ name found).1

  of_held : (d : DatabaseObjects) (name : NewName) → In (held_names root V16 before catalog d) name → Leads name
  of_held d name found =
      in_either (flat_map (holding_names root V16 d.oid (relations_in before d.oid) (relations_of d)) catalog.tablespaces)
      (flat_map (relation_names root V16 catalog.tablespaces d.oid (relations_in before d.oid)) (relations_of d)) name (Leads name)
      (λ here. let (t, _, inside) = flat_in (holding_names root V16 d.oid (relations_in before d.oid) (relations_of d)) catalog.tablespaces name here in of_holding d t name inside)
      (λ here. let (r, _, inside) = flat_in (relation_names root V16 catalog.tablespaces d.oid (relations_in before d.oid)) (relations_of d) name here in of_relation d r name inside) found

  of_new : (name : NewName) → In (new_names root V16 before catalog) name → Leads name
  unfolding new_names
  of_new name found =
      in_either (flat_map (tablespace_names root V16 before) catalog.tablespaces) (flat_map (database_names root V16 before) catalog.databases ++ flat_map (held_names root V16 before catalog) catalog.databases) name (Leads name)
      (λ here. let (t, there, inside) = flat_in (tablespace_names root V16 before) catalog.tablespaces name here in of_tablespace t there name inside)
      (λ rest.
      in_either (flat_map (database_names root V16 before) catalog.databases) (flat_map (held_names root V16 before catalog) catalog.databases) name (Leads name)
      (λ here. let (d, _, inside) = flat_in (database_names root V16 before) catalog.databases name here in of_database d name inside)
      (λ here. let (d, _, inside) = flat_in (held_names root V16 before catalog) catalog.databases name here in of_held d name inside) rest) found

  listed_leads : (path target : Path) → IsListed (listed_names root V16 before catalog) path (Sym target) → IsOneOf (locations_of catalog.tablespaces) target
  listed_leads path target listed =
      let name : NewName = record { path = path; node = Sym target } in
      in_either (new_names root V16 before catalog) (catalog_name root catalog ∷ []) name (Leads name)
      (of_new name)
      (λ here. elim here [ inl is ↦ is_file name (canonical catalog) (ap (λ (n : NewName). n.node) is) | inr none ↦ absurd none ]) (to_in (listed_names root V16 before catalog) name listed) target refl

among : (xs : List Path) (x : Path) → IsOneOf xs x → IsAmong xs x
among [] x found = absurd found
among (y ∷ xs) x (inl is) = inl (sym is)
among (y ∷ xs) x (inr found) = inr (among xs x found)

module _ (job : Job) (catalog : Cluster) (head : List ℕ) (start : FsState) (can : CanUpgrade job catalog head start) where
  abbrev listed : List NewName
  listed = listed_names job.new V16 (started catalog.bootstrap) catalog

  replay_known : (a s : FsState) (call : Call) → MakesListed listed a s call → LinksKnown (holders_in job start) (links_at job.new) call
  replay_known a s (MakesSymlink path target) makes = λ name location at is.
      let same : target ≡ location = cc is in
      subst (IsAmong (holders_in job start)) same (among (holders_in job start) target (can.recorded target (listed_leads job.new catalog.bootstrap catalog path target makes)))
  replay_known a s call makes = tt

-- carrying the schema of a cluster, from the opening on
pub restored_links : (job : Job) (catalog : Cluster) (head : List ℕ) (opening a b : Trail) → CanUpgrade job catalog head opening.present → LinksKnownSince job opening a
    → Goes (MakesListed (listed_names job.new V16 (started catalog.bootstrap) catalog) a.present) a b → LinksKnownSince job opening b
restored_links job catalog head opening a b can links goes =
    then_known job opening a b links (MakesListed (listed_names job.new V16 (started catalog.bootstrap) catalog) a.present) (λ s call makes. replay_known job catalog head opening.present can a.present s call makes) goes

-- ---- the phases behind it make none

module _ (known : List Path) (dir : Path) (s : FsState) where
  carries_none : (dirs : List Path) (a : FsState) (call : Call) → CarriesInto dirs a s call → LinksKnown known dir call
  carries_none dirs a (MakesSymlink path target) allowed = absurd allowed
  carries_none dirs a call allowed = tt

  rewrites_none : (at : Path) (call : Call) → Rewrites at s call → LinksKnown known dir call
  rewrites_none at (MakesSymlink path target) allowed = absurd allowed
  rewrites_none at call allowed = tt

  copies_none : (paths : List Path) (a : FsState) (call : Call) → CopiesTo paths a s call → LinksKnown known dir call
  copies_none paths a (MakesSymlink path target) allowed = absurd allowed.0
  copies_none paths a call allowed = tt

  disables_none : (control renamed at : Path) (call : Call) → Disables control renamed at s call → LinksKnown known dir call
  disables_none control renamed at (MakesSymlink path target) allowed = absurd allowed
  disables_none control renamed at call allowed = tt

  links_none : (items : List PlanItem) (call : Call) → LinksItems items s call → LinksKnown known dir call
  links_none items (MakesSymlink path target) allowed = absurd allowed
  links_none items call allowed = tt

  syncs_none : (call : Call) → Syncs s call → LinksKnown known dir call
  syncs_none (MakesSymlink path target) allowed = absurd allowed
  syncs_none call allowed = tt

  marks_none : (mark : Path) (call : Call) → Marks mark s call → LinksKnown known dir call
  marks_none mark (MakesSymlink path target) allowed = absurd allowed
  marks_none mark call allowed = tt

module _ (job : Job) (opening a b : Trail) (links : LinksKnownSince job opening a) where
  pub status_links : CarriesThenReads job a b → LinksKnownSince job opening b
  status_links run =
      let carries = run.transactions in
      let carried = then_known job opening a carries.middle links (CarriesInto (status_dirs job.new) a.present) (λ s call allowed. carries_none _ _ s (status_dirs job.new) a.present call allowed) carries.carries in
      let counted = then_known job opening carries.middle run.done carried (Rewrites (control_at job.new)) (λ s call allowed. rewrites_none _ _ s (control_at job.new) call allowed) carries.counts in
      unchanged_known job opening run.done b counted run.unchanged

  pub copied_links : (paths : List Path) → Goes (CopiesTo paths a.present) a b → LinksKnownSince job opening b
  copied_links paths goes = then_known job opening a b links (CopiesTo paths a.present) (λ s call allowed. copies_none _ _ s paths a.present call allowed) goes

  pub disabled_links : (control renamed dir : Path) → Goes (Disables control renamed dir) a b → LinksKnownSince job opening b
  disabled_links control renamed dir goes = then_known job opening a b links (Disables control renamed dir) (λ s call allowed. disables_none _ _ s control renamed dir call allowed) goes

  pub linked_links : (items : List PlanItem) → Goes (LinksItems items) a b → LinksKnownSince job opening b
  linked_links items goes = then_known job opening a b links (LinksItems items) (λ s call allowed. links_none _ _ s items call allowed) goes

  pub ended_links : (places : Places) → MarksAfterSync places a b → LinksKnownSince job opening b
  ended_links places run =
      let synced = then_known job opening a run.middle links Syncs (λ s call allowed. syncs_none _ _ s call allowed) run.syncs in
      then_known job opening run.middle b synced (Marks places.mark) (λ s call allowed. marks_none _ _ s places.mark call allowed) run.marks
