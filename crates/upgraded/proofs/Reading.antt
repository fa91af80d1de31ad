-- A server reads from the new cluster, in the end, what it read from the old one.
use Rattle.std.proofs.Common.{◌≡◌, ◌≢◌, ◌⊎◌, inl, inr, ℕ, ◌+◌, ◌*◌, Bool, true, false, List, [], ◌∷◌, ◌++◌, codes, drop, Some, None, refl, sym, ◌∙◌, ap, subst, append_assoc, arith}
use Rattle.std.specs.Prelude.{is_some, bytes_eq, slice_index, ◌==◌}
use Rattle.std.specs.List.{Contains}
use Rattle.std.specs.Option.{unwrap_or}
use Rattle.std.specs.FinMap.{get}
use Rattle.std.proofs.lemmas.List.{append_cancel_left}
use Rattle.std.proofs.lemmas.Slice.Eq.{bytes_eq-Decides}
use Rattle.byteorder.specs.Endian.{little_from}
use Rattle.fs_model.specs.declared.node.Node.{Node}
use Rattle.fs_model.specs.declared.node.Node.TheVariants.{Dir, File}
use Rattle.fs_model.specs.Names.{Path}
use Rattle.fs_model.specs.State.{FsState}
use Rattle.fs_model.specs.Calls.{blocked, no_dir}
use Rattle.fs_model.specs.WellFormed.{WellFormed}
use Rattle.fs_model.proofs.Ways.{blocked_push, none_second, no_dir_none}
use Rattle.crash_safety.specs.Frame.{IsInside}
use Rattle.crash_safety.specs.Places.{control_at}
use Rattle.crash_safety.specs.Synced.{IsOneOf}
use Rattle.control_file.specs.declared.job.Job.{Job}
use Rattle.control_file.specs.declared.releases.Release.TheVariants.{V15, V16}
use Rattle.control_file.specs.ControlRecord.{IsRecordOf, control_of, number_at}
use Rattle.catalog.specs.Cluster.{Cluster, started}
use Rattle.dump_grammar.specs.Canonical.{canonical}
use Rattle.new_names.specs.declared.names.NewName.{NewName}
use Rattle.new_names.specs.declared.names.NewNode.{NewNode}
use Rattle.new_names.specs.declared.names.NewNode.TheVariants as new
use Rattle.new_names.specs.Standing.{Has}
use Rattle.catalog_server.specs.Profile.{profile_of, profile_path, catalog_path}
use Rattle.catalog_server.specs.SameProfile.{LeavesProfile}
use Rattle.catalog_server.specs.ReplayNames.{catalog_name, new_names}
use Rattle.catalog_server.proofs.Profiles.{same_profile}
use Rattle.status_transfer.specs.Carried.{IsInOne}
use Rattle.status_transfer.specs.Status.{status_dirs}
use Rattle.transfer_plan.specs.declared.plan.PlanItem.{PlanItem}
use Rattle.transfer_plan.specs.Carriable.{targets}
use Rattle.status_transfer.proofs.Carrying.{file_known}
use Rattle.status_transfer.proofs.Framing.{in_inside}
use Rattle.status_transfer.proofs.StatusDirs.{dirs_outside}
use Rattle.catalog_server.proofs.Members.{from_in, in_right}
use Rattle.upgraded.specs.Places.{new_tops, replay_names, mark_at}
use Rattle.upgraded.specs.Upgraded.{ReadsCatalog}
use Rattle.upgraded.specs.Upgradable.{IsUpgradable}
use Rattle.upgraded.specs.Upgrades.{Upgrades}
use Rattle.upgraded.proofs.Stores.{stored}
use Rattle.upgraded.proofs.Targets.{not_in_profile}
use Rattle.upgraded.proofs.Control.{named_bytes}
use Rattle.upgraded.proofs.Sharing.{same_node, made_new}
use Rattle.upgraded.proofs.Chain.{untargeted, no_old_control, no_disabled, names_counted, names_disabled, names_transferred, control_then, control_known, kept_restored, kept_since_status}

-- the text of a catalog begins with a word, and is no control record
text_version : (c : Cluster) → number_at 8 4 (canonical c) ≢ 1300
unfolding number_at
text_version c same =
    let is : number_at 8 4 (canonical c) ≡ 80 + 256 * little_from 1 3 (drop 8 (canonical c)) = refl in
    omega (arith, same, is)

no_record : (c : Cluster) → IsRecordOf (canonical c) V16 → ⊥
unfolding control_of
no_record c record_of = text_version c record_of.control_version

-- ---- the profile

-- above what stands is a directory
dir_above : (s : FsState) → WellFormed s → (dir : Path) (name : List ℕ) (rest : Path) (node : Node) → get s.names (dir ++ name ∷ rest) ≡ Some node → get s.names dir ≡ Some Dir
dir_above s well dir name [] node named =
    no_dir_none (get s.names dir) (none_second (blocked s.names dir) (no_dir (get s.names dir)) (sym (blocked_push s.names dir name) ∙ well.tree (dir ++ name ∷ []) (ap is_some named)))
dir_above s well dir name (more ∷ rest) node named =
    let next : get s.names (dir ++ name ∷ []) ≡ Some Dir = dir_above s well (dir ++ name ∷ []) more rest node (ap (get s.names) (append_assoc dir (name ∷ []) (more ∷ rest)) ∙ named) in
    no_dir_none (get s.names dir) (none_second (blocked s.names dir) (no_dir (get s.names dir)) (sym (blocked_push s.names dir name) ∙ well.tree (dir ++ name ∷ []) (ap is_some next)))

module _ (read : ReadsCatalog) (job : Job) (catalog : Cluster) (items : List PlanItem) (s0 s1 s2 s3 s4 s5 x : FsState) (can : IsUpgradable read job catalog s0) (went : Upgrades read job catalog items s0 s1 s2 s3 s4 s5 x) where
  abbrev at : Path → Path
  at rest = profile_path job.new ++ rest

  below_root : (rest : Path) → at rest ≡ job.new ++ codes "pg_profile" ∷ rest
  below_root rest = append_assoc job.new (codes "pg_profile" ∷ []) rest

  is_new : (rest : Path) → IsInside (new_tops job s0) (at rest)
  is_new rest = inl (codes "pg_profile" ∷ rest, below_root rest)

  no_status : (rest : Path) → IsInOne (status_dirs job.new) (at rest) → ⊥
  no_status rest within =
      dirs_outside job.new (codes "pg_profile") rest (λ same. let moved : true ≡ false = ap (λ (text : List ℕ). slice_index text 3 == 112) same in cc moved) (λ same. let moved : true ≡ false = ap (λ (text : List ℕ). slice_index text 3 == 112) same in cc moved)
      (subst (IsInside (status_dirs job.new)) (below_root rest) (in_inside (status_dirs job.new) (at rest) within))

  untargeted_at : (rest : Path) → IsOneOf (targets items) (at rest) → ⊥
  untargeted_at rest =
      untargeted read job catalog items s0 s1 s2 s3 s4 s5 x can went (at rest)
      (λ _ from file. not_in_profile job catalog file.relation file.fork file.segment s0 can.locations (stored catalog can.valid file.relation file.listed).store rest (sym file.to_is))

  unmarked : (rest : Path) → rest ≢ codes "done" ∷ [] → at rest ≢ mark_at job.new
  unmarked rest other same = other (append_cancel_left (profile_path job.new) rest (codes "done" ∷ []) same)

  name_behind : (rest : Path) → get s5.names (at rest) ≡ get s1.names (at rest)
  name_behind rest =
      names_transferred read job catalog items s0 s1 s2 s3 s4 s5 x can went (at rest) (untargeted_at rest)
      ∙ names_disabled read job catalog items s0 s1 s2 s3 s4 s5 x can went (at rest) (no_old_control read job catalog items s0 s1 s2 s3 s4 s5 x can went (at rest) (is_new rest)) (no_disabled read job catalog items s0 s1 s2 s3 s4 s5 x can went (at rest) (is_new rest))
      ∙ names_counted read job catalog items s0 s1 s2 s3 s4 s5 x can went (at rest) (no_status rest)

  -- ---- what stood there, and what the replay made

  append-nil : (path : Path) → path ++ [] ≡ path
  append-nil [] = refl
  append-nil (name ∷ path) = ap (λ rest. name ∷ rest) (append-nil path)

  text_listed : Contains (replay_names job catalog) (catalog_name job.new catalog)
  text_listed = from_in (replay_names job catalog) (catalog_name job.new catalog) (in_right (new_names job.new V16 (started catalog.bootstrap) catalog) (catalog_name job.new catalog ∷ []) (catalog_name job.new catalog) (inl refl))

  -- nothing is below the catalog text, which is a file after the replay
  none_below_text : (name : List ℕ) (rest : Path) (node : Node) → get s1.names (at (codes "catalog.sql" ∷ name ∷ rest)) ≡ Some node → ⊥
  none_below_text name rest node named =
      let whole : at (codes "catalog.sql" ∷ name ∷ rest) ≡ catalog_path job.new ++ name ∷ rest = sym (append_assoc (profile_path job.new) (codes "catalog.sql" ∷ []) (name ∷ rest)) in
      let there : get s1.names (catalog_path job.new) ≡ Some Dir = dir_above s1 went.schema.well_formed (catalog_path job.new) name rest node (ap (get s1.names) (sym whole) ∙ named) in
      let (inode, is, has) = went.schema.all (catalog_name job.new catalog) text_listed in
      cc (there, is)

  -- the one file that may have stood
  stood_text : (rest : Path) (inode after : ℕ) → get s0.names (at rest) ≡ Some (File inode) → get s1.names (at rest) ≡ Some (File after) → rest ≡ codes "catalog.sql" ∷ []
  stood_text [] inode after named later = absurd (let dir : get s0.names (at []) ≡ Some Dir = ap (get s0.names) (append-nil (profile_path job.new)) ∙ can.profile_dir in cc (dir, named))
  stood_text (name ∷ rest) inode after named later = by (bytes_eq name (codes "catalog.sql")) refl rest named later
    where
      by : (same : Bool) → bytes_eq name (codes "catalog.sql") ≡ same → (rest : Path) → get s0.names (at (name ∷ rest)) ≡ Some (File inode) → get s1.names (at (name ∷ rest)) ≡ Some (File after) → name ∷ rest ≡ codes "catalog.sql" ∷ []
      by true is [] named later = ap (λ n. n ∷ []) ((bytes_eq-Decides name (codes "catalog.sql")).0 is)
      by true is (more ∷ rest) named later = absurd (none_below_text more rest (File after) (ap (λ n. get s1.names (at (n ∷ more ∷ rest))) (sym ((bytes_eq-Decides name (codes "catalog.sql")).0 is)) ∙ later))
      by false is rest named later =
          let other : name ≢ codes "catalog.sql" = λ e. (let test = (bytes_eq-Decides name (codes "catalog.sql")).1 e in cc (test, is)) in
          absurd (let none = can.free_profile name rest other in cc (none, named))

  -- it isn't the control file
  text_other : (inode : ℕ) → get s1.names (catalog_path job.new) ≡ Some (File inode) → inode ≢ went.counters.inode
  text_other inode named same =
      let name : NewName = catalog_name job.new catalog in
      let (there, is, has) = went.schema.all name text_listed in
      let one : there ≡ went.counters.inode = same_node there inode (get s1.names (catalog_path job.new)) is named ∙ same in
      let bytes : get s0.bytes went.counters.inode ≡ Some (canonical catalog) =
      sym (kept_restored read job catalog items s0 s1 s2 s3 s4 s5 x can went went.counters.inode (control_known read job catalog items s0 s1 s2 s3 s4 s5 x can went)) ∙ ap (get s1.bytes) (sym one) ∙ has in
      no_record catalog (can.record_there (canonical catalog) (
      named_bytes s0 (control_at job.new) went.counters.inode (control_then read job catalog items s0 s1 s2 s3 s4 s5 x can went) ∙ ap (λ found. Some (unwrap_or found [])) bytes))

  -- a file of the profile has bytes, and is another than the control file
  record IsOwnFile (inode : ℕ) : Type 0 where
    known : is_some (get s1.bytes inode) ≡ true
    other : inode ≢ went.counters.inode

  module _ (rest : Path) (inode : ℕ) (named : get s1.names (at rest) ≡ Some (File inode)) where
    stood_own : get s0.names (at rest) ≡ Some (File inode) → IsOwnFile inode
    stood_own before = record {
      known = ap is_some (kept_restored read job catalog items s0 s1 s2 s3 s4 s5 x can went inode (file_known s0 can.well_formed (at rest) inode before)) ∙ file_known s0 can.well_formed (at rest) inode before;
      other = text_other inode (ap (λ r. get s1.names (at r)) (sym (stood_text rest inode inode before named)) ∙ named);
    }

    listed_known : (what : NewNode) → Has s1 (at rest) what → is_some (get s1.bytes inode) ≡ true
    listed_known new.Dir is = absurd (cc (is, named))
    listed_known (new.File bytes) (there, is, has) = ap (λ i. is_some (get s1.bytes i)) (same_node inode there (get s1.names (at rest)) named is) ∙ ap is_some has
    listed_known (new.Sym target) is = absurd (cc (is, named))

    made_other : get s0.bytes inode ≡ None → inode ≢ went.counters.inode
    made_other none same =
        let known = control_known read job catalog items s0 s1 s2 s3 s4 s5 x can went in
        let isnt : is_some (get s0.bytes went.counters.inode) ≡ false = ap is_some (ap (get s0.bytes) (sym same) ∙ none) in
        cc (known, isnt)

    own_file : IsOwnFile inode
    own_file =
        elim (went.schema.only.names (at rest)) [
          | inl same ↦ stood_own (sym same ∙ named)
          | inr own ↦ elim own.2 [
            | inl none ↦ absurd (cc (none, named))
            | inr more ↦ elim more [
              | inl same ↦ stood_own (sym same ∙ named)
              | inr made ↦ record {
                known = listed_known own.0 (went.schema.all (record { path = at rest; node = own.0 }) own.1);
                other = made_other (made_new s0 own.0 (get s1.names (at rest)) inode made named);
              }
            ]
          ]
        ]

    bytes_stay : get x.bytes inode ≡ get s1.bytes inode
    bytes_stay =
        let carried : get s2.bytes inode ≡ get s1.bytes inode = went.status.only.bytes inode own_file.known in
        went.mark.rest.bytes (at rest) inode (name_behind rest ∙ named)
        ∙ kept_since_status read job catalog items s0 s1 s2 s3 s4 s5 x can went inode (ap is_some carried ∙ own_file.known) own_file.other ∙ carried

  pub profile_left : LeavesProfile job.new s1 x
  profile_left = record {
    names = λ rest other. went.mark.rest.names (at rest) (unmarked rest other) ∙ name_behind rest;
    bytes = λ rest other inode named. bytes_stay rest inode named;
  }

  pub read_back : read job.new V16 (profile_of x job.new) ≡ read job.old V15 (profile_of s0 job.old)
  read_back = ap (read job.new V16) (same_profile job.new s1 x profile_left) ∙ went.schema.reading ∙ sym can.reading
