-- A plan can be made once the counters are set.
use Rattle.std.proofs.Common.{◌≡◌, ◌≢◌, ◌⊎◌, inl, inr, ℕ, zero, suc, ◌<◌, ◌^◌, Bool, true, false, not, List, [], ◌∷◌, ◌++◌, Option, Some, None, refl, sym, ◌∙◌, ap, append_assoc, subst, arith}
use Rattle.std.specs.Prelude.{codes, is_some, ◌==◌}
use Rattle.std.specs.List.{Contains, list_all}
use Rattle.std.specs.FinMap.{get}
use Rattle.std.specs.Fmt.{decimal}
use Rattle.std.proofs.lemmas.Bool.{and_parts}
use Rattle.fs_model.specs.declared.node.Node.{Node}
use Rattle.fs_model.specs.declared.node.Node.TheVariants as node
use Rattle.fs_model.specs.Names.{Path}
use Rattle.fs_model.specs.State.{FsState}
use Rattle.fs_model.specs.WellFormed.{WellFormed}
use Rattle.fs_model.specs.Effects.{bytes_of}
use Rattle.fs_model.specs.Reading.{file_bytes, inode_of_node}
use Rattle.std.specs.Option.{option_map}
use Rattle.crash_safety.specs.Places.{control_at}
use Rattle.control_file.specs.declared.job.Job.{Job}
use Rattle.control_file.specs.declared.records.Counters.{Counters}
use Rattle.control_file.specs.declared.releases.Release.TheVariants.{V15, V16}
use Rattle.control_file.specs.Version.{dir_name_of}
use Rattle.catalog.specs.Cluster.{Cluster}
use Rattle.catalog_server.specs.ReplayNames.{base_path}
use Rattle.catalog_server.specs.Profile.{profile_path}
use Rattle.new_names.specs.declared.names.NewNode.{NewNode}
use Rattle.new_names.specs.declared.names.NewNode.TheVariants.{Dir, File, Sym}
use Rattle.new_names.specs.Frame.{IsListed, IsMade, IsOldOrOwn}
use Rattle.relation_files.specs.declared.relation.Relation.{Relation}
use Rattle.relation_files.specs.declared.relation.Fork.{Fork}
use Rattle.relation_files.specs.declared.relation.Fork.TheVariants.{Main, FreeSpace, Visibility}
use Rattle.relation_files.specs.Places.{segment_path, fork_files, file_name, fork_suffix, segment_suffix, relation_dir}
use Rattle.relation_files.specs.Relations.{relations_of}
use Rattle.status_transfer.specs.Carried.{IsInOne}
use Rattle.status_transfer.specs.Status.{status_dirs}
use Rattle.status_transfer.specs.Counted.{SetsCounters}
use Rattle.relation_map.specs.Pairs.{entries_of}
use Rattle.plan_build.specs.Plannable.{IsFile, CanBePlanned}
use Rattle.plan_build.specs.Carrying.{HasFiles, HaveOwnLocations}
use Rattle.plan_build.proofs.Conditions.{dir_stands, can_be_planned}
use Rattle.upgraded.specs.Places.{old_site, new_site, replay_names}
use Rattle.upgraded.specs.Upgraded.{ReadsCatalog}
use Rattle.upgraded.specs.Upgradable.{IsUpgradable}
use Rattle.upgraded.specs.Upgrades.{RestoresSchema, CopiesStatus}
use Rattle.upgraded.proofs.Steps.{unlisted_stays, counted_names}
use Rattle.upgraded.proofs.Chain.{status_below}
use Rattle.upgraded.proofs.Stores.{stored}
use Rattle.upgraded.proofs.Words.{is_digit, decimal_digits, same_push}
use Rattle.upgraded.proofs.Targets.{is_inside, not_in_status, is_no_word, same_target}
use Rattle.upgraded.proofs.Unlisted.{listed_is_new}
use Rattle.upgraded.proofs.Listed.{IsKind, listed_kind}
use Rattle.plan_facts.proofs.Listing.{main_listed}
use Rattle.plan_facts.specs.Files.{HasOwnFiles}

-- ---- names that aren't those of directories

digits_before : (text : List ℕ) (byte : ℕ) (rest : List ℕ) → list_all is_digit (text ++ byte ∷ rest) ≡ true → is_digit byte ≡ true
digits_before [] byte rest all = (and_parts (is_digit byte) (list_all is_digit rest) all).0
digits_before (x ∷ text) byte rest all = digits_before text byte rest (and_parts (is_digit x) (list_all is_digit (text ++ byte ∷ rest)) all).1

-- the segment isn't the first one of the main fork
abbrev IsOther : Fork → ℕ → Type 0
IsOther Main zero = ⊥
IsOther Main (suc n) = Unit {0}
IsOther FreeSpace n = Unit {0}
IsOther Visibility n = Unit {0}

no_number : (r : Relation) (fork : Fork) (n m : ℕ) → IsOther fork n → decimal m ≢ file_name r fork n
no_number r Main zero m other same = other
no_number r Main (suc n) m other same = let found = digits_before (decimal r.file) 46 (decimal (suc n)) (subst (λ t. list_all is_digit t ≡ true) same (decimal_digits m)) in cc found
no_number r FreeSpace n m other same = let found = digits_before (decimal r.file) 95 (codes "fsm" ++ segment_suffix n) (subst (λ t. list_all is_digit t ≡ true) same (decimal_digits m)) in cc found
no_number r Visibility n m other same = let found = digits_before (decimal r.file) 95 (codes "vm" ++ segment_suffix n) (subst (λ t. list_all is_digit t ≡ true) same (decimal_digits m)) in cc found

file_named : (s : FsState) (path : Path) (inode : ℕ) → get s.names path ≡ Some (node.File inode) → is_some (file_bytes s path) ≡ true
file_named s path inode is = ap (λ n. is_some (option_map (bytes_of s.bytes) (inode_of_node n))) is

name_there : (s : FsState) (path : Path) → is_some (file_bytes s path) ≡ true → (inode : ℕ) × (get s.names path ≡ Some (node.File inode))
name_there s path e = by (get s.names path) refl
  where
    by : (there : Option Node) → get s.names path ≡ there → (inode : ℕ) × (get s.names path ≡ Some (node.File inode))
    by None is = absurd (let f = ap (λ n. is_some (option_map (bytes_of s.bytes) (inode_of_node n))) (sym is) ∙ e in cc f)
    by (Some node.Dir) is = absurd (let f = ap (λ n. is_some (option_map (bytes_of s.bytes) (inode_of_node n))) (sym is) ∙ e in cc f)
    by (Some (node.Sym target)) is = absurd (let f = ap (λ n. is_some (option_map (bytes_of s.bytes) (inode_of_node n))) (sym is) ∙ e in cc f)
    by (Some (node.File inode)) is = (inode, is)

module _ (read : ReadsCatalog) (job : Job) (catalog : Cluster) (s0 s1 s2 s3 : FsState) (given : Counters) (can : IsUpgradable read job catalog s0) (own : HasOwnFiles s0 job catalog)
    (schema : RestoresSchema read job catalog s0 s1) (status : CopiesStatus job s1 s2) (counters : SetsCounters s2 (control_at job.new) given s3) (well : WellFormed s3) where
  names_since : (path : Path) → (IsInOne (status_dirs job.new) path → ⊥) → get s3.names path ≡ get s1.names path
  names_since path outside = ap (λ names. get names path) (counted_names s2 (control_at job.new) given s3 counters) ∙ status.only.names path outside

  module _ (r : Relation) (listed : Contains (relations_of catalog) r) where
    old_same : (fork : Fork) (n : ℕ) → get s3.names (segment_path (old_site job catalog) r fork n) ≡ get s0.names (segment_path (old_site job catalog) r fork n)
    old_same fork n =
        let path = segment_path (old_site job catalog) r fork n in
        let inside = is_inside job.old V15 catalog r fork n s0 job can.locations (stored catalog can.valid r listed).store in
        names_since path (λ within. can.apart path inside (status_below job.new path within _))
        ∙ unlisted_stays (replay_names job catalog) s0 s1 schema.only path (λ what found. can.apart path inside (listed_is_new job catalog can.valid s0 can.locations path what found))

    new_same : (fork : Fork) (n : ℕ) → get s3.names (segment_path (new_site job catalog) r fork n) ≡ get s1.names (segment_path (new_site job catalog) r fork n)
    new_same fork n = names_since (segment_path (new_site job catalog) r fork n) (not_in_status job.new V16 catalog r fork n job.new)

    main_there : (inode : ℕ) × (get s3.names (segment_path (new_site job catalog) r Main 0) ≡ Some (node.File inode))
    main_there = let (inode, is, bytes) = schema.all _ (main_listed job catalog can.valid r listed) in (inode, new_same Main 0 ∙ is)

    first : is_some (fork_files s3 (old_site job catalog) r Main 0) ≡ true
    first =
        let path = segment_path (old_site job catalog) r Main 0 in
        let (inode, is) = name_there s0 path (can.first_files r listed) in
        file_named s3 path inode (old_same Main 0 ∙ is)

    -- no directory is listed at a name of another segment
    no_listed : (fork : Fork) (n : ℕ) → n < 2 ^ 32 → IsOther fork n → IsListed (replay_names job catalog) (segment_path (new_site job catalog) r fork n) Dir → ⊥
    unfolding segment_path
    no_listed fork n small other found = by (listed_kind job catalog can.valid (segment_path (new_site job catalog) r fork n) Dir found)
      where
        word : (dir : Path) (name : List ℕ) → (relation_dir (new_site job catalog) r ++ file_name r fork n ∷ []) ≡ dir ++ name ∷ [] → file_name r fork n ≡ name
        word dir name same = (same_push (relation_dir (new_site job catalog) r) dir (file_name r fork n) name same).1

        main : (q : Relation) → Contains (relations_of catalog) q → segment_path (new_site job catalog) r fork n ≡ segment_path (new_site job catalog) q Main 0 → ⊥
        main q there same =
            let one = same_target job catalog r q fork Main n 0 (stored catalog can.valid r listed) (stored catalog can.valid q there) (omega_small) same in
            not_main fork n one.fork one.segment other
          where
            omega_small : 0 < 2 ^ 32
            omega_small = omega arith

            not_main : (fork : Fork) (n : ℕ) → fork ≡ Main → n ≡ 0 → IsOther fork n → ⊥
            not_main fork n is first other = subst (λ f. IsOther f 0) is (subst (IsOther fork) first other)

        by : IsKind job catalog (segment_path (new_site job catalog) r fork n) Dir → ⊥
        by (inl (none, inl (dir, m, same))) = no_number r fork n m other (sym (word dir (decimal m) same))
        by (inl (none, inr (inl (dir, same)))) = is_no_word job.new V16 catalog r fork n dir (dir_name_of V16) refl same
        by (inl (none, inr (inr same))) = is_no_word job.new V16 catalog r fork n job.new (codes "base") refl same
        by (inr (inl (m, same))) = is_no_word job.new V16 catalog r fork n (base_path job.new ++ decimal m ∷ []) (codes "PG_VERSION") refl (same ∙ sym (append_assoc (base_path job.new) (decimal m ∷ []) (codes "PG_VERSION" ∷ [])))
        by (inr (inr (inl (q, there, same)))) = main q there same
        by (inr (inr (inr same))) = is_no_word job.new V16 catalog r fork n (profile_path job.new) (codes "catalog.sql") refl same

    no_dir_at : (fork : Fork) (n : ℕ) → n < 2 ^ 32 → IsOther fork n → get s1.names (segment_path (new_site job catalog) r fork n) ≡ Some node.Dir → ⊥
    no_dir_at fork n small other is = by (schema.only.names (segment_path (new_site job catalog) r fork n))
      where
        made : (what : NewNode) → IsListed (replay_names job catalog) (segment_path (new_site job catalog) r fork n) what → IsMade s0 what (get s1.names (segment_path (new_site job catalog) r fork n)) → ⊥
        made Dir found is_made = no_listed fork n small other found
        made (File bytes) found (inode, fresh, same) = let f = sym is ∙ same in cc f
        made (Sym target) found same = let f = sym is ∙ same in cc f

        by : IsOldOrOwn (replay_names job catalog) s0 (segment_path (new_site job catalog) r fork n) (get s1.names (segment_path (new_site job catalog) r fork n)) → ⊥
        by (inl same) = let f = sym is ∙ same ∙ own.free r listed fork n in cc f
        by (inr (what, found, inl none)) = let f = sym is ∙ none in cc f
        by (inr (what, found, inr (inl same))) = let f = sym is ∙ same ∙ own.free r listed fork n in cc f
        by (inr (what, found, inr (inr is_made))) = made what found is_made

    no_dirs : (fork : Fork) (n : ℕ) → n < 2 ^ 32 → get s3.names (segment_path (new_site job catalog) r fork n) ≢ Some node.Dir
    no_dirs Main zero small dir = let f = sym main_there.1 ∙ dir in cc f
    no_dirs Main (suc n) small dir = no_dir_at Main (suc n) small tt (sym (new_same Main (suc n)) ∙ dir)
    no_dirs FreeSpace n small dir = no_dir_at FreeSpace n small tt (sym (new_same FreeSpace n) ∙ dir)
    no_dirs Visibility n small dir = no_dir_at Visibility n small tt (sym (new_same Visibility n) ∙ dir)

    pub has_files : HasFiles s3 job catalog r
    has_files = record {
      first = first;
      files = λ fork segment node small is. own.files r listed fork segment node small (sym (old_same fork segment) ∙ is);
      dir = dir_stands job catalog s3 r well (ap is_some main_there.1);
      no_dirs = no_dirs;
    }

  pub counted_can_be_planned : HaveOwnLocations catalog.tablespaces → job.old ≢ job.new → CanBePlanned s3 (entries_of job catalog catalog)
  counted_can_be_planned locations other = can_be_planned job catalog s3 can.valid other locations (λ r listed. has_files r listed)
