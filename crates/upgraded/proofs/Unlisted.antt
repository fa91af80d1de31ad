-- Names that the replay of the old catalog doesn't make, and where those are that it makes.
use Rattle.std.proofs.Common.{◌≡◌, ◌≢◌, inl, inr, ℕ, ◌==◌, Bool, true, false, cond, List, [], ◌∷◌, ◌++◌, map, codes, refl, sym, ◌∙◌, ap, subst, append_assoc, nat_eq}
use Rattle.std.specs.Prelude.{slice_index}
use Rattle.std.specs.List.{Contains}
use Rattle.std.specs.Fmt.{decimal}
use Rattle.std.proofs.lemmas.List.{append_cancel_left}
use Rattle.fs_model.specs.Names.{Path, IsUnder}
use Rattle.fs_model.specs.State.{FsState}
use Rattle.crash_safety.specs.Frame.{IsInside}
use Rattle.crash_safety.specs.Places.{control_at}
use Rattle.crash_safety.proofs.Placing.{region_inside}
use Rattle.control_file.specs.declared.job.Job.{Job}
use Rattle.control_file.specs.declared.releases.Release.TheVariants.{V16}
use Rattle.control_file.specs.Version.{dir_name_of}
use Rattle.catalog.specs.declared.owners.Tablespace.{Tablespace}
use Rattle.catalog.specs.Cluster.{Cluster, started, default_tablespace}
use Rattle.catalog.specs.Valid.{IsValid}
use Rattle.relation_files.specs.declared.relation.Fork.TheVariants.{Main}
use Rattle.new_names.specs.declared.names.NewNode.{NewNode}
use Rattle.new_names.specs.Frame.{IsListed}
use Rattle.catalog_server.specs.Profile.{profile_path}
use Rattle.catalog_server.specs.ReplayNames.{base_path, links_path, databases_path}
use Rattle.catalog_server.proofs.Inside.{listed_inside}
use Rattle.catalog_server.proofs.Members.{In, from_in}
use Rattle.upgraded.specs.Places.{new_tops, replay_names, version_at}
use Rattle.upgraded.specs.Upgradable.{IsPlaced}
use Rattle.upgraded.proofs.Words.{leads, decimal_leads, leads_differ, last, last_below}
use Rattle.upgraded.proofs.Targets.{is_no_word}
use Rattle.upgraded.proofs.Listed.{IsKind, IsVersionName, listed_kind}

module _ (job : Job) (catalog : Cluster) (valid : IsValid catalog) where
  -- the last name is another than those of a replay's names
  unlisted_word : (dir : Path) (word : List ℕ) → leads word ≡ false → word ≢ dir_name_of V16 → word ≢ codes "base" → word ≢ codes "catalog.sql" → (IsVersionName job.new (dir ++ word ∷ []) → ⊥)
      → (what : NewNode) → IsListed (replay_names job catalog) (dir ++ word ∷ []) what → ⊥
  unlisted_word dir word other no_release no_base no_text no_version what listed = by (listed_kind job catalog valid (dir ++ word ∷ []) what listed)
    where
      ends : (top : Path) (name : List ℕ) (rest : Path) → dir ++ word ∷ [] ≡ top ++ name ∷ rest → word ≡ last (name ∷ rest)
      ends top name rest same = sym (last_below dir word []) ∙ ap last same ∙ last_below top name rest

      by : IsKind job catalog (dir ++ word ∷ []) what → ⊥
      by (inl (_, inl (top, n, is))) = leads_differ (decimal n) word (decimal_leads n) other (sym (ends top (decimal n) [] is))
      by (inl (_, inr (inl (top, is)))) = no_release (ends top (dir_name_of V16) [] is)
      by (inl (_, inr (inr is))) = no_base (ends job.new (codes "base") [] is)
      by (inr (inl version)) = no_version version
      by (inr (inr (inl (relation, _, is)))) = is_no_word job.new V16 catalog relation Main 0 dir word other (sym is)
      by (inr (inr (inr is))) = no_text (ends (profile_path job.new) (codes "catalog.sql") [] is)

  differs : (m n : List ℕ) (at byte : ℕ) → (slice_index m at == byte) ≡ true → (slice_index n at == byte) ≡ false → m ≢ n
  differs m n at byte is isnt same = (let moved = ap (λ (text : List ℕ). slice_index text at == byte) same in cc (is, isnt, moved))

  -- the control file
  pub control_unlisted : (what : NewNode) → IsListed (replay_names job catalog) (control_at job.new) what → ⊥
  control_unlisted what listed =
      unlisted_word (job.new ++ codes "global" ∷ []) (codes "pg_control") refl (differs (codes "pg_control") (dir_name_of V16) 0 112 refl refl) (differs (codes "pg_control") (codes "base") 0 112 refl refl) (differs (codes "pg_control") (codes "catalog.sql") 0 112 refl refl)
      (λ version. differs (codes "pg_control") (codes "PG_VERSION") 0 112 refl refl (sym (last_below (job.new ++ codes "global" ∷ []) (codes "pg_control") []) ∙ ap last version.1 ∙ last_below (base_path job.new) (decimal version.0) (codes "PG_VERSION" ∷ [])))
      what (subst (λ path. IsListed (replay_names job catalog) path what) (sym (append_assoc job.new (codes "global" ∷ []) (codes "pg_control" ∷ []))) listed)

  -- the profile's directory
  pub profile_unlisted : (what : NewNode) → IsListed (replay_names job catalog) (profile_path job.new) what → ⊥
  profile_unlisted =
      unlisted_word job.new (codes "pg_profile") refl (differs (codes "pg_profile") (dir_name_of V16) 0 112 refl refl) (differs (codes "pg_profile") (codes "base") 0 112 refl refl) (differs (codes "pg_profile") (codes "catalog.sql") 0 112 refl refl)
      (λ version. differs (codes "pg_profile") (codes "PG_VERSION") 0 112 refl refl (sym (last_below job.new (codes "pg_profile") []) ∙ ap last version.1 ∙ last_below (base_path job.new) (decimal version.0) (codes "PG_VERSION" ∷ [])))

  -- the cluster's own version
  pub version_unlisted : (what : NewNode) → IsListed (replay_names job catalog) (version_at job.new) what → ⊥
  version_unlisted =
      unlisted_word job.new (codes "PG_VERSION") refl (differs (codes "PG_VERSION") (dir_name_of V16) 3 86 refl refl) (differs (codes "PG_VERSION") (codes "base") 0 80 refl refl) (differs (codes "PG_VERSION") (codes "catalog.sql") 0 80 refl refl)
      (λ version. let rest = append_cancel_left job.new (codes "PG_VERSION" ∷ []) (codes "base" ∷ decimal version.0 ∷ codes "PG_VERSION" ∷ []) (version.1 ∙ append_assoc job.new (codes "base" ∷ []) (decimal version.0 ∷ codes "PG_VERSION" ∷ [])) in differs (codes "PG_VERSION") (codes "base") 0 80 refl refl (ap first rest))
    where
      first : Path → List ℕ
      first [] = []
      first (name ∷ rest) = name

  -- ---- where they are

  module _ (s : FsState) (places : (t : Tablespace) → Contains catalog.tablespaces t → t.oid ≢ default_tablespace → IsPlaced job s t.location) where
    below_root : (name : List ℕ) (path : Path) → IsUnder (job.new ++ name ∷ []) path → IsInside (new_tops job s) path
    below_root name path (rest, is) = inl (name ∷ rest, is ∙ append_assoc job.new (name ∷ []) rest)

    in_space : (t : Tablespace) → Contains catalog.tablespaces t → (path : Path) → IsUnder (databases_path job.new V16 t) path → IsInside (new_tops job s) path
    in_space t found path under = by (nat_eq t.oid default_tablespace) refl under
      where
        by : (b : Bool) → nat_eq t.oid default_tablespace ≡ b → IsUnder (cond b (base_path job.new) (t.location ++ dir_name_of V16 ∷ [])) path → IsInside (new_tops job s) path
        by true own under = below_root (codes "base") path under
        by false other under =
            let placed = places t found (λ own. (let yes = ap (λ k. nat_eq k default_tablespace) own in cc (yes, other))) in
            region_inside s.names job.old (dir_name_of V16) path job.new (inr (placed.link, t.location, placed.links, under))

    in_spaces : (ts : List Tablespace) → ((t : Tablespace) → In ts t → Contains catalog.tablespaces t) → (path : Path) → IsInside (map (databases_path job.new V16) ts) path → IsInside (new_tops job s) path
    in_spaces [] all path inside = absurd inside
    in_spaces (t ∷ ts) all path (inl under) = in_space t (all t (inl refl)) path under
    in_spaces (t ∷ ts) all path (inr inside) = in_spaces ts (λ u found. all u (inr found)) path inside

    pub listed_is_new : (path : Path) (what : NewNode) → IsListed (replay_names job catalog) path what → IsInside (new_tops job s) path
    listed_is_new path what listed = by (listed_inside job.new V16 (started catalog.bootstrap) catalog path what listed)
      where
        by : IsInside (base_path job.new ∷ links_path job.new ∷ profile_path job.new ∷ map (databases_path job.new V16) catalog.tablespaces) path → IsInside (new_tops job s) path
        by (inl under) = below_root (codes "base") path under
        by (inr (inl under)) = below_root (codes "pg_tblspc") path under
        by (inr (inr (inl under))) = below_root (codes "pg_profile") path under
        by (inr (inr (inr inside))) = in_spaces catalog.tablespaces (λ t found. from_in catalog.tablespaces t found) path inside
