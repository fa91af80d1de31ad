-- The names of relations' files in both clusters: the new one tells the old one, and no other name of an upgrade is one of them.
use Rattle.std.proofs.Common.{◌≡◌, ◌≢◌, inl, inr, ℕ, ◌<◌, ◌^◌, ◌==◌, true, false, cond, List, [], ◌∷◌, ◌++◌, codes, Some, refl, sym, ◌∙◌, ap, append_assoc, nat_eq}
use Rattle.std.specs.Prelude.{slice_index}
use Rattle.std.specs.List.{Contains, find}
use Rattle.std.specs.Fmt.{decimal}
use Rattle.std.proofs.lemmas.List.{append_cancel_left, append_cancel_right}
use Rattle.fs_model.specs.Names.{Path}
use Rattle.fs_model.specs.State.{FsState}
use Rattle.fs_tools.specs.Children.{IsIn}
use Rattle.crash_safety.specs.Frame.{IsInside}
use Rattle.crash_safety.specs.Places.{locations, tops_at}
use Rattle.crash_safety.proofs.Placing.{region_inside}
use Rattle.control_file.specs.declared.job.Job.{Job}
use Rattle.control_file.specs.declared.releases.Release.{Release}
use Rattle.control_file.specs.declared.releases.Release.TheVariants.{V15, V16}
use Rattle.control_file.specs.Version.{dir_name_of}
use Rattle.catalog.specs.declared.owners.Tablespace.{Tablespace}
use Rattle.catalog.specs.Cluster.{Cluster, default_tablespace}
use Rattle.catalog.specs.Spaces.{tablespace_has}
use Rattle.relation_files.specs.declared.relation.Relation.{Relation}
use Rattle.relation_files.specs.declared.relation.Fork.{Fork}
use Rattle.relation_files.specs.Places.{Site, location_in, tablespace_dir, relation_dir, file_name, fork_suffix, segment_suffix, segment_path}
use Rattle.catalog_server.specs.Profile.{profile_path}
use Rattle.catalog_server.proofs.Addresses.{beginnings}
use Rattle.status_transfer.specs.Carried.{IsInOne}
use Rattle.status_transfer.specs.Status.{status_dirs}
use Rattle.upgraded.specs.Places.{old_site, new_site}
use Rattle.upgraded.specs.Upgradable.{IsPlaced}
use Rattle.upgraded.proofs.Words.{leads, decimal_leads, leads_before, leads_differ, same_name, last, last_below, same_push}
use Rattle.upgraded.proofs.Stores.{IsStore, IsStored}

abbrev site_at : Path → Release → Cluster → Site
site_at root release catalog = record { root = root; release = release; tablespaces = catalog.tablespaces }

abbrev first : Path → List ℕ
first [] = []
first (name ∷ rest) = name

-- ---- directories of tablespaces

own_dir : (root : Path) (release : Release) (catalog : Cluster) (k : ℕ) → nat_eq k default_tablespace ≡ true → tablespace_dir (site_at root release catalog) k ≡ root ++ codes "base" ∷ []
own_dir root release catalog k own = ap (λ b. cond b (root ++ codes "base" ∷ []) (location_in (find (tablespace_has k) catalog.tablespaces) ++ dir_name_of release ∷ [])) own

other_dir : (root : Path) (release : Release) (catalog : Cluster) (k : ℕ) (t : Tablespace) → nat_eq k default_tablespace ≡ false → find (tablespace_has k) catalog.tablespaces ≡ Some t
    → tablespace_dir (site_at root release catalog) k ≡ t.location ++ dir_name_of release ∷ []
other_dir root release catalog k t other is =
    ap (λ b. cond b (root ++ codes "base" ∷ []) (location_in (find (tablespace_has k) catalog.tablespaces) ++ dir_name_of release ∷ [])) other
    ∙ ap (λ found. location_in found ++ dir_name_of release ∷ []) is

base_differs : (p q : Path) → p ++ codes "base" ∷ [] ≡ q ++ dir_name_of V16 ∷ [] → ⊥
base_differs p q same =
    let words = (same_push p q (codes "base") (dir_name_of V16) same).1 in
    let moved : true ≡ false = ap (λ (text : List ℕ). slice_index text 0 == 98) words in
    cc moved

-- the directory in the new cluster tells that in the old one
same_dirs : (job : Job) (catalog : Cluster) (k l : ℕ) → IsStore catalog k → IsStore catalog l
    → tablespace_dir (new_site job catalog) k ≡ tablespace_dir (new_site job catalog) l → tablespace_dir (old_site job catalog) k ≡ tablespace_dir (old_site job catalog) l
same_dirs job catalog k l (inl own) (inl own_too) same = own_dir job.old V15 catalog k own ∙ sym (own_dir job.old V15 catalog l own_too)
same_dirs job catalog k l (inl own) (inr (t, _, _, other, is)) same =
    absurd (base_differs job.new t.location (sym (own_dir job.new V16 catalog k own) ∙ same ∙ other_dir job.new V16 catalog l t other is))
same_dirs job catalog k l (inr (t, _, _, other, is)) (inl own) same =
    absurd (base_differs job.new t.location (sym (own_dir job.new V16 catalog l own) ∙ sym same ∙ other_dir job.new V16 catalog k t other is))
same_dirs job catalog k l (inr (t, _, _, other, is)) (inr (u, _, _, other_too, is_too)) same =
    let places : t.location ≡ u.location =
    append_cancel_right t.location u.location (dir_name_of V16 ∷ []) (sym (other_dir job.new V16 catalog k t other is) ∙ same ∙ other_dir job.new V16 catalog l u other_too is_too) in
    other_dir job.old V15 catalog k t other is ∙ ap (λ location. location ++ dir_name_of V15 ∷ []) places ∙ sym (other_dir job.old V15 catalog l u other_too is_too)

-- ---- files

-- two segments with one new name are one: of one directory of the old cluster, one file number, one fork and one number
pub record IsSameFile (job : Job) (catalog : Cluster) (r q : Relation) (f g : Fork) (m n : ℕ) : Type 0 where
  pub dir : relation_dir (old_site job catalog) r ≡ relation_dir (old_site job catalog) q
  pub file : r.file ≡ q.file
  pub fork : f ≡ g
  pub segment : m ≡ n

pub same_target : (job : Job) (catalog : Cluster) (r q : Relation) (f g : Fork) (m n : ℕ) → IsStored catalog r → IsStored catalog q → n < 2 ^ 32
    → segment_path (new_site job catalog) r f m ≡ segment_path (new_site job catalog) q g n → IsSameFile job catalog r q f g m n
unfolding segment_path
same_target job catalog r q f g m n r_in q_in small same =
    let new = new_site job catalog in
    let old = old_site job catalog in
    let (dirs, names) = same_push (relation_dir new r) (relation_dir new q) (file_name r f m) (file_name q g n) same in
    let (spaces, databases) = same_push (tablespace_dir new r.tablespace) (tablespace_dir new q.tablespace) (decimal r.database) (decimal q.database) dirs in
    let told = same_name r.file q.file f g m n r_in.file q_in.file small names in
    let olds = same_dirs job catalog r.tablespace q.tablespace r_in.store q_in.store spaces in
    record { dir = (λ i. olds i ++ databases i ∷ []); file = told.0; fork = told.1; segment = told.2 }

-- ---- where they are

module _ (root : Path) (release : Release) (catalog : Cluster) (r : Relation) (f : Fork) (n : ℕ) where
  abbrev path : Path
  path = segment_path (site_at root release catalog) r f n

  in_dir : path ≡ relation_dir (site_at root release catalog) r ++ file_name r f n ∷ []
  unfolding segment_path
  in_dir = refl

  behind : path ≡ tablespace_dir (site_at root release catalog) r.tablespace ++ decimal r.database ∷ file_name r f n ∷ []
  behind = in_dir ∙ append_assoc (tablespace_dir (site_at root release catalog) r.tablespace) (decimal r.database ∷ []) (file_name r f n ∷ [])

  -- the name begins with a digit
  name_leads : leads (file_name r f n) ≡ true
  name_leads = leads_before (decimal r.file) (fork_suffix f ++ segment_suffix n) (decimal_leads r.file)

  pub is_no_word : (dir : Path) (word : List ℕ) → leads word ≡ false → path ≢ dir ++ word ∷ []
  is_no_word dir word other same =
      leads_differ (file_name r f n) word name_leads other (same_push (relation_dir (site_at root release catalog) r) dir (file_name r f n) word (sym in_dir ∙ same)).1

  -- nor is it in a directory whose name begins with another byte
  not_in_word : (root : Path) (word : List ℕ) (rest : Path) → leads (last (word ∷ rest)) ≡ false → IsIn (root ++ word ∷ rest) path → ⊥
  not_in_word top word rest other (name, is) =
      let dirs = (same_push (relation_dir (site_at root release catalog) r) (top ++ word ∷ rest) (file_name r f n) name (sym in_dir ∙ is)).0 in
      let ends : decimal r.database ≡ last (word ∷ rest) = sym (last_below (tablespace_dir (site_at root release catalog) r.tablespace) (decimal r.database) []) ∙ ap last dirs ∙ last_below top word rest in
      leads_differ (decimal r.database) (last (word ∷ rest)) (decimal_leads r.database) other ends

  pub not_in_status : (top : Path) → IsInOne (status_dirs top) path → ⊥
  not_in_status top (inl within) = not_in_word top (codes "pg_xact") [] refl within
  not_in_status top (inr (inl within)) = not_in_word top (codes "pg_multixact") (codes "offsets" ∷ []) refl within
  not_in_status top (inr (inr (inl within))) = not_in_word top (codes "pg_multixact") (codes "members" ∷ []) refl within
  not_in_status top (inr (inr (inr none))) = none

  module _ (s : FsState) (job : Job) (places : (t : Tablespace) → Contains catalog.tablespaces t → t.oid ≢ default_tablespace → IsPlaced job s t.location) where
    pub is_inside : IsStore catalog r.tablespace → IsInside (tops_at (locations s.names job.old) (dir_name_of release) root) path
    is_inside (inl own) =
        let whole : path ≡ root ++ codes "base" ∷ decimal r.database ∷ file_name r f n ∷ [] =
        behind ∙ ap (λ dir. dir ++ decimal r.database ∷ file_name r f n ∷ []) (own_dir root release catalog r.tablespace own) ∙ append_assoc root (codes "base" ∷ []) (decimal r.database ∷ file_name r f n ∷ []) in
        inl (codes "base" ∷ decimal r.database ∷ file_name r f n ∷ [], whole)
    is_inside (inr (t, found, other, no_default, is)) =
        let placed = places t found other in
        let under : path ≡ (t.location ++ dir_name_of release ∷ []) ++ decimal r.database ∷ file_name r f n ∷ [] =
        behind ∙ ap (λ dir. dir ++ decimal r.database ∷ file_name r f n ∷ []) (other_dir root release catalog r.tablespace t no_default is) in
        region_inside s.names job.old (dir_name_of release) path root (inr (placed.link, t.location, placed.links, (decimal r.database ∷ file_name r f n ∷ [], under)))

-- a new name is none of the profile's
module _ (job : Job) (catalog : Cluster) (r : Relation) (f : Fork) (n : ℕ) (s : FsState) (places : (t : Tablespace) → Contains catalog.tablespaces t → t.oid ≢ default_tablespace → IsPlaced job s t.location) where
  pub not_in_profile : IsStore catalog r.tablespace → (rest : Path) → segment_path (new_site job catalog) r f n ≢ profile_path job.new ++ rest
  not_in_profile (inl own) rest same =
      let whole = behind job.new V16 catalog r f n ∙ ap (λ dir. dir ++ decimal r.database ∷ file_name r f n ∷ []) (own_dir job.new V16 catalog r.tablespace own) ∙ append_assoc job.new (codes "base" ∷ []) (decimal r.database ∷ file_name r f n ∷ []) in
      let names = append_cancel_left job.new (codes "base" ∷ decimal r.database ∷ file_name r f n ∷ []) (codes "pg_profile" ∷ rest) (sym whole ∙ same ∙ append_assoc job.new (codes "pg_profile" ∷ []) rest) in
      let moved : true ≡ false = ap (λ (path : Path). slice_index (first path) 0 == 98) names in
      cc moved
  not_in_profile (inr (t, found, other, no_default, is)) rest same =
      let placed = places t found other in
      let whole = behind job.new V16 catalog r f n ∙ ap (λ dir. dir ++ decimal r.database ∷ file_name r f n ∷ []) (other_dir job.new V16 catalog r.tablespace t no_default is) ∙ append_assoc t.location (dir_name_of V16 ∷ []) (decimal r.database ∷ file_name r f n ∷ []) in
      elim (beginnings t.location job.new (dir_name_of V16 ∷ decimal r.database ∷ file_name r f n ∷ []) (codes "pg_profile" ∷ rest) (sym whole ∙ same ∙ append_assoc job.new (codes "pg_profile" ∷ []) rest)) [
        | inl above ↦ placed.not_above above
        | inr below ↦ placed.not_below below
      ]
