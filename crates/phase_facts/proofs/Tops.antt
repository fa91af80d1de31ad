-- The directories that an upgrade makes names in are new places, apart from the mark and the new control file.
use Rattle.std.proofs.Common.{◌≡◌, ◌≢◌, ◌∙◌, ◌++◌, ◌∷◌, [], ℕ, false, List, inl, inr, refl, sym, ap, append_assoc}
use Rattle.std.proofs.lemmas.List.{append_cancel_left}
use Rattle.std.specs.Prelude.{codes, map}
use Rattle.std.specs.List.{AllByRecursion}
use Rattle.fs_model.specs.Names.{Path, IsUnder, parent}
use Rattle.fs_model.specs.State.{FsState}
use Rattle.fs_model.specs.Calls.{is_root}
use Rattle.control_file.specs.declared.job.Job.{Job}
use Rattle.control_file.specs.declared.releases.Release.TheVariants.{V16}
use Rattle.control_file.specs.Version.{dir_name_of}
use Rattle.crash_safety.specs.Frame.{IsInside, IsOutside}
use Rattle.crash_safety.specs.Synced.{IsHeld}
use Rattle.crash_safety.specs.Places.{control_at}
use Rattle.crash_safety.proofs.Placing.{apart_outside, place_held}
use Rattle.crash_safety.proofs.Needing.{below_stands}
use Rattle.catalog_server.specs.Profile.{catalog_path}
use Rattle.catalog_server.specs.ReplayNames.{links_path}
use Rattle.status_transfer.specs.Status.{status_dirs}
use Rattle.status_transfer.proofs.StatusDirs.{dirs_held, dirs_outside, control_outside}
use Rattle.phase_facts.specs.Places.{upgrade_in, mark_at, holders_in, file_tops, AreNewPlaces}
use Rattle.phase_facts.specs.CanUpgrade.{AreApart, CanBegin}
use Rattle.phase_facts.proofs.Grounds.{apart_of}

-- where the replay of a schema and the transfer of files make names
abbrev pub grounds : Path → List Path → List Path
grounds root locations = links_path root ∷ catalog_path root ∷ file_tops root V16 locations

-- what is at a release's directory of a location is at the location
pub region_at : (release : List ℕ) (locations : List Path) (path : Path) → IsInside (map (λ location. location ++ release ∷ []) locations) path → IsInside locations path
region_at release [] path none = absurd none
region_at release (location ∷ locations) path (inl (rest, is)) = inl (release ∷ rest, is ∙ append_assoc location (release ∷ []) rest)
region_at release (location ∷ locations) path (inr inside) = inr (region_at release locations path inside)

-- what is at one of the locations is not below a root that is apart from them
pub root_apart : (root : Path) (locations : List Path) → AllByRecursion (AreApart root) locations → (path : Path) → IsUnder root path → IsOutside locations path
root_apart root locations apart path under = apart_outside (root ∷ []) locations (apart, tt) path (inl under)

-- inside fewer directories it is so all the more
pub fewer_places : (job : Job) (s : FsState) (tops inner : List Path) → ((path : Path) → IsInside inner path → IsInside tops path) → AreNewPlaces job s tops → AreNewPlaces job s inner
fewer_places job s tops inner within places = record {
  inside = λ path inside. places.inside path (within path inside);
  no_mark = λ inside. places.no_mark (within (mark_at job.new) inside);
  no_control = λ inside. places.no_control (within (control_at job.new) inside);
}

module _ (job : Job) (s : FsState) (begins : CanBegin job s) where
  -- a path below the new cluster's root
  below_root : (path : Path) (name : List ℕ) (rest : Path) → path ≡ job.new ++ name ∷ rest → IsInside (upgrade_in job s).new_tops path × IsHeld (upgrade_in job s).new_tops (holders_in job s) (parent path) × (is_root path ≡ false)
  below_root path name rest is =
      let (under, no_root) = below_stands job.new path name rest is in
      (inl (name ∷ rest, is), inl (inl under), no_root)

  one_below : (name : List ℕ) (path : Path) → IsUnder (job.new ++ name ∷ []) path → (rest : Path) × (path ≡ job.new ++ name ∷ rest)
  one_below name path (rest, is) = (rest, is ∙ append_assoc job.new (name ∷ []) rest)

  ground_inside : (path : Path) → IsInside (grounds job.new (holders_in job s)) path → IsInside (upgrade_in job s).new_tops path × IsHeld (upgrade_in job s).new_tops (holders_in job s) (parent path) × (is_root path ≡ false)
  ground_inside path (inl under) = (let (rest, is) = one_below (codes "pg_tblspc") path under in below_root path (codes "pg_tblspc") rest is)
  ground_inside path (inr (inl (rest, is))) =
      below_root path (codes "pg_profile") (codes "catalog.sql" ∷ rest)
      (is ∙ append_assoc (job.new ++ codes "pg_profile" ∷ []) (codes "catalog.sql" ∷ []) rest ∙ append_assoc job.new (codes "pg_profile" ∷ []) (codes "catalog.sql" ∷ rest))
  ground_inside path (inr (inr (inl under))) = (let (rest, is) = one_below (codes "base") path under in below_root path (codes "base") rest is)
  ground_inside path (inr (inr (inr inside))) =
      let (held, no_root) = place_held (holders_in job s) (dir_name_of V16) job.new path inside in
      (inr inside, held, no_root)

  -- below the root by another name
  beside : (m n : List ℕ) (ms ns more : Path) → m ≢ n → job.new ++ n ∷ ns ≡ (job.new ++ m ∷ ms) ++ more → ⊥
  beside m n ms ns more differ is =
      let same : n ∷ ns ≡ m ∷ (ms ++ more) = append_cancel_left job.new (n ∷ ns) (m ∷ (ms ++ more)) (is ∙ append_assoc job.new (m ∷ ms) more) in
      differ (cc same)

  ground_mark : IsOutside (grounds job.new (holders_in job s)) (mark_at job.new)
  ground_mark (inl (more, is)) = beside (codes "pg_tblspc") (codes "pg_profile") [] (codes "done" ∷ []) more (λ same. cc same) is
  ground_mark (inr (inl (more, is))) =
      let whole : codes "pg_profile" ∷ codes "done" ∷ [] ≡ codes "pg_profile" ∷ codes "catalog.sql" ∷ more =
      append_cancel_left job.new (codes "pg_profile" ∷ codes "done" ∷ []) (codes "pg_profile" ∷ codes "catalog.sql" ∷ more)
      (is ∙ append_assoc (job.new ++ codes "pg_profile" ∷ []) (codes "catalog.sql" ∷ []) more ∙ append_assoc job.new (codes "pg_profile" ∷ []) (codes "catalog.sql" ∷ more)) in
      cc whole
  ground_mark (inr (inr (inl (more, is)))) = beside (codes "base") (codes "pg_profile") [] (codes "done" ∷ []) more (λ same. cc same) is
  ground_mark (inr (inr (inr inside))) = root_apart job.new (holders_in job s) begins.new_apart (mark_at job.new) (codes "pg_profile" ∷ codes "done" ∷ [], refl) (region_at (dir_name_of V16) (holders_in job s) (mark_at job.new) inside)

  -- what is below the root by another name than those of the grounds
  pub ground_outside : (name : List ℕ) (rest : Path) → name ≢ codes "pg_tblspc" → name ≢ codes "pg_profile" → name ≢ codes "base" → IsOutside (grounds job.new (holders_in job s)) (job.new ++ name ∷ rest)
  ground_outside name rest no_link no_profile no_base (inl (more, is)) = beside (codes "pg_tblspc") name [] rest more (λ same. no_link (sym same)) is
  ground_outside name rest no_link no_profile no_base (inr (inl (more, is))) =
      let whole : name ∷ rest ≡ codes "pg_profile" ∷ codes "catalog.sql" ∷ more =
      append_cancel_left job.new (name ∷ rest) (codes "pg_profile" ∷ codes "catalog.sql" ∷ more)
      (is ∙ append_assoc (job.new ++ codes "pg_profile" ∷ []) (codes "catalog.sql" ∷ []) more ∙ append_assoc job.new (codes "pg_profile" ∷ []) (codes "catalog.sql" ∷ more)) in
      no_profile (cc whole)
  ground_outside name rest no_link no_profile no_base (inr (inr (inl (more, is)))) = beside (codes "base") name [] rest more (λ same. no_base (sym same)) is
  ground_outside name rest no_link no_profile no_base (inr (inr (inr inside))) = root_apart job.new (holders_in job s) begins.new_apart (job.new ++ name ∷ rest) (name ∷ rest, refl) (region_at (dir_name_of V16) (holders_in job s) (job.new ++ name ∷ rest) inside)

  ground_control : IsOutside (grounds job.new (holders_in job s)) (control_at job.new)
  ground_control = ground_outside (codes "global") (codes "pg_control" ∷ []) (λ same. cc same) (λ same. cc same) (λ same. cc same)

  -- no old place is one of the grounds
  pub old_outside : (path : Path) → IsInside (upgrade_in job s).old_tops path → IsOutside (grounds job.new (holders_in job s)) path
  old_outside path old inside = apart_of job s begins path old (ground_inside path inside).0

  pub ground_places : AreNewPlaces job s (grounds job.new (holders_in job s))
  ground_places = record { inside = ground_inside; no_mark = ground_mark; no_control = ground_control }

  pub status_places : AreNewPlaces job s (status_dirs job.new)
  status_places = record {
    inside = dirs_held (upgrade_in job s).new_tops (holders_in job s) job.new (inl ([], root_itself job.new));
    no_mark = dirs_outside job.new (codes "pg_profile") (codes "done" ∷ []) (λ same. cc same) (λ same. cc same);
    no_control = control_outside job.new;
  }
    where
      root_itself : (root : Path) → root ≡ root ++ []
      root_itself [] = refl
      root_itself (name ∷ root) = ap (λ rest. name ∷ rest) (root_itself root)
