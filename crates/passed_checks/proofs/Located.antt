-- Where the check of tablespaces' directories finds nothing, the locations are ready, and no place of one cluster is one of the other.
use Rattle.std.proofs.Common.{◌≡◌, ◌≢◌, ◌⊎◌, inl, inr, ℕ, Bool, true, false, not, ◌&&◌, ◌||◌, if◌then◌else◌, List, [], ◌∷◌, ◌++◌, Option, Some, None, refl, sym, ◌∙◌, ap, append_assoc, subst}
use Rattle.std.specs.Prelude.{codes, is_some, ◌==◌, bytes_eq}
use Rattle.std.specs.List.{Contains, filter, list_any}
use Rattle.std.specs.FinMap.{get}
use Rattle.std.specs.Fmt.{decimal}
use Rattle.std.proofs.lemmas.Bool.{eqb-true, eq-eqb, false_from_ne_true}
use Rattle.std.proofs.lemmas.List.{append_cancel_left}
use Rattle.std.proofs.lemmas.Slice.Eq.{bytes_eq-Decides}
use Rattle.fs_model.specs.declared.node.Node.{Node}
use Rattle.fs_model.specs.declared.node.Node.TheVariants.{Dir, File, Sym}
use Rattle.fs_model.specs.Names.{Path, IsUnder, is_under, same_path}
use Rattle.fs_model.specs.PathLaws.{same_path_true}
use Rattle.fs_model.specs.State.{Names, FsState}
use Rattle.fs_model.proofs.Prefixes.{is_under_made}
use Rattle.control_file.specs.Version.{dir_name_of}
use Rattle.control_file.specs.declared.releases.Release.{Release}
use Rattle.control_file.specs.declared.releases.Release.TheVariants.{V15, V16}
use Rattle.catalog.specs.declared.owners.Tablespace.{Tablespace}
use Rattle.catalog.specs.Cluster.{Cluster, default_tablespace}
use Rattle.crash_safety.specs.Frame.{IsInside, IsOutside}
use Rattle.crash_safety.specs.Places.{links_at, target_of, locations, tops_at, IsAtLocation}
use Rattle.crash_safety.proofs.Placing.{inside_region, region_inside}
use Rattle.catalog_server.specs.Fresh.{AreLocationsReady}
use Rattle.catalog_server.proofs.Members.{In, to_in}
use Rattle.catalog_server.proofs.Addresses.{beginnings}
use Rattle.tree_checks.specs.Findings.{IsLeast, found_if, IsFirstOf, IsFirstAmong}
use Rattle.tree_checks.specs.NewDirs.{IsNameIn}
use Rattle.tree_checks.specs.MissingDirs.{IsNoDir}
use Rattle.file_checks.specs.Tablespaces.{is_placed, placed, link_of, is_target, overlaps, overlaps_other, is_overlapped, IsBadTablespace, is_no_link, IsTablespaceDir}
use Rattle.passed_checks.proofs.Standing.{dir_stands}

-- ---- lists and tests

pub no_first : {A : Type 0} (Finds : A → Option Path → Type 0) (xs : List A) → IsFirstAmong Finds xs None → (x : A) → In xs x → Finds x None
no_first Finds [] none x found = absurd found
no_first Finds (y ∷ ys) none x (inl is) = subst (λ z. Finds z None) (sym is) none.0
no_first Finds (y ∷ ys) none x (inr found) = no_first Finds ys none.1 x found

module _ {A : Type 0} (p : A → Bool) where
  keeps : (y : A) (ys : List A) (x : A) → p x ≡ true → (In ys x → In (filter p ys) x) → In (y ∷ ys) x → In (filter p (y ∷ ys)) x
  keeps y ys x has tail found = by (p y) refl found
    where
      by : (b : Bool) → p y ≡ b → In (y ∷ ys) x → In (if b then y ∷ filter p ys else filter p ys) x
      by true is (inl same) = inl same
      by true is (inr later) = inr (tail later)
      by false is (inl same) = absurd (let e = ap p (sym same) ∙ has in cc (e, is))
      by false is (inr later) = tail later

  pub in_filter : (xs : List A) (x : A) → In xs x → p x ≡ true → In (filter p xs) x
  in_filter [] x found has = absurd found
  in_filter (y ∷ ys) x found has = keeps y ys x has (λ later. in_filter ys x later has) found

  kept : (y : A) (ys : List A) (x : A) → (In (filter p ys) x → In ys x × (p x ≡ true)) → In (filter p (y ∷ ys)) x → In (y ∷ ys) x × (p x ≡ true)
  kept y ys x tail found = by (p y) refl found
    where
      by : (b : Bool) → p y ≡ b → In (if b then y ∷ filter p ys else filter p ys) x → In (y ∷ ys) x × (p x ≡ true)
      by true is (inl same) = (inl same, ap p same ∙ is)
      by true is (inr later) = (inr (tail later).0, (tail later).1)
      by false is later = (inr (tail later).0, (tail later).1)

  pub from_filter : (xs : List A) (x : A) → In (filter p xs) x → In xs x × (p x ≡ true)
  from_filter [] x found = absurd found
  from_filter (y ∷ ys) x found = kept y ys x (from_filter ys x) found

  fails : (y : A) (ys : List A) (x : A) → (list_any p ys ≡ false → In ys x → p x ≡ false) → list_any p (y ∷ ys) ≡ false → In (y ∷ ys) x → p x ≡ false
  fails y ys x tail none found = by (p y) refl none found
    where
      by : (b : Bool) → p y ≡ b → (b || list_any p ys) ≡ false → In (y ∷ ys) x → p x ≡ false
      by true is e there = absurd (cc e)
      by false is e (inl same) = ap p same ∙ is
      by false is e (inr later) = tail e later

  none_of : (xs : List A) → list_any p xs ≡ false → (x : A) → In xs x → p x ≡ false
  none_of [] none x found = absurd found
  none_of (y ∷ ys) none x found = fails y ys x (λ e later. none_of ys e x later) none found

  passing : (y : A) (ys : List A) → (list_any p ys ≡ true → (x : A) × In ys x × (p x ≡ true)) → list_any p (y ∷ ys) ≡ true → (x : A) × In (y ∷ ys) x × (p x ≡ true)
  passing y ys tail e = by (p y) refl e
    where
      by : (b : Bool) → p y ≡ b → (b || list_any p ys) ≡ true → (x : A) × In (y ∷ ys) x × (p x ≡ true)
      by true is e = (y, inl refl, is)
      by false is e = let (x, found, has) = tail e in (x, inr found, has)

  one_of : (xs : List A) → list_any p xs ≡ true → (x : A) × In xs x × (p x ≡ true)
  one_of [] e = absurd (cc e)
  one_of (y ∷ ys) e = passing y ys (one_of ys) e

pub not_found : (test : Bool) (path : Path) → None ≡ found_if test path → test ≡ false
not_found true path e = absurd (cc e)
not_found false path e = refl

not_false : (b : Bool) → not b ≡ false → b ≡ true
not_false true e = refl
not_false false e = absurd (cc e)

both_false : (x y : Bool) → (x || y) ≡ false → (x ≡ false) × (y ≡ false)
both_false true y e = absurd (cc e)
both_false false y e = (refl, e)

second_false : (x y : Bool) → (x && y) ≡ false → x ≡ true → y ≡ false
second_false true y e is = e
second_false false y e is = absurd (cc is)

free_is : (names : Names) (path : Path) → is_some (get names path) ≡ false → get names path ≡ None
free_is names path e = by (get names path) refl
  where
    by : (there : Option Node) → get names path ≡ there → get names path ≡ None
    by None is = is
    by (Some node) is = absurd (let f = ap is_some (sym is) ∙ e in cc f)

no_overlap : (a b : Path) → overlaps a b ≡ false → (IsUnder a b → ⊥) × (IsUnder b a → ⊥)
no_overlap a b e =
    let both = both_false (is_under a b) (is_under b a) e in
    (λ under. let made = is_under_made a b under in cc (made, both.0), λ under. let made = is_under_made b a under in cc (made, both.1))

-- ---- one tablespace

module _ (s : FsState) (old new : Path) (c : Cluster) (none : IsTablespaceDir s old new c None) (t : Tablespace) (found : In (placed c.tablespaces) t) where
  bad : IsBadTablespace s.names old new (placed c.tablespaces) t None
  bad = no_first (IsBadTablespace s.names old new (placed c.tablespaces)) (placed c.tablespaces) none.0 t found

  linked : is_target t.location (target_of (get s.names (link_of old t))) ≡ true
  linked = not_false (is_target t.location (target_of (get s.names (link_of old t)))) (not_found (not (is_target t.location (target_of (get s.names (link_of old t))))) (link_of old t) bad.0)

  pub location_stands : get s.names t.location ≡ Some Dir
  location_stands = dir_stands s.names t.location bad.1.0

  free : is_overlapped (placed c.tablespaces) old new t ≡ false
  free = not_found (is_overlapped (placed c.tablespaces) old new t) t.location bad.1.1.0

  parts : (overlaps t.location old ≡ false) × ((overlaps t.location new ≡ false) × (list_any (overlaps_other t) (placed c.tablespaces) ≡ false))
  parts =
      let first = both_false (overlaps t.location old) (overlaps t.location new || list_any (overlaps_other t) (placed c.tablespaces)) free in
      (first.0, both_false (overlaps t.location new) (list_any (overlaps_other t) (placed c.tablespaces)) first.1)

  pub old_free : (IsUnder t.location old → ⊥) × (IsUnder old t.location → ⊥)
  old_free = no_overlap t.location old parts.0

  pub new_free : (IsUnder t.location new → ⊥) × (IsUnder new t.location → ⊥)
  new_free = no_overlap t.location new parts.1.0

  pub others_free : (u : Tablespace) → In (placed c.tablespaces) u → t.oid ≢ u.oid → (IsUnder t.location u.location → ⊥) × (IsUnder u.location t.location → ⊥)
  others_free u there other =
      let e = none_of (overlaps_other t) (placed c.tablespaces) parts.1.1 u there in
      let not_same : not (u.oid == t.oid) ≡ true = ap not (false_from_ne_true (u.oid == t.oid) (λ same. other (sym (eqb-true u.oid t.oid same)))) in
      no_overlap t.location u.location (second_false (not (u.oid == t.oid)) (overlaps t.location u.location) e not_same)

  pub new_release_free : get s.names (t.location ++ dir_name_of V16 ∷ []) ≡ None
  new_release_free = free_is s.names (t.location ++ dir_name_of V16 ∷ []) (not_found (is_some (get s.names (t.location ++ dir_name_of V16 ∷ []))) (t.location ++ dir_name_of V16 ∷ []) bad.1.1.1.1)

  pub old_release_stands : get s.names (t.location ++ dir_name_of V15 ∷ []) ≡ Some Dir
  old_release_stands = dir_stands s.names (t.location ++ dir_name_of V15 ∷ []) bad.1.1.1.0

pub placed_in : (c : Cluster) (t : Tablespace) → Contains c.tablespaces t → t.oid ≢ default_tablespace → In (placed c.tablespaces) t
placed_in c t found other = in_filter is_placed c.tablespaces t (to_in c.tablespaces t found) (ap not (false_from_ne_true (t.oid == default_tablespace) (λ same. other (eqb-true t.oid default_tablespace same))))

pub locations_ready : (s : FsState) (old new : Path) (c : Cluster) → IsTablespaceDir s old new c None → AreLocationsReady new V16 c s
locations_ready s old new c none = record {
  locations = λ t found other. location_stands s old new c none t (placed_in c t found other);
  releases = λ t found other. new_release_free s old new c none t (placed_in c t found other);
  not_above = λ t found other. (new_free s old new c none t (placed_in c t found other)).0;
  not_below = λ t found other. (new_free s old new c none t (placed_in c t found other)).1;
  apart = λ t u found there not_default other_default other. (others_free s old new c none t (placed_in c t found not_default) u (placed_in c u there other_default) other).0;
}

-- ---- the places of both clusters

abbrev first_of : Path → List ℕ
first_of [] = []
first_of (name ∷ path) = name

releases_differ : bytes_eq (dir_name_of V15) (dir_name_of V16) ≡ false
releases_differ = refl

apart_paths : (p q x y : Path) → (IsUnder p q → ⊥) → (IsUnder q p → ⊥) → p ++ x ≡ q ++ y → ⊥
apart_paths p q x y no_first no_second e = by (beginnings p q x y e)
  where
    by : IsUnder p q ⊎ IsUnder q p → ⊥
    by (inl under) = no_first under
    by (inr under) = no_second under

module _ (s : FsState) (old new : Path) (c : Cluster) (none : IsTablespaceDir s old new c None) where
  -- a link is that of a tablespace, and leads to its location
  pub link_known : (name : List ℕ) (location : Path) → get s.names (links_at old ++ name ∷ []) ≡ Some (Sym location) → (t : Tablespace) × In (placed c.tablespaces) t × (name ≡ decimal t.oid) × (location ≡ t.location)
  link_known name location stands =
      let test : list_any (λ t. bytes_eq name (decimal t.oid)) (placed c.tablespaces) ≡ true = by (list_any (λ t. bytes_eq name (decimal t.oid)) (placed c.tablespaces)) refl in
      let (t, found, same) = one_of (λ t. bytes_eq name (decimal t.oid)) (placed c.tablespaces) test in
      let is = (bytes_eq-Decides name (decimal t.oid)).0 same in
      (t, found, is, target t found is)
    where
      by : (b : Bool) → list_any (λ t. bytes_eq name (decimal t.oid)) (placed c.tablespaces) ≡ b → list_any (λ t. bytes_eq name (decimal t.oid)) (placed c.tablespaces) ≡ true
      by true is = is
      by false is = absurd (none.1.1 (links_at old ++ name ∷ []) (name, refl, ap is_some stands, ap not is))

      target : (t : Tablespace) → In (placed c.tablespaces) t → name ≡ decimal t.oid → location ≡ t.location
      target t found is =
          let led : is_target t.location (Some location) ≡ true = ap (λ there. is_target t.location (target_of there)) (sym stands ∙ ap (λ n. get s.names (links_at old ++ n ∷ [])) is) ∙ linked s old new c none t found in
          same_path_true location t.location led

  pub link_stands : (t : Tablespace) → In (placed c.tablespaces) t → get s.names (links_at old ++ decimal t.oid ∷ []) ≡ Some (Sym t.location)
  link_stands t found = by (get s.names (link_of old t)) refl
    where
      by : (there : Option Node) → get s.names (link_of old t) ≡ there → get s.names (link_of old t) ≡ Some (Sym t.location)
      by None is = absurd (let e = ap (λ n. is_target t.location (target_of n)) (sym is) ∙ linked s old new c none t found in cc e)
      by (Some Dir) is = absurd (let e = ap (λ n. is_target t.location (target_of n)) (sym is) ∙ linked s old new c none t found in cc e)
      by (Some (File inode)) is = absurd (let e = ap (λ n. is_target t.location (target_of n)) (sym is) ∙ linked s old new c none t found in cc e)
      by (Some (Sym target)) is =
          let e = ap (λ n. is_target t.location (target_of n)) (sym is) ∙ linked s old new c none t found in
          is ∙ ap (λ p. Some (Sym p)) (same_path_true target t.location e)

  two : (p : Path) (x : List ℕ) (q : Path) → (p ++ x ∷ []) ++ q ≡ p ++ x ∷ q
  two p x q = append_assoc p (x ∷ []) q

  same_link : (t u : Tablespace) → In (placed c.tablespaces) t → In (placed c.tablespaces) u → t.oid ≡ u.oid → t.location ≡ u.location
  same_link t u found there same =
      let e : Some (Sym t.location) ≡ Some (Sym u.location) = sym (link_stands t found) ∙ ap (λ o. get s.names (links_at old ++ decimal o ∷ [])) same ∙ link_stands u there in
      cc e

  releases_apart : (t u : Tablespace) → In (placed c.tablespaces) t → In (placed c.tablespaces) u → (x y : Path) → t.location ++ dir_name_of V15 ∷ x ≡ u.location ++ dir_name_of V16 ∷ y → ⊥
  releases_apart t u found there x y e = by (t.oid == u.oid) refl
    where
      by : (b : Bool) → (t.oid == u.oid) ≡ b → ⊥
      by true is =
          let here = same_link t u found there (eqb-true t.oid u.oid is) in
          let rest : dir_name_of V15 ∷ x ≡ dir_name_of V16 ∷ y = append_cancel_left u.location (dir_name_of V15 ∷ x) (dir_name_of V16 ∷ y) (ap (λ p. p ++ dir_name_of V15 ∷ x) (sym here) ∙ e) in
          let same = (bytes_eq-Decides (dir_name_of V15) (dir_name_of V16)).1 (ap first_of rest) in
          let f : true ≡ false = sym same ∙ releases_differ in
          absurd (cc f)
      by false is =
          let apart = others_free s old new c none t found u there (λ same. let f = eq-eqb t.oid u.oid same in cc (f, is)) in
          apart_paths t.location u.location (dir_name_of V15 ∷ x) (dir_name_of V16 ∷ y) apart.0 apart.1 e

  at_location : (release : List ℕ) (path : Path) → IsAtLocation s.names old release path → (t : Tablespace) × In (placed c.tablespaces) t × (rest : Path) × (path ≡ t.location ++ release ∷ rest)
  at_location release path (name, location, stands, (rest, is)) =
      let (t, found, t_name, t_location) = link_known name location stands in
      (t, found, rest, is ∙ two location release rest ∙ ap (λ p. p ++ release ∷ rest) t_location)

  pub places_apart : (IsUnder old new → ⊥) → (IsUnder new old → ⊥) → (path : Path) → IsInside (tops_at (locations s.names old) (dir_name_of V15) old) path → IsOutside (tops_at (locations s.names old) (dir_name_of V16) new) path
  places_apart old_apart new_apart path in_old in_new = by (inside_region s.names old (dir_name_of V15) path old in_old) (inside_region s.names old (dir_name_of V16) path new in_new)
    where
      by : IsUnder old path ⊎ IsAtLocation s.names old (dir_name_of V15) path → IsUnder new path ⊎ IsAtLocation s.names old (dir_name_of V16) path → ⊥
      by (inl (x, is)) (inl (y, same)) = apart_paths old new x y old_apart new_apart (sym is ∙ same)
      by (inl (x, is)) (inr at) =
          let (t, found, rest, same) = at_location (dir_name_of V16) path at in
          let free = old_free s old new c none t found in
          apart_paths old t.location x (dir_name_of V16 ∷ rest) free.1 free.0 (sym is ∙ same)
      by (inr at) (inl (y, same)) =
          let (t, found, rest, is) = at_location (dir_name_of V15) path at in
          let free = new_free s old new c none t found in
          apart_paths t.location new (dir_name_of V15 ∷ rest) y free.0 free.1 (sym is ∙ same)
      by (inr at) (inr other) =
          let (t, found, x, is) = at_location (dir_name_of V15) path at in
          let (u, there, y, same) = at_location (dir_name_of V16) path other in
          releases_apart t u found there x y (sym is ∙ same)
