-- Where the directories stand that a replay needs, and no name of it is in the way, there is room for its names.
use Rattle.std.proofs.Common.{◌≡◌, ◌≢◌, inl, inr, ℕ, Bool, true, false, not, ◌&&◌, if◌then◌else◌, List, [], ◌∷◌, ◌++◌, Option, Some, None, refl, sym, ◌∙◌, ap, append_assoc, subst, nat_eq}
use Rattle.std.specs.Prelude.{codes}
use Rattle.std.specs.List.{flat_map, find, list_any}
use Rattle.std.specs.Fmt.{decimal}
use Rattle.std.proofs.lemmas.Bool.{eqb-true, eq-eqb}
use Rattle.fs_model.specs.Names.{Path, parent}
use Rattle.fs_model.specs.State.{FsState}
use Rattle.crash_safety.proofs.Needing.{parent_of}
use Rattle.control_file.specs.declared.releases.Release.{Release}
use Rattle.control_file.specs.Version.{dir_name_of, version_text_of}
use Rattle.catalog.specs.declared.owners.Tablespace.{Tablespace}
use Rattle.catalog.specs.Cluster.{Cluster, DatabaseObjects, default_tablespace}
use Rattle.catalog.specs.Spaces.{tablespace_has}
use Rattle.catalog.specs.Valid.{IsValid}
use Rattle.new_names.specs.declared.names.NewName.{NewName}
use Rattle.new_names.specs.declared.names.NewNode.TheVariants.{Dir, File, Sym}
use Rattle.new_names.specs.Room.{IsApart, HasDirectory, HasRoomAfter, HasRoomFor}
use Rattle.catalog_server.specs.declared.relation.Relation.{Relation}
use Rattle.catalog_server.specs.ReplayNames.{base_path, links_path, link_path, databases_path, relations_of, relations_in, stands_in, is_new_tablespace, is_new_database, is_new_relation, is_newly_held, tablespace_names, database_names, holding_names, file_names, relation_names, held_names, new_names}
use Rattle.catalog_server.specs.Needed.{HasDir, IsFree, HasNeeded, ArePathsDistinct, AreFree}
use Rattle.catalog_server.proofs.Members.{In, from_in, in_left, in_right, in_if, in_find, find_has, in_any, in_flat, in_either}

abbrev pub Within : List NewName → List NewName → Type 0
Within xs ys = (x : NewName) → In xs x → In ys x

abbrev pub dir_at : Path → NewName
dir_at path = record { path = path; node = Dir }

module _ (s : FsState) where
  -- ---- a list whose names are free, apart, and each in a directory

  abbrev pub HaveParents : List NewName → List NewName → Type 0
  HaveParents earlier [] = Unit {0}
  HaveParents earlier (n ∷ names) = HasDirectory s earlier (parent n.path) × HaveParents (n ∷ earlier) names

  is_apart : (path : Path) (earlier : List NewName) → ((e : NewName) → In earlier e → path ≢ e.path) → IsApart earlier path
  is_apart path [] apart = tt
  is_apart path (e ∷ earlier) apart = (apart e (inl refl), is_apart path earlier (λ x found. apart x (inr found)))

  room_after : (names earlier : List NewName) → ((n : NewName) → In names n → IsFree s n.path) → ArePathsDistinct names → ((n e : NewName) → In names n → In earlier e → n.path ≢ e.path) → HaveParents earlier names → HasRoomAfter s earlier names
  room_after [] earlier free distinct apart parents = tt
  room_after (n ∷ names) earlier free distinct apart parents = (
    free n (inl refl),
    is_apart n.path earlier (λ e found. apart n e (inl refl) found),
    parents.0,
    room_after names (n ∷ earlier) (λ m found. free m (inr found)) distinct.1 next parents.1,
  )
    where
      next : (m e : NewName) → In names m → In (n ∷ earlier) e → m.path ≢ e.path
      next m e found (inl is) same = distinct.0 m (from_in names m found) (same ∙ ap (λ (x : NewName). x.path) is)
      next m e found (inr old) same = apart m e (inr found) old same

  pub room_for : (names : List NewName) → AreFree s names → HaveParents [] names → HasRoomFor s names
  room_for names are parents = room_after names [] (λ n found. are.free n (from_in names n found)) are.distinct (λ n e found none. absurd none) parents

  -- ---- parents

  has_directory : (earlier : List NewName) (path : Path) → HasDir s path → HasDirectory s earlier path
  has_directory [] path stands = stands
  has_directory (n ∷ earlier) path stands = inr (has_directory earlier path stands)

  listed_directory : (earlier : List NewName) (path : Path) → In earlier (dir_at path) → HasDirectory s earlier path
  listed_directory [] path found = absurd found
  listed_directory (n ∷ earlier) path (inl is) = inl (sym is)
  listed_directory (n ∷ earlier) path (inr found) = inr (listed_directory earlier path found)

  parents_append : (xs ys earlier : List NewName) → HaveParents earlier xs → ((more : List NewName) → Within xs more → Within earlier more → HaveParents more ys) → HaveParents earlier (xs ++ ys)
  parents_append [] ys earlier here rest = rest earlier (λ x found. absurd found) (λ x found. found)
  parents_append (x ∷ xs) ys earlier here rest =
      (here.0, parents_append xs ys (x ∷ earlier) here.1 (λ more has_xs has. rest more (both more has_xs has) (λ y found. has y (inr found))))
    where
      both : (more : List NewName) → Within xs more → Within (x ∷ earlier) more → Within (x ∷ xs) more
      both more has_xs has y (inl is) = has y (inl is)
      both more has_xs has y (inr found) = has_xs y found

  parents_flat : {X : Type 0} (f : X → List NewName) (known : List NewName) (xs : List X) → ((x : X) → In xs x → (earlier : List NewName) → Within known earlier → HaveParents earlier (f x))
      → (earlier : List NewName) → Within known earlier → HaveParents earlier (flat_map f xs)
  parents_flat f known [] each earlier has = tt
  parents_flat f known (x ∷ xs) each earlier has =
      parents_append (f x) (flat_map f xs) earlier (each x (inl refl) earlier has)
      (λ more _ has_more. parents_flat f known xs (λ y found. each y (inr found)) more (λ y found. has_more y (has y found)))

-- ---- the paths of what is made

pub parent_of_two : (dir : Path) (name last : List ℕ) → parent (dir ++ name ∷ last ∷ []) ≡ dir ++ name ∷ []
parent_of_two dir name last = ap parent (sym (append_assoc dir (name ∷ []) (last ∷ []))) ∙ parent_of (dir ++ name ∷ []) last

pub other_path : (root : Path) (release : Release) (t : Tablespace) → nat_eq t.oid default_tablespace ≡ false → databases_path root release t ≡ t.location ++ dir_name_of release ∷ []
other_path root release t e = ap (λ b. if b then base_path root else t.location ++ dir_name_of release ∷ []) e

pub own_path : (root : Path) (release : Release) (t : Tablespace) → nat_eq t.oid default_tablespace ≡ true → databases_path root release t ≡ base_path root
own_path root release t e = ap (λ b. if b then base_path root else t.location ++ dir_name_of release ∷ []) e

-- a new tablespace isn't `pg_default`
pub new_is_other : (before : Cluster) → list_any (tablespace_has default_tablespace) before.tablespaces ≡ true → (t : Tablespace) → is_new_tablespace before t ≡ true → nat_eq t.oid default_tablespace ≡ false
new_is_other before has_default t e = by (nat_eq t.oid default_tablespace) refl
  where
    there : (n : ℕ) → n ≡ default_tablespace → list_any (tablespace_has n) before.tablespaces ≡ true
    there n is = ap (λ m. list_any (tablespace_has m) before.tablespaces) is ∙ has_default

    by : (b : Bool) → nat_eq t.oid default_tablespace ≡ b → nat_eq t.oid default_tablespace ≡ false
    by true is = absurd (let h = there t.oid (eqb-true t.oid default_tablespace is) in let k : not (list_any (tablespace_has t.oid) before.tablespaces) ≡ false = ap not h in cc (k, e))
    by false is = is

module _ (s : FsState) (root : Path) (release : Release) (before after : Cluster) (has_default : list_any (tablespace_has default_tablespace) before.tablespaces ≡ true) (needed : HasNeeded root release before after s) where
  -- where the location stands, so does what is made in it
  tablespace_parents : (t : Tablespace) → In after.tablespaces t → (earlier : List NewName) → HaveParents s earlier (tablespace_names root release before t)
  tablespace_parents t found earlier = by (is_new_tablespace before t) refl
    where
      by : (b : Bool) → is_new_tablespace before t ≡ b → HaveParents s earlier (if b then dir_at (databases_path root release t) ∷ record { path = link_path root t.oid; node = Sym t.location } ∷ [] else [])
      by false e = tt
      by true e =
          let above : parent (databases_path root release t) ≡ t.location = ap parent (other_path root release t (new_is_other before has_default t e)) ∙ parent_of t.location (dir_name_of release) in
          let linked : parent (link_path root t.oid) ≡ links_path root = parent_of (links_path root) (decimal t.oid) in (
            has_directory s earlier (parent (databases_path root release t)) (subst (HasDir s) (sym above) (needed.locations t (from_in after.tablespaces t found) e)),
            (has_directory s (dir_at (databases_path root release t) ∷ earlier) (parent (link_path root t.oid)) (subst (HasDir s) (sym linked) needed.links), tt),
          )

  database_parents : (d : DatabaseObjects) (earlier : List NewName) → HaveParents s earlier (database_names root release before d)
  database_parents d earlier = by (is_new_database before d)
    where
      by : (b : Bool) → HaveParents s earlier (if b then dir_at (base_path root ++ decimal d.oid ∷ []) ∷ record { path = base_path root ++ decimal d.oid ∷ codes "PG_VERSION" ∷ []; node = File (version_text_of release) } ∷ [] else [])
      by false = tt
      by true = (
        has_directory s earlier (parent (base_path root ++ decimal d.oid ∷ [])) (subst (HasDir s) (sym (parent_of (base_path root) (decimal d.oid))) needed.base),
        (subst (HasDirectory s (dir_at (base_path root ++ decimal d.oid ∷ []) ∷ earlier)) (sym (parent_of_two (base_path root) (decimal d.oid) (codes "PG_VERSION"))) (inl refl), tt),
      )

  -- what is made before what databases have
  abbrev Before : List NewName
  Before = flat_map (tablespace_names root release before) after.tablespaces ++ flat_map (database_names root release before) after.databases

  -- a database's directory stands, or is made
  database_directory : (d : DatabaseObjects) → In after.databases d → (earlier : List NewName) → Within Before earlier → HasDirectory s earlier (base_path root ++ decimal d.oid ∷ [])
  database_directory d found earlier has = by (is_new_database before d) refl
    where
      by : (b : Bool) → is_new_database before d ≡ b → HasDirectory s earlier (base_path root ++ decimal d.oid ∷ [])
      by false e = has_directory s earlier (base_path root ++ decimal d.oid ∷ []) (needed.databases d (from_in after.databases d found) e)
      by true e =
          let made = in_if (is_new_database before d) (dir_at (base_path root ++ decimal d.oid ∷ []) ∷ record { path = base_path root ++ decimal d.oid ∷ codes "PG_VERSION" ∷ []; node = File (version_text_of release) } ∷ []) (dir_at (base_path root ++ decimal d.oid ∷ [])) e (inl refl) in
          listed_directory s earlier (base_path root ++ decimal d.oid ∷ []) (has (dir_at (base_path root ++ decimal d.oid ∷ [])) (in_right (flat_map (tablespace_names root release before) after.tablespaces) (flat_map (database_names root release before) after.databases) (dir_at (base_path root ++ decimal d.oid ∷ [])) (in_flat (database_names root release before) after.databases d (dir_at (base_path root ++ decimal d.oid ∷ [])) found made)))

  -- the release's directory in a tablespace stands, or is made
  release_directory : (t : Tablespace) → In after.tablespaces t → nat_eq t.oid default_tablespace ≡ false → (earlier : List NewName) → Within Before earlier → HasDirectory s earlier (databases_path root release t)
  release_directory t found other earlier has = by (is_new_tablespace before t) refl
    where
      by : (b : Bool) → is_new_tablespace before t ≡ b → HasDirectory s earlier (databases_path root release t)
      by false e = has_directory s earlier (databases_path root release t) (needed.releases t (from_in after.tablespaces t found) (λ is. absurd (let h = eq-eqb t.oid default_tablespace is in cc (h, other))) e)
      by true e =
          let made = in_if (is_new_tablespace before t) (dir_at (databases_path root release t) ∷ record { path = link_path root t.oid; node = Sym t.location } ∷ []) (dir_at (databases_path root release t)) e (inl refl) in
          listed_directory s earlier (databases_path root release t) (has (dir_at (databases_path root release t)) (in_left (flat_map (tablespace_names root release before) after.tablespaces) (flat_map (database_names root release before) after.databases) (dir_at (databases_path root release t)) (in_flat (tablespace_names root release before) after.tablespaces t (dir_at (databases_path root release t)) found made)))

  module _ (d : DatabaseObjects) (d_found : In after.databases d) where
    abbrev was : List Relation
    was = relations_in before d.oid

    abbrev holdings : List NewName
    holdings = flat_map (holding_names root release d.oid was (relations_of d)) after.tablespaces

    holding_parents : (t : Tablespace) → In after.tablespaces t → (earlier : List NewName) → Within Before earlier → HaveParents s earlier (holding_names root release d.oid was (relations_of d) t)
    holding_parents t found earlier has = by (nat_eq t.oid default_tablespace) refl (list_any (stands_in t.oid) (relations_of d) && not (list_any (stands_in t.oid) was))
      where
        by : (b : Bool) → nat_eq t.oid default_tablespace ≡ b → (held : Bool) → HaveParents s earlier (if not b && held then dir_at (databases_path root release t ++ decimal d.oid ∷ []) ∷ [] else [])
        by true e held = tt
        by false e false = tt
        by false e true = (subst (HasDirectory s earlier) (sym (parent_of (databases_path root release t) (decimal d.oid))) (release_directory t found e earlier has), tt)

    -- a relation's file is in a directory of its database
    file_directory : (r : Relation) → In (relations_of d) r → (t : Tablespace) → In after.tablespaces t → t.oid ≡ r.tablespace → (earlier : List NewName) → Within Before earlier → Within holdings earlier
        → HasDirectory s earlier (databases_path root release t ++ decimal d.oid ∷ [])
    file_directory r r_found t found is earlier has has_holdings = by (nat_eq t.oid default_tablespace) refl
      where
        stands : list_any (stands_in t.oid) (relations_of d) ≡ true
        stands = in_any (stands_in t.oid) (relations_of d) r r_found (eq-eqb r.tablespace t.oid (sym is))

        held : (b : Bool) → nat_eq t.oid default_tablespace ≡ false → list_any (stands_in t.oid) was ≡ b → HasDirectory s earlier (databases_path root release t ++ decimal d.oid ∷ [])
        held true e h = has_directory s earlier (databases_path root release t ++ decimal d.oid ∷ []) (needed.held d t (from_in after.databases d d_found) (from_in after.tablespaces t found) (λ same. absurd (let k = eq-eqb t.oid default_tablespace same in cc (k, e))) h)
        held false e h =
            let new : is_newly_held was (relations_of d) t ≡ true = (λ i. not (e i) && (stands i && not (h i))) in
            let made = in_if (is_newly_held was (relations_of d) t) (dir_at (databases_path root release t ++ decimal d.oid ∷ []) ∷ []) (dir_at (databases_path root release t ++ decimal d.oid ∷ [])) new (inl refl) in
            listed_directory s earlier (databases_path root release t ++ decimal d.oid ∷ []) (has_holdings (dir_at (databases_path root release t ++ decimal d.oid ∷ [])) (in_flat (holding_names root release d.oid was (relations_of d)) after.tablespaces t (dir_at (databases_path root release t ++ decimal d.oid ∷ [])) found made))

        by : (b : Bool) → nat_eq t.oid default_tablespace ≡ b → HasDirectory s earlier (databases_path root release t ++ decimal d.oid ∷ [])
        by true e = subst (λ p. HasDirectory s earlier (p ++ decimal d.oid ∷ [])) (sym (own_path root release t e)) (database_directory d d_found earlier has)
        by false e = held (list_any (stands_in t.oid) was) e refl

    relation_parents : (r : Relation) → In (relations_of d) r → (earlier : List NewName) → Within Before earlier → Within holdings earlier → HaveParents s earlier (relation_names root release after.tablespaces d.oid was r)
    relation_parents r r_found earlier has has_holdings = new (is_new_relation was r)
      where
        at : (found : Option Tablespace) → find (tablespace_has r.tablespace) after.tablespaces ≡ found → HaveParents s earlier (file_names root release d.oid r.file found)
        at None e = tt
        at (Some t) e = (
          subst (HasDirectory s earlier) (sym (parent_of_two (databases_path root release t) (decimal d.oid) (decimal r.file)))
              (file_directory r r_found t (in_find (tablespace_has r.tablespace) after.tablespaces t e) (eqb-true t.oid r.tablespace (find_has (tablespace_has r.tablespace) after.tablespaces t e)) earlier has has_holdings),
          tt,
        )

        new : (b : Bool) → HaveParents s earlier (if b then file_names root release d.oid r.file (find (tablespace_has r.tablespace) after.tablespaces) else [])
        new false = tt
        new true = at (find (tablespace_has r.tablespace) after.tablespaces) refl

    held_parents : (earlier : List NewName) → Within Before earlier → HaveParents s earlier (held_names root release before after d)
    held_parents earlier has =
        parents_append s holdings (flat_map (relation_names root release after.tablespaces d.oid was) (relations_of d)) earlier
        (parents_flat s (holding_names root release d.oid was (relations_of d)) Before after.tablespaces (λ t found more has_more. holding_parents t found more has_more) earlier has)
        (λ more has_holdings has_earlier.
        parents_flat s (relation_names root release after.tablespaces d.oid was) more (relations_of d)
        (λ r found rest has_more. relation_parents r found rest (λ x known. has_more x (has_earlier x (has x known))) (λ x known. has_more x (has_holdings x known))) more (λ x known. known))

  pub new_parents : HaveParents s [] (new_names root release before after)
  unfolding new_names
  new_parents =
      let ts = flat_map (tablespace_names root release before) after.tablespaces in
      let ds = flat_map (database_names root release before) after.databases in
      parents_append s ts (ds ++ flat_map (held_names root release before after) after.databases) []
      (parents_flat s (tablespace_names root release before) [] after.tablespaces (λ t found earlier _. tablespace_parents t found earlier) [] (λ x none. absurd none))
      (λ more has_ts _.
      parents_append s ds (flat_map (held_names root release before after) after.databases) more
      (parents_flat s (database_names root release before) [] after.databases (λ d _ earlier _. database_parents d earlier) more (λ x none. absurd none))
      (λ all has_ds has_more.
      parents_flat s (held_names root release before after) all after.databases
      (λ d found earlier has. held_parents d found earlier (λ x known. has x (both all (λ y h. has_more y (has_ts y h)) has_ds x known))) all (λ x known. known)))
    where
      both : (all : List NewName) → Within (flat_map (tablespace_names root release before) after.tablespaces) all → Within (flat_map (database_names root release before) after.databases) all → Within Before all
      both all has_ts has_ds x known = in_either (flat_map (tablespace_names root release before) after.tablespaces) (flat_map (database_names root release before) after.databases) x (In all x) (has_ts x) (has_ds x) known

-- the law
pub needed_gives_room : (root : Path) (release : Release) (before after : Cluster) (s : FsState) → list_any (tablespace_has default_tablespace) before.tablespaces ≡ true → HasNeeded root release before after s → AreFree s (new_names root release before after) → HasRoomFor s (new_names root release before after)
needed_gives_room root release before after s has_default needed free = room_for s (new_names root release before after) free (new_parents s root release before after has_default needed)

-- each valid catalog has `pg_default`
pub valid_has_default : (c : Cluster) → IsValid c → list_any (tablespace_has default_tablespace) c.tablespaces ≡ true
valid_has_default c valid = ap (list_any (tablespace_has default_tablespace)) valid.tablespaces_are
