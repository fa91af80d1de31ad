-- Names added one object after another.
use Rattle.std.proofs.Common.{◌≡◌, ◌∙◌, ℕ, ◌+◌, ◌<◌, length, slice_index_or, map, Bool, true, false, not, cond, ◌||◌, List, [], ◌∷◌, ◌++◌, drop, Option, Some, None, refl, sym, ap, append_assoc, if◌then◌else◌}
use Rattle.std.specs.Prelude.{slice_get, codes}
use Rattle.std.specs.Fmt.{decimal}
use Rattle.control_file.specs.declared.releases.Release.{Release}
use Rattle.control_file.specs.Version.{version_text_of}
use Rattle.catalog.specs.Cluster.{Cluster, DatabaseObjects}
use Rattle.catalog.specs.Spaces.{database_has, tablespace_has}
use Rattle.catalog.specs.declared.owners.Tablespace.{Tablespace}
use Rattle.catalog_server.specs.ReplayNames.{base_path, databases_path, link_path, database_names, tablespace_names}
use Rattle.fs_model.specs.Names.{Path}
use Rattle.new_names.specs.declared.names.NewName.{NewName}
use Rattle.new_names.specs.declared.names.NewNode.TheVariants.{Dir, File, Sym}
use Rattle.std.specs.List.{flat_map, find, list_any}
use Rattle.std.proofs.lemmas.List.{drop_more}
use Rattle.std.proofs.lemmas.Option.{slice_get_within, get_or_from_slice_get}

append-nil : {X : Type 0} (xs : List X) → xs ++ [] ≡ xs
append-nil [] = refl
append-nil (x ∷ xs) = ap (λ rest. x ∷ rest) (append-nil xs)

module _ {A B : Type 0} (f : A → List B) where
  -- one more object
  pub adding : (xs : List A) (i : ℕ) (x : A) (out next total : List B) → slice_get xs i ≡ Some x → next ≡ out ++ f x → out ++ flat_map f (drop i xs) ≡ total → next ++ flat_map f (drop (i + 1) xs) ≡ total
  adding xs i x out next total h e so_far =
      let place : drop i xs ≡ x ∷ drop (i + 1) xs = drop_more xs i x (slice_get_within xs i x h) ∙ ap (λ y. y ∷ drop (i + 1) xs) (get_or_from_slice_get xs i x x h) in
      ap (λ (l : List B). l ++ flat_map f (drop (i + 1) xs)) e ∙ append_assoc out (f x) (flat_map f (drop (i + 1) xs)) ∙ ap (λ l. out ++ flat_map f l) (sym place) ∙ so_far

-- one more object, of which one thing is added
pub adding_one : {A B : Type 0} (f : A → B) (xs : List A) (i : ℕ) (x : A) (out next total : List B) → slice_get xs i ≡ Some x → next ≡ out ++ f x ∷ [] → out ++ map f (drop i xs) ≡ total → next ++ map f (drop (i + 1) xs) ≡ total
adding_one f xs i x out next total h e so_far =
    let place : drop i xs ≡ x ∷ drop (i + 1) xs = drop_more xs i x (slice_get_within xs i x h) ∙ ap (λ y. y ∷ drop (i + 1) xs) (get_or_from_slice_get xs i x x h) in
    ap (λ l. l ++ map f (drop (i + 1) xs)) e ∙ append_assoc out (f x ∷ []) (map f (drop (i + 1) xs)) ∙ ap (λ l. out ++ map f l) (sym place) ∙ so_far

-- what is found is there, and what isn't found isn't
module _ {A : Type 0} (p : A → Bool) where
  pub found_any : (xs : List A) (x : A) → find p xs ≡ Some x → list_any p xs ≡ true
  found_any [] x e = absurd (cc e)
  found_any (y ∷ ys) x e = by (p y) (found_any ys x) e
    where
      by : (b : Bool) → (find p ys ≡ Some x → list_any p ys ≡ true) → cond b (Some y) (find p ys) ≡ Some x → (b || list_any p ys) ≡ true
      by true later e = refl
      by false later e = later e

  pub none_any : (xs : List A) → find p xs ≡ None → list_any p xs ≡ false
  none_any [] e = refl
  none_any (y ∷ ys) e = by (p y) (none_any ys) e
    where
      by : (b : Bool) → (find p ys ≡ None → list_any p ys ≡ false) → cond b (Some y) (find p ys) ≡ None → (b || list_any p ys) ≡ false
      by true later e = absurd (cc e)
      by false later e = later e

module _ (root : Path) (release : Release) (before : Cluster) (d : DatabaseObjects) (oid : ℕ) (is : oid ≡ d.oid) where
  pub old_database : (x : DatabaseObjects) → find (database_has oid) before.databases ≡ Some x → database_names root release before d ≡ []
  old_database x found =
      let any : list_any (database_has d.oid) before.databases ≡ true = ap (λ n. list_any (database_has n) before.databases) (sym is) ∙ found_any (database_has oid) before.databases x found in
      ap (λ b. if not b then record { path = base_path root ++ decimal d.oid ∷ []; node = Dir } ∷ record { path = base_path root ++ decimal d.oid ∷ codes "PG_VERSION" ∷ []; node = File (version_text_of release) } ∷ [] else []) any

  pub new_database : find (database_has oid) before.databases ≡ None
      → record { path = base_path root ++ decimal oid ∷ []; node = Dir } ∷ record { path = base_path root ++ decimal oid ∷ codes "PG_VERSION" ∷ []; node = File (version_text_of release) } ∷ [] ≡ database_names root release before d
  new_database none =
      let any : list_any (database_has d.oid) before.databases ≡ false = ap (λ n. list_any (database_has n) before.databases) (sym is) ∙ none_any (database_has oid) before.databases none in
      (λ i. record { path = base_path root ++ decimal (is i) ∷ []; node = Dir } ∷ record { path = base_path root ++ decimal (is i) ∷ codes "PG_VERSION" ∷ []; node = File (version_text_of release) } ∷ [])
      ∙ ap (λ b. if not b then record { path = base_path root ++ decimal d.oid ∷ []; node = Dir } ∷ record { path = base_path root ++ decimal d.oid ∷ codes "PG_VERSION" ∷ []; node = File (version_text_of release) } ∷ [] else []) (sym any)

-- the names of a new tablespace
abbrev pub location_names : Path → Release → Tablespace → List NewName
location_names root release t = record { path = databases_path root release t; node = Dir } ∷ record { path = link_path root t.oid; node = Sym t.location } ∷ []

module _ (root : Path) (release : Release) (before : Cluster) (t : Tablespace) where
  pub old_tablespace : (x : Tablespace) → find (tablespace_has t.oid) before.tablespaces ≡ Some x → tablespace_names root release before t ≡ []
  old_tablespace x found = ap (λ b. if not b then location_names root release t else []) (found_any (tablespace_has t.oid) before.tablespaces x found)

  pub new_tablespace : find (tablespace_has t.oid) before.tablespaces ≡ None → location_names root release t ≡ tablespace_names root release before t
  new_tablespace none = ap (λ b. if not b then location_names root release t else []) (sym (none_any (tablespace_has t.oid) before.tablespaces none))

pub adds_nothing : {X : Type 0} (out more : List X) → more ≡ [] → out ≡ out ++ more
adds_nothing out more none = sym (append-nil out) ∙ ap (λ l. out ++ l) (sym none)

pub two_more : {X : Type 0} (old mid new : List X) (a b x y : X) → mid ≡ old ++ a ∷ [] → new ≡ mid ++ b ∷ [] → a ≡ x → b ≡ y → new ≡ old ++ x ∷ y ∷ []
two_more old mid new a b x y first second same_a same_b =
    second ∙ (λ i. first i ++ b ∷ []) ∙ append_assoc old (a ∷ []) (b ∷ []) ∙ (λ i. old ++ same_a i ∷ same_b i ∷ [])

pub named : {p q : Path} {a b : List ℕ} → p ≡ q → a ≡ b → ◌≡◌ {A = NewName} (record { path = p; node = File a }) (record { path = q; node = File b })
named e f = λ i. record { path = e i; node = File (f i) }
