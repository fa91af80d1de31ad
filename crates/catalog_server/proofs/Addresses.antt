-- Where the names of a replay on an unused cluster are: each in the directory of a tablespace, by a few names from there on,
-- which say what it is. So no two of them are at one path.
use Rattle.std.proofs.Common.{◌≡◌, ◌≢◌, ◌⊎◌, inl, inr, ℕ, ◌<◌, ◌^◌, Bool, true, false, cond, not, if◌then◌else◌, List, [], ◌∷◌, ◌++◌, map, Option, Some, None, refl, sym, ◌∙◌, ap, arith, nat_eq}
use Rattle.std.specs.Prelude.{codes, bytes_eq}
use Rattle.std.specs.Option.{unwrap_or}
use Rattle.std.specs.List.{flat_map, find, list_any}
use Rattle.std.specs.Fmt.{decimal}
use Rattle.std.proofs.lemmas.Bool.{eqb-true, eq-eqb, and_parts}
use Rattle.fs_model.specs.Names.{Path, IsUnder}
use Rattle.dump_lex.specs.Value.{number_of}
use Rattle.dump_lex.proofs.Values.{decimal_number}
use Rattle.control_file.specs.declared.releases.Release.{Release}
use Rattle.control_file.specs.Version.{dir_name_of}
use Rattle.catalog.specs.declared.owners.Tablespace.{Tablespace}
use Rattle.catalog.specs.Cluster.{default_tablespace}
use Rattle.catalog.specs.Lists.{are_distinct}
use Rattle.catalog.specs.Spaces.{tablespace_has, tablespace_oids}
use Rattle.catalog_server.proofs.Members.{In, in_any, in_map, flat_in}

-- ---- what a name is

pub data Address : Type 0 where
  -- the release's directory of a tablespace, and the link to its location
  ReleaseDir : ℕ → Address
  LinkTo : ℕ → Address
  -- a database's directory in `base`, and its version
  DatabaseDir : ℕ → Address
  VersionIn : ℕ → Address
  -- a database's directory in a tablespace, and there a main file
  Holding : ℕ → ℕ → Address
  MainFile : ℕ → ℕ → ℕ → Address

-- the tablespace in whose directory it is; the cluster's own is `pg_default`'s
abbrev pub space : Address → ℕ
space (ReleaseDir t) = t
space (LinkTo t) = default_tablespace
space (DatabaseDir d) = default_tablespace
space (VersionIn d) = default_tablespace
space (Holding t d) = t
space (MainFile t d f) = t

abbrev pub is_own : ℕ → Bool
is_own t = nat_eq t default_tablespace

-- its numbers are those of a catalog
abbrev pub IsProper : Address → Type 0
IsProper (ReleaseDir t) = is_own t ≡ false
IsProper (LinkTo t) = t < 2 ^ 32
IsProper (DatabaseDir d) = d < 2 ^ 32
IsProper (VersionIn d) = d < 2 ^ 32
IsProper (Holding t d) = (is_own t ≡ false) × (d < 2 ^ 32)
IsProper (MainFile t d f) = (d < 2 ^ 32) × (f < 2 ^ 32)

number : List ℕ → ℕ
number digits = unwrap_or (number_of digits) 0

number_is : (n : ℕ) → n < 2 ^ 32 → number (decimal n) ≡ n
unfolding number
number_is n small = ap (λ found. unwrap_or found 0) (decimal_number n (omega (arith, small))).1

same_bytes : (xs ys : List ℕ) → bytes_eq xs ys ≡ true → xs ≡ ys
same_bytes [] [] e = refl
same_bytes [] (y ∷ ys) e = absurd (cc e)
same_bytes (x ∷ xs) [] e = absurd (cc e)
same_bytes (x ∷ xs) (y ∷ ys) e =
    let (first, rest) = and_parts (nat_eq x y) (bytes_eq xs ys) e in
    let head : x ≡ y = eqb-true x y first in
    let tail : xs ≡ ys = same_bytes xs ys rest in
    (λ i. head i ∷ tail i)

no_version : (f : ℕ) → f < 2 ^ 32 → bytes_eq (decimal f) (codes "PG_VERSION") ≡ false
no_version f small = by (bytes_eq (decimal f) (codes "PG_VERSION")) refl
  where
    by : (b : Bool) → bytes_eq (decimal f) (codes "PG_VERSION") ≡ b → bytes_eq (decimal f) (codes "PG_VERSION") ≡ false
    by true e =
        let read : number_of (codes "PG_VERSION") ≡ Some f = ap number_of (sym (same_bytes (decimal f) (codes "PG_VERSION") e)) ∙ (decimal_number f (omega (arith, small))).1 in
        let none : number_of (codes "PG_VERSION") ≡ None = refl in
        absurd (cc (read, none))
    by false e = e

module _ (release : Release) where
  -- the directory's name in a tablespace
  abbrev pub front : ℕ → List ℕ
  front t = if is_own t then codes "base" else dir_name_of release

  abbrev pub rest_of : Address → Path
  rest_of (ReleaseDir t) = dir_name_of release ∷ []
  rest_of (LinkTo t) = codes "pg_tblspc" ∷ decimal t ∷ []
  rest_of (DatabaseDir d) = codes "base" ∷ decimal d ∷ []
  rest_of (VersionIn d) = codes "base" ∷ decimal d ∷ codes "PG_VERSION" ∷ []
  rest_of (Holding t d) = dir_name_of release ∷ decimal d ∷ []
  rest_of (MainFile t d f) = front t ∷ decimal d ∷ decimal f ∷ []

  -- what it is, by where it is
  decoded : ℕ → Path → Address
  decoded k [] = ReleaseDir k
  decoded k (x ∷ []) = ReleaseDir k
  decoded k (x ∷ y ∷ []) = cond (is_own k) (cond (bytes_eq x (codes "base")) (DatabaseDir (number y)) (LinkTo (number y))) (Holding k (number y))
  decoded k (x ∷ y ∷ z ∷ rest) = cond (bytes_eq z (codes "PG_VERSION")) (VersionIn (number y)) (MainFile k (number y) (number z))

  decoded_is : (a : Address) → IsProper a → decoded (space a) (rest_of a) ≡ a
  unfolding decoded
  decoded_is (ReleaseDir t) proper = refl
  decoded_is (LinkTo t) proper = ap LinkTo (number_is t proper)
  decoded_is (DatabaseDir d) proper = ap DatabaseDir (number_is d proper)
  decoded_is (VersionIn d) proper = ap VersionIn (number_is d proper)
  decoded_is (Holding t d) (other, small) =
      ap (λ b. cond b (cond (bytes_eq (dir_name_of release) (codes "base")) (DatabaseDir (number (decimal d))) (LinkTo (number (decimal d)))) (Holding t (number (decimal d)))) other ∙ ap (Holding t) (number_is d small)
  decoded_is (MainFile t d f) (small, small_file) =
      ap (λ b. cond b (VersionIn (number (decimal d))) (MainFile t (number (decimal d)) (number (decimal f)))) (no_version f small_file)
      ∙ (λ i. MainFile t (number_is d small i) (number_is f small_file i))

  pub same_address : (a b : Address) → IsProper a → IsProper b → space a ≡ space b → rest_of a ≡ rest_of b → a ≡ b
  same_address a b proper proper_too spaces rests = sym (decoded_is a proper) ∙ (λ i. decoded (spaces i) (rests i)) ∙ decoded_is b proper_too

-- ---- lists of them

abbrev pub AreDistinct : List Address → Type 0
AreDistinct [] = Unit {0}
AreDistinct (a ∷ places) = ((b : Address) → In places b → b ≢ a) × AreDistinct places

pub distinct_append : (places bs : List Address) → AreDistinct places → AreDistinct bs → ((a b : Address) → In places a → In bs b → b ≢ a) → AreDistinct (places ++ bs)
distinct_append [] bs left right cross = right
distinct_append (a ∷ places) bs left right cross = (both, distinct_append places bs left.1 right (λ x y found. cross x y (inr found)))
  where
    across : (xs : List Address) → ((b : Address) → In xs b → b ≢ a) → ((b : Address) → In bs b → b ≢ a) → (b : Address) → In (xs ++ bs) b → b ≢ a
    across [] first second b found = second b found
    across (x ∷ xs) first second b (inl is) = first b (inl is)
    across (x ∷ xs) first second b (inr found) = across xs (λ y h. first y (inr h)) second b found

    both : (b : Address) → In (places ++ bs) b → b ≢ a
    both = across places left.0 (λ b found. cross a b (inl refl) found)

module _ {A M : Type 0} (f : A → List Address) (mark : Address → M) (key : A → M) (same : M → M → Bool) (reflexive : (m : M) → same m m ≡ true) where
  -- the marks tell those of one from those of another
  pub distinct_flat : (xs : List A) → ((x : A) → In xs x → AreDistinct (f x)) → ((x : A) (a : Address) → In (f x) a → mark a ≡ key x) → are_distinct same (map key xs) ≡ true → AreDistinct (flat_map f xs)
  distinct_flat [] each marked distinct = tt
  distinct_flat (x ∷ xs) each marked distinct =
      distinct_append (f x) (flat_map f xs) (each x (inl refl)) (distinct_flat xs (λ y found. each y (inr found)) marked (and_parts (not (list_any (same (key x)) (map key xs))) (are_distinct same (map key xs)) distinct).1) cross
    where
      cross : (a b : Address) → In (f x) a → In (flat_map f xs) b → b ≢ a
      cross a b found found_too is =
          let (y, among, here) = flat_in f xs b found_too in
          let keys : key y ≡ key x = sym (marked y b here) ∙ ap mark is ∙ marked x a found in
          let alike : same (key x) (key y) ≡ true = ap (same (key x)) keys ∙ reflexive (key x) in
          let any : list_any (same (key x)) (map key xs) ≡ true = in_any (same (key x)) (map key xs) (key y) (in_map key xs y among) alike in
          let none : not (list_any (same (key x)) (map key xs)) ≡ true = (and_parts (not (list_any (same (key x)) (map key xs))) (are_distinct same (map key xs)) distinct).0 in
          let other : not (list_any (same (key x)) (map key xs)) ≡ false = ap not any in
          absurd (cc (none, other))

-- ---- tablespaces by their OIDs

abbrev pub location_in : Option Tablespace → Path
location_in None = []
location_in (Some t) = t.location

-- the directory in which a tablespace has what it has: the cluster's own, or its location
abbrev pub region : Path → List Tablespace → ℕ → Path
region root ts k = if is_own k then root else location_in (find (tablespace_has k) ts)

pub find_own : (ts : List Tablespace) → are_distinct nat_eq (tablespace_oids ts) ≡ true → (t : Tablespace) → In ts t → find (tablespace_has t.oid) ts ≡ Some t
find_own [] distinct t found = absurd found
find_own (u ∷ us) distinct t (inl is) =
    let same : nat_eq u.oid t.oid ≡ true = eq-eqb u.oid t.oid (ap (λ (x : Tablespace). x.oid) (sym is)) in
    ap (λ b. cond b (Some u) (find (tablespace_has t.oid) us)) same ∙ ap Some (sym is)
find_own (u ∷ us) distinct t (inr found) =
    let parts = and_parts (not (list_any (nat_eq u.oid) (tablespace_oids us))) (are_distinct nat_eq (tablespace_oids us)) distinct in
    ap (λ b. cond b (Some u) (find (tablespace_has t.oid) us)) (other (nat_eq u.oid t.oid) refl parts.0) ∙ find_own us parts.1 t found
  where
    other : (b : Bool) → nat_eq u.oid t.oid ≡ b → not (list_any (nat_eq u.oid) (tablespace_oids us)) ≡ true → nat_eq u.oid t.oid ≡ false
    other true e none =
        let any : list_any (nat_eq u.oid) (tablespace_oids us) ≡ true = in_any (nat_eq u.oid) (tablespace_oids us) t.oid (in_map (λ (x : Tablespace). x.oid) us t found) e in
        let no_more : not (list_any (nat_eq u.oid) (tablespace_oids us)) ≡ false = ap not any in
        absurd (cc (none, no_more))
    other false e none = e

-- of two beginnings of a path one is the other's
pub beginnings : (p q x y : Path) → p ++ x ≡ q ++ y → IsUnder p q ⊎ IsUnder q p
beginnings [] q x y e = inl (q, refl)
beginnings (n ∷ p) [] x y e = inr (n ∷ p, refl)
beginnings (n ∷ p) (m ∷ q) x y e = by (beginnings p q x y (cc e))
  where
    first : m ≡ n
    first = cc e

    by : IsUnder p q ⊎ IsUnder q p → IsUnder (n ∷ p) (m ∷ q) ⊎ IsUnder (m ∷ q) (n ∷ p)
    by (inl (rest, is)) = inl (rest, (λ i. first i ∷ is i))
    by (inr (rest, is)) = inr (rest, (λ i. sym first i ∷ is i))
