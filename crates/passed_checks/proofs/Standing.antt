-- Where the checks of directories find nothing, those that the steps of an upgrade need stand, and nothing is in their way.
use Rattle.std.proofs.Common.{◌≡◌, ◌≢◌, ◌⊎◌, inl, inr, ℕ, ◌<◌, ◌≤◌, ◌^◌, Bool, true, false, not, ◌&&◌, ◌||◌, if◌then◌else◌, List, [], ◌∷◌, ◌++◌, Option, Some, None, refl, sym, ◌∙◌, ap, arith, rules, subst, nat_eq, append_assoc}
use Rattle.std.specs.Prelude.{codes, is_some, nat_le, bytes_eq}
use Rattle.std.specs.FinMap.{get}
use Rattle.std.specs.List.{Contains, list_all, list_any}
use Rattle.std.specs.Fmt.{decimal}
use Rattle.std.proofs.lemmas.Bool.{le-leb, eqb-true, eq-eqb, false_from_ne_true}
use Rattle.std.proofs.lemmas.Slice.Eq.{bytes_eq-Decides}
use Rattle.std.proofs.lemmas.Fmt.{digits_decimal, digits_value-decimal, decimal_digit}
use Rattle.std.proofs.lemmas.Str.Parse.{IsNumeralModel, numerals_by_fold}
use Rattle.fs_model.specs.declared.node.Node.{Node}
use Rattle.fs_model.specs.declared.node.Node.TheVariants.{Dir, File, Sym}
use Rattle.fs_model.specs.Names.{Path}
use Rattle.fs_model.specs.State.{Names, FsState}
use Rattle.fs_tools.specs.Children.{child_of}
use Rattle.status_transfer.specs.Carried.{HoldsFiles, IsFileOrNone}
use Rattle.status_transfer.specs.Status.{HoldsStatus}
use Rattle.catalog.specs.Cluster.{DatabaseObjects, first_databases}
use Rattle.catalog.specs.Spaces.{database_has}
use Rattle.catalog_server.specs.Fresh.{IsUnused}
use Rattle.catalog_server.proofs.Members.{In, to_in}
use Rattle.tree_checks.specs.Findings.{IsLeast, found_if, IsFirstOf, IsFirstAmong}
use Rattle.tree_checks.specs.Looks.{kind_at, kind_of, is_dir, is_file}
use Rattle.tree_checks.specs.MissingDirs.{status_dirs, target_dirs, IsNoDir, is_no_file_in, IsBadStatus, IsMissingDir}
use Rattle.tree_checks.specs.NewDirs.{IsNameIn, IsUsed, new_dir, new_dirs, is_in_way, is_digit, is_first_database, is_other_database, number_after, leading_number, is_user_file}
use Rattle.tree_checks.specs.declared.new_dirs.NewDir.{NewDir}
use Rattle.tree_checks.specs.declared.new_dirs.NewDir.TheVariants.{Base, Template1, Template0, Postgres, Links, Profile}

-- ---- what stands

dir_node : (node : Option Node) (dir : Path) → None ≡ found_if (not (is_dir (kind_of node))) dir → node ≡ Some Dir
dir_node None dir e = absurd (cc e)
dir_node (Some Dir) dir e = refl
dir_node (Some (File inode)) dir e = absurd (cc e)
dir_node (Some (Sym target)) dir e = absurd (cc e)

pub dir_stands : (names : Names) (dir : Path) → IsNoDir names dir None → get names dir ≡ Some Dir
dir_stands names dir none = dir_node (get names dir) dir none

-- a name that fails no test of the directory doesn't stand there, or passes
nothing_at : (names : Names) (dir : Path) (test : List ℕ → Bool) (name : List ℕ) → IsLeast (IsNameIn names dir test) None → test name ≡ true → get names (child_of dir name) ≡ None
nothing_at names dir test name none fails = by (get names (child_of dir name)) refl
  where
    by : (node : Option Node) → get names (child_of dir name) ≡ node → get names (child_of dir name) ≡ None
    by None is = is
    by (Some node) is = absurd (none (child_of dir name) (name, refl, ap is_some is, fails))

file_or_none : (names : Names) (dir : Path) → IsLeast (IsNameIn names dir (is_no_file_in names dir)) None → (name : List ℕ) → IsFileOrNone (get names (child_of dir name))
file_or_none names dir none name = by (get names (child_of dir name)) refl
  where
    by : (node : Option Node) → get names (child_of dir name) ≡ node → IsFileOrNone node
    by None is = tt
    by (Some (File inode)) is = tt
    by (Some Dir) is = none (child_of dir name) (name, refl, ap is_some is, ap (λ n. not (is_file (kind_of n))) is)
    by (Some (Sym target)) is = none (child_of dir name) (name, refl, ap is_some is, ap (λ n. not (is_file (kind_of n))) is)

holds_files : (names : Names) (dir : Path) → IsBadStatus names dir None → HoldsFiles names dir
holds_files names dir bad = record { stands = dir_stands names dir bad.0; files = file_or_none names dir bad.1 }

pub old_status : (names : Names) (old new : Path) → IsMissingDir names old new None → HoldsStatus names old
old_status names old new none =
    let h = none.0 in
    record { commit_log = holds_files names _ h.0; multixacts = record { offsets = holds_files names _ h.1.0; members = holds_files names _ h.1.1.0 } }

pub new_status : (names : Names) (old new : Path) → IsMissingDir names old new None → HoldsStatus names new
new_status names old new none =
    let h = none.0.1.1.1 in
    record { commit_log = holds_files names _ h.0; multixacts = record { offsets = holds_files names _ h.1.0; members = holds_files names _ h.1.1.0 } }

-- ---- what isn't in the way

own : IsNumeralModel (λ ds. list_all is_digit ds ≡ true) (number_after 0)
own = numerals_by_fold _ (search rules) number_after (search rules)

pub decimal_is_digits : (n : ℕ) → n < 2 ^ 32 → list_all is_digit (decimal n) ≡ true
decimal_is_digits n small = digits_decimal own n (omega arith)

pub decimal_leads : (n : ℕ) → n < 2 ^ 32 → leading_number (decimal n) ≡ n
decimal_leads n small = digits_value-decimal own n (omega arith)

in_way : (names : Names) (root : Path) (dir : NewDir) (name : List ℕ) → IsLeast (IsUsed names root) None → is_in_way dir name ≡ true → get names (child_of (new_dir root dir) name) ≡ None
in_way names root dir name none way = by (get names (child_of (new_dir root dir) name)) refl
  where
    by : (node : Option Node) → get names (child_of (new_dir root dir) name) ≡ node → get names (child_of (new_dir root dir) name) ≡ None
    by None is = is
    by (Some node) is = absurd (none (child_of (new_dir root dir) name) (dir, (name, refl, ap is_some is, way)))

-- a number that the text doesn't write is written otherwise
not_text : (n k : ℕ) (text : List ℕ) → n < 2 ^ 32 → leading_number text ≡ k → nat_eq k n ≡ false → bytes_eq (decimal n) text ≡ false
not_text n k text small leads other = false_from_ne_true (bytes_eq (decimal n) text) same
  where
    same : bytes_eq (decimal n) text ≡ true → ⊥
    same is =
        let equal : k ≡ n = sym leads ∙ ap leading_number (sym ((bytes_eq-Decides (decimal n) text).0 is)) ∙ decimal_leads n small in
        let tested = eq-eqb k n equal in
        cc (tested, other)

or_false : (x y : Bool) → (x || y) ≡ false → (x ≡ false) × (y ≡ false)
or_false true y e = absurd (cc e)
or_false false y e = (refl, e)

is_other : (n : ℕ) → n < 2 ^ 32 → list_any (database_has n) first_databases ≡ false → is_other_database (decimal n) ≡ true
is_other n small none =
    let one = or_false (nat_eq 1 n) (nat_eq 4 n || (nat_eq 5 n || false)) none in
    let four = or_false (nat_eq 4 n) (nat_eq 5 n || false) one.1 in
    let five = or_false (nat_eq 5 n) false four.1 in
    rw (decimal_is_digits n small, not_text n 1 (codes "1") small refl one.0, not_text n 4 (codes "4") small refl four.0, not_text n 5 (codes "5") small refl five.0) refl

is_user : (n : ℕ) → 16384 ≤ n → n < 2 ^ 32 → is_user_file (decimal n) ≡ true
is_user n large small = le-leb 16384 (leading_number (decimal n)) (omega (arith, decimal_leads n small))

two : (p : Path) (x y : List ℕ) → (p ++ x ∷ []) ++ y ∷ [] ≡ p ++ x ∷ y ∷ []
two p x y = append_assoc p (x ∷ []) (y ∷ [])

three : (p : Path) (x y z : List ℕ) → (p ++ x ∷ y ∷ []) ++ z ∷ [] ≡ p ++ x ∷ y ∷ z ∷ []
three p x y z = append_assoc p (x ∷ y ∷ []) (z ∷ [])

-- the directory of each database of the start, and a file in it
first_dir : (names : Names) (new : Path) → (b1 : get names (new_dir new Template1) ≡ Some Dir) (b4 : get names (new_dir new Template0) ≡ Some Dir) (b5 : get names (new_dir new Postgres) ≡ Some Dir)
    → (d : DatabaseObjects) → In first_databases d → get names ((new ++ codes "base" ∷ []) ++ decimal d.oid ∷ []) ≡ Some Dir
first_dir names new b1 b4 b5 d (inl is) = ap (λ o. get names ((new ++ codes "base" ∷ []) ++ decimal o ∷ [])) (ap (λ e. e.oid) is) ∙ ap (λ t. get names ((new ++ codes "base" ∷ []) ++ t ∷ [])) (decimal_digit 1 (omega arith)) ∙ ap (λ p. get names p) (two new (codes "base") (codes "1")) ∙ b1
first_dir names new b1 b4 b5 d (inr (inl is)) = ap (λ o. get names ((new ++ codes "base" ∷ []) ++ decimal o ∷ [])) (ap (λ e. e.oid) is) ∙ ap (λ t. get names ((new ++ codes "base" ∷ []) ++ t ∷ [])) (decimal_digit 4 (omega arith)) ∙ ap (λ p. get names p) (two new (codes "base") (codes "4")) ∙ b4
first_dir names new b1 b4 b5 d (inr (inr (inl is))) = ap (λ o. get names ((new ++ codes "base" ∷ []) ++ decimal o ∷ [])) (ap (λ e. e.oid) is) ∙ ap (λ t. get names ((new ++ codes "base" ∷ []) ++ t ∷ [])) (decimal_digit 5 (omega arith)) ∙ ap (λ p. get names p) (two new (codes "base") (codes "5")) ∙ b5
first_dir names new b1 b4 b5 d (inr (inr (inr found))) = absurd found

-- a name of a user's file in the directory of a database of the start
pub user_name_free : (names : Names) (new : Path) → IsLeast (IsUsed names new) None → (oid : ℕ) → list_any (database_has oid) first_databases ≡ true → (name : List ℕ) → is_user_file name ≡ true
    → get names (((new ++ codes "base" ∷ []) ++ decimal oid ∷ []) ++ name ∷ []) ≡ None
user_name_free names new used oid is name user = by (nat_eq 1 oid) (nat_eq 4 oid) (nat_eq 5 oid) refl refl refl is
  where
    at : (k : ℕ) (text : List ℕ) → k ≡ oid → decimal k ≡ text → get names (child_of (new ++ codes "base" ∷ text ∷ []) name) ≡ None → get names (((new ++ codes "base" ∷ []) ++ decimal oid ∷ []) ++ name ∷ []) ≡ None
    at k text same written free =
        ap (λ t. get names (((new ++ codes "base" ∷ []) ++ t ∷ []) ++ name ∷ [])) (ap decimal (sym same) ∙ written)
        ∙ ap (λ p. get names (p ++ name ∷ [])) (two new (codes "base") text) ∙ free

    by : (a b c : Bool) → nat_eq 1 oid ≡ a → nat_eq 4 oid ≡ b → nat_eq 5 oid ≡ c → (a || (b || (c || false))) ≡ true → get names (((new ++ codes "base" ∷ []) ++ decimal oid ∷ []) ++ name ∷ []) ≡ None
    by true b c one four five e = at 1 (codes "1") (eqb-true 1 oid one) (decimal_digit 1 (omega arith)) (in_way names new Template1 name used user)
    by false true c one four five e = at 4 (codes "4") (eqb-true 4 oid four) (decimal_digit 4 (omega arith)) (in_way names new Template0 name used user)
    by false false true one four five e = at 5 (codes "5") (eqb-true 5 oid five) (decimal_digit 5 (omega arith)) (in_way names new Postgres name used user)
    by false false false one four five e = absurd (cc e)

user_free : (names : Names) (new : Path) → IsLeast (IsUsed names new) None → (d : DatabaseObjects) → In first_databases d → (file : ℕ) → is_user_file (decimal file) ≡ true
    → get names ((new ++ codes "base" ∷ []) ++ decimal d.oid ∷ decimal file ∷ []) ≡ None
user_free names new used d found file user = by d found
  where
    place : (name : List ℕ) → (new ++ codes "base" ∷ []) ++ name ∷ decimal file ∷ [] ≡ child_of (new ++ codes "base" ∷ name ∷ []) (decimal file)
    place name = append_assoc new (codes "base" ∷ []) (name ∷ decimal file ∷ []) ∙ sym (three new (codes "base") name (decimal file))

    by : (d : DatabaseObjects) → In first_databases d → get names ((new ++ codes "base" ∷ []) ++ decimal d.oid ∷ decimal file ∷ []) ≡ None
    by d (inl is) = ap (λ o. get names ((new ++ codes "base" ∷ []) ++ decimal o ∷ decimal file ∷ [])) (ap (λ e. e.oid) is) ∙ ap (λ t. get names ((new ++ codes "base" ∷ []) ++ t ∷ decimal file ∷ [])) (decimal_digit 1 (omega arith)) ∙ ap (λ p. get names p) (place (codes "1")) ∙ in_way names new Template1 (decimal file) used user
    by d (inr (inl is)) = ap (λ o. get names ((new ++ codes "base" ∷ []) ++ decimal o ∷ decimal file ∷ [])) (ap (λ e. e.oid) is) ∙ ap (λ t. get names ((new ++ codes "base" ∷ []) ++ t ∷ decimal file ∷ [])) (decimal_digit 4 (omega arith)) ∙ ap (λ p. get names p) (place (codes "4")) ∙ in_way names new Template0 (decimal file) used user
    by d (inr (inr (inl is))) = ap (λ o. get names ((new ++ codes "base" ∷ []) ++ decimal o ∷ decimal file ∷ [])) (ap (λ e. e.oid) is) ∙ ap (λ t. get names ((new ++ codes "base" ∷ []) ++ t ∷ decimal file ∷ [])) (decimal_digit 5 (omega arith)) ∙ ap (λ p. get names p) (place (codes "5")) ∙ in_way names new Postgres (decimal file) used user
    by d (inr (inr (inr none))) = absurd none

pub unused_cluster : (s : FsState) (old new : Path) → IsMissingDir s.names old new None → IsLeast (IsUsed s.names new) None → IsUnused new s
unused_cluster s old new missing used =
    let dirs = missing.1 in
    record {
      base = dir_stands s.names (new_dir new Base) dirs.0;
      links = dir_stands s.names (new_dir new Links) dirs.1.1.1.1.0;
      first = λ d found. first_dir s.names new (dir_stands s.names (new_dir new Template1) dirs.1.0) (dir_stands s.names (new_dir new Template0) dirs.1.1.0) (dir_stands s.names (new_dir new Postgres) dirs.1.1.1.0) d (to_in first_databases d found);
      no_links = λ oid small. in_way s.names new Links (decimal oid) used refl;
      no_databases = λ oid small other. in_way s.names new Base (decimal oid) used (is_other oid small other);
      no_files = λ d found file large small. user_free s.names new used d (to_in first_databases d found) file (is_user file large small);
    }

pub profile_alone : (names : Names) (new : Path) → IsLeast (IsUsed names new) None → (name : List ℕ) → name ≢ codes "catalog.sql" → get names (child_of (new_dir new Profile) name) ≡ None
profile_alone names new used name other = in_way names new Profile name used (ap not (false_from_ne_true (bytes_eq name (codes "catalog.sql")) (λ is. other ((bytes_eq-Decides name (codes "catalog.sql")).0 is))))
