-- No file of a relation stands in the new cluster where the checks find nothing.
use Rattle.std.proofs.Common.{◌≡◌, ◌≢◌, ◌⊎◌, inl, inr, ℕ, suc, zero, ◌<◌, ◌≤◌, ◌^◌, ◌*◌, ◌+◌, ◌-◌, Bool, true, false, not, ◌&&◌, ◌||◌, if◌then◌else◌, List, [], ◌∷◌, ◌++◌, Option, Some, None, refl, sym, ◌∙◌, ap, arith, subst, append_assoc, nat_eq}
use Rattle.std.specs.Prelude.{codes, is_some, ◌==◌, nat_le}
use Rattle.std.specs.List.{Contains, list_all, list_any, find}
use Rattle.std.specs.FinMap.{get}
use Rattle.std.specs.Fmt.{decimal}
use Rattle.std.proofs.lemmas.Bool.{and_parts, eqb-true, eq-eqb, le-leb}
use Rattle.fs_model.specs.declared.node.Node.{Node}
use Rattle.fs_model.specs.declared.node.Node.TheVariants.{Dir}
use Rattle.fs_model.specs.Names.{Path}
use Rattle.fs_model.specs.State.{Names, FsState}
use Rattle.fs_model.specs.Calls.{blocked, no_dir}
use Rattle.fs_model.specs.WellFormed.{IsTree, WellFormed}
use Rattle.fs_model.proofs.Ways.{blocked_push, none_second, no_dir_none}
use Rattle.fs_tools.specs.Children.{child_of}
use Rattle.control_file.specs.Version.{dir_name_of}
use Rattle.control_file.specs.declared.releases.Release.TheVariants.{V16}
use Rattle.catalog.specs.declared.owners.Tablespace.{Tablespace}
use Rattle.catalog.specs.Cluster.{Cluster, DatabaseObjects, default_tablespace, first_databases}
use Rattle.catalog.specs.Spaces.{tablespace_has, database_has}
use Rattle.catalog_server.specs.Fresh.{IsUnused, AreLocationsReady}
use Rattle.catalog_server.proofs.Members.{In, from_in, in_find, find_has}
use Rattle.relation_files.specs.declared.relation.Relation.{Relation}
use Rattle.relation_files.specs.declared.relation.Fork.{Fork}
use Rattle.relation_files.specs.declared.relation.Fork.TheVariants.{Main, FreeSpace, Visibility}
use Rattle.relation_files.specs.Places.{Site, location_in, tablespace_dir, relation_dir, fork_suffix, segment_suffix, segment_path}
use Rattle.tree_checks.specs.Findings.{IsLeast}
use Rattle.tree_checks.specs.NewDirs.{is_digit, is_user_file, leading_number, number_after, is_in_way, new_dir, IsUsed}
use Rattle.tree_checks.specs.declared.new_dirs.NewDir.{NewDir}
use Rattle.tree_checks.specs.declared.new_dirs.NewDir.TheVariants.{Template1, Template0, Postgres}
use Rattle.passed_checks.proofs.Standing.{decimal_is_digits, decimal_leads, user_name_free}
use Rattle.passed_upgradable.proofs.Valid.{IsRelation, space_found}

-- ---- the number that a file's name begins with

-- a text that begins with no digit
abbrev begins_other : List ℕ → Bool
begins_other [] = true
begins_other (b ∷ bs) = not (is_digit b)

number_stops : (n : ℕ) (rest : List ℕ) → begins_other rest ≡ true → number_after n rest ≡ n
number_stops n [] other = refl
number_stops n (b ∷ bs) other = by (is_digit b) refl
  where
    by : (test : Bool) → is_digit b ≡ test → (if test then number_after (n * 10 + (b - 48)) bs else n) ≡ n
    by true is = absurd (let e = ap not (sym is) ∙ other in cc e)
    by false is = refl

number_over : (n : ℕ) (digits rest : List ℕ) → list_all is_digit digits ≡ true → begins_other rest ≡ true → number_after n (digits ++ rest) ≡ number_after n digits
number_over n [] rest all other = number_stops n rest other
number_over n (d ∷ ds) rest all other = by (is_digit d) (and_parts (is_digit d) (list_all is_digit ds) all).0 (number_over (n * 10 + (d - 48)) ds rest (and_parts (is_digit d) (list_all is_digit ds) all).1 other)
  where
    by : (test : Bool) → test ≡ true → number_after (n * 10 + (d - 48)) (ds ++ rest) ≡ number_after (n * 10 + (d - 48)) ds
        → (if test then number_after (n * 10 + (d - 48)) (ds ++ rest) else n) ≡ (if test then number_after (n * 10 + (d - 48)) ds else n)
    by true is later = later
    by false is later = absurd (cc is)

suffix_other : (fork : Fork) (segment : ℕ) → begins_other (fork_suffix fork ++ segment_suffix segment) ≡ true
suffix_other Main zero = refl
suffix_other Main (suc n) = refl
suffix_other FreeSpace segment = refl
suffix_other Visibility segment = refl

is_user : (file : ℕ) (fork : Fork) (segment : ℕ) → 16384 ≤ file → file < 2 ^ 32 → is_user_file (decimal file ++ (fork_suffix fork ++ segment_suffix segment)) ≡ true
is_user file fork segment large small =
    le-leb 16384 (leading_number (decimal file ++ (fork_suffix fork ++ segment_suffix segment)))
    (omega (arith, number_over 0 (decimal file) (fork_suffix fork ++ segment_suffix segment) (decimal_is_digits file small) (suffix_other fork segment), decimal_leads file small))

-- ---- what is below what isn't there

below_free : (names : Names) → IsTree names → (dir : Path) (name : List ℕ) → get names dir ≡ None → get names (dir ++ name ∷ []) ≡ None
below_free names tree dir name absent = by (get names (dir ++ name ∷ [])) refl
  where
    by : (found : Option Node) → get names (dir ++ name ∷ []) ≡ found → get names (dir ++ name ∷ []) ≡ None
    by None e = e
    by (Some n) e =
        let way : blocked names (dir ++ name ∷ []) ≡ None = tree (dir ++ name ∷ []) (ap is_some e) in
        let there : get names dir ≡ Some Dir = no_dir_none (get names dir) (none_second (blocked names dir) (no_dir (get names dir)) (sym (blocked_push names dir name) ∙ way)) in
        absurd (cc (there, absent))

pub all_below_free : (names : Names) → IsTree names → (dir rest : Path) → get names dir ≡ None → get names (dir ++ rest) ≡ None
all_below_free names tree dir [] absent = ap (get names) (append-nil dir) ∙ absent
  where
    append-nil : (p : Path) → p ++ [] ≡ p
    append-nil [] = refl
    append-nil (x ∷ p) = ap (λ q. x ∷ q) (append-nil p)
all_below_free names tree dir (name ∷ rest) absent =
    ap (get names) (sym (append_assoc dir (name ∷ []) rest)) ∙ all_below_free names tree (dir ++ name ∷ []) rest (below_free names tree dir name absent)

-- ---- the files of a relation

not_any : (b : Bool) → (b ≡ true → ⊥) → b ≡ false
not_any true no_way = absurd (no_way refl)
not_any false no_way = refl

module _ (s : FsState) (well : WellFormed s) (new : Path) (c : Cluster) (unused : IsUnused new s) (used : IsLeast (IsUsed s.names new) None) (ready : AreLocationsReady new V16 c s) (r : Relation) (known : IsRelation c r) where
  abbrev site : Site
  site = record { root = new; release = V16; tablespaces = c.tablespaces }

  abbrev name_of : Fork → ℕ → List ℕ
  name_of fork segment = decimal r.file ++ (fork_suffix fork ++ segment_suffix segment)

  in_base : (fork : Fork) (segment : ℕ) → get s.names (((new ++ codes "base" ∷ []) ++ decimal r.database ∷ []) ++ name_of fork segment ∷ []) ≡ None
  in_base fork segment = by (list_any (database_has r.database) first_databases) refl
    where
      by : (b : Bool) → list_any (database_has r.database) first_databases ≡ b → get s.names (((new ++ codes "base" ∷ []) ++ decimal r.database ∷ []) ++ name_of fork segment ∷ []) ≡ None
      by true is = user_name_free s.names new used r.database is (name_of fork segment) (is_user r.file fork segment known.file_large known.file_small)
      by false is = below_free s.names well.tree ((new ++ codes "base" ∷ []) ++ decimal r.database ∷ []) (name_of fork segment) (unused.no_databases r.database known.database_small is)

  at_location : (t : Tablespace) → In c.tablespaces t → t.oid ≢ default_tablespace → (fork : Fork) (segment : ℕ) → get s.names (((t.location ++ dir_name_of V16 ∷ []) ++ decimal r.database ∷ []) ++ name_of fork segment ∷ []) ≡ None
  at_location t found other fork segment =
      below_free s.names well.tree ((t.location ++ dir_name_of V16 ∷ []) ++ decimal r.database ∷ []) (name_of fork segment)
      (below_free s.names well.tree (t.location ++ dir_name_of V16 ∷ []) (decimal r.database) (ready.releases t (from_in c.tablespaces t found) other))

  pub file_free : (fork : Fork) (segment : ℕ) → get s.names (segment_path site r fork segment) ≡ None
  unfolding segment_path
  file_free fork segment = by (r.tablespace == default_tablespace) refl
    where
      by : (b : Bool) → (r.tablespace == default_tablespace) ≡ b
          → get s.names (((if b then new ++ codes "base" ∷ [] else location_in (find (tablespace_has r.tablespace) c.tablespaces) ++ dir_name_of V16 ∷ []) ++ decimal r.database ∷ []) ++ name_of fork segment ∷ []) ≡ None
      by true is = in_base fork segment
      by false is =
          let (t, e) = space_found c.tablespaces r.tablespace known.tablespace_stands in
          let same : t.oid ≡ r.tablespace = eqb-true t.oid r.tablespace (find_has (tablespace_has r.tablespace) c.tablespaces t e) in
          let other : t.oid ≢ default_tablespace = λ own. (let f = eq-eqb r.tablespace default_tablespace (sym same ∙ own) in cc (f, is)) in
          ap (λ found. get s.names (((location_in found ++ dir_name_of V16 ∷ []) ++ decimal r.database ∷ []) ++ name_of fork segment ∷ [])) e
          ∙ at_location t (in_find (tablespace_has r.tablespace) c.tablespaces t e) other fork segment
