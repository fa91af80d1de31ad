-- The directories of tablespaces, kept by their OIDs.
use Rattle.std.proofs.Common.{◌≡◌, ◌≢◌, ◌∙◌, ℕ, ◌+◌, Bool, true, false, cond, if◌then◌else◌, List, [], ◌∷◌, ◌++◌, drop, Option, Some, None, Result, Ok, Err, OnOk, refl, sym, ap, append_assoc, nat_eq}
use Rattle.std.specs.Prelude.{slice_get}
use Rattle.std.specs.Option.{option_map}
use Rattle.std.specs.List.{find, flat_map}
use Rattle.std.specs.Ordering.{nat_cmp}
use Rattle.std.specs.FinMap.{FinMap, empty, get, get-empty, insert}
use Rattle.std.specs.Fmt.{decimal}
use Rattle.std.proofs.lemmas.Bool.{eqb-true, eq-eqb}
use Rattle.std.proofs.lemmas.List.{drop_more}
use Rattle.std.proofs.lemmas.Option.{slice_get_within, get_or_from_slice_get}
use Rattle.fs_model.specs.Names.{Path}
use Rattle.fs_model.proofs.Lookups.{insert_here, insert_other}
use Rattle.control_file.specs.declared.releases.Release.{Release}
use Rattle.catalog.specs.declared.owners.Tablespace.{Tablespace}
use Rattle.catalog.specs.Spaces.{tablespace_has}
use Rattle.new_names.specs.declared.names.NewName.{NewName}
use Rattle.catalog_server.specs.declared.relation.Relation.{Relation}
use Rattle.catalog_server.specs.ReplayNames.{databases_path, file_names, relation_names, is_new_relation}
use Rattle.server_profile.specs.Directories.{first_of, file_at, relation_in}

first_none : {X : Type 0} (found : Option X) → found ≡ first_of found None
first_none None = refl
first_none (Some x) = refl

module _ (path : Path) (k oid : ℕ) (m : FinMap nat_cmp Path) where
  -- where there is one already, nothing is added
  pub kept : (held : Path) → get m k ≡ Some held → get m oid ≡ first_of (get m oid) (if nat_eq k oid then Some path else None)
  kept held is = by (nat_eq k oid) refl
    where
      by : (b : Bool) → nat_eq k oid ≡ b → get m oid ≡ first_of (get m oid) (if b then Some path else None)
      by true e =
          let there : get m oid ≡ Some held = ap (get m) (sym (eqb-true k oid e)) ∙ is in
          there ∙ ap (λ found. first_of found (Some path)) (sym there)
      by false e = first_none (get m oid)

  pub added : (next : FinMap nat_cmp Path) → get m k ≡ None → next ≡ insert m k path → get next oid ≡ first_of (get m oid) (if nat_eq k oid then Some path else None)
  added next none is = by (nat_eq k oid) refl
    where
      by : (b : Bool) → nat_eq k oid ≡ b → get next oid ≡ first_of (get m oid) (if b then Some path else None)
      by true e =
          let same = eqb-true k oid e in
          ap (λ n. get n oid) is ∙ ap (get (insert m k path)) (sym same) ∙ insert_here m k path ∙ ap (λ found. first_of found (Some path)) (sym none) ∙ ap (λ j. first_of (get m j) (Some path)) same
      by false e = ap (λ n. get n oid) is ∙ insert_other m k path oid (λ same. absurd (let yes_same = eq-eqb k oid (sym same) in cc (yes_same, e))) ∙ first_none (get m oid)

pub ok_added : {T E : Type 0} (result : Result T E) (path : Path) (k : ℕ) (m next : FinMap nat_cmp Path) {put : Path} → get m k ≡ None → put ≡ path → OnOk result (next ≡ insert m k put) → OnOk result ((oid : ℕ) → get next oid ≡ first_of (get m oid) (if nat_eq k oid then Some path else None))
ok_added (Ok value) path k m next none same is = λ oid. added path k oid m next none (is ∙ ap (insert m k) same)
ok_added (Err e) path k m next none same is = tt

joined : {X : Type 0} (f : X → Path) (found : Option Path) (b : Bool) (x : X) (rest : Option X) → first_of (first_of found (if b then Some (f x) else None)) (option_map f rest) ≡ first_of found (option_map f (cond b (Some x) rest))
joined f (Some path) b x rest = refl
joined f None true x rest = refl
joined f None false x rest = refl

pub directory_first : (m : FinMap nat_cmp Path) (oid : ℕ) (rest : Option Path) → m ≡ empty → first_of (get m oid) rest ≡ rest
directory_first m oid rest is = ap (λ n. first_of (get n oid) rest) is ∙ ap (λ found. first_of found rest) (get-empty nat_cmp oid)

module _ (root : Path) (release : Release) (ts : List Tablespace) (oid : ℕ) where
  -- one tablespace more
  pub directory_next : (m next : FinMap nat_cmp Path) (i : ℕ) (t : Tablespace) → slice_get ts i ≡ Some t
      → get next oid ≡ first_of (get m oid) (if tablespace_has oid t then Some (databases_path root release t) else None)
      → first_of (get m oid) (option_map (databases_path root release) (find (tablespace_has oid) (drop i ts))) ≡ option_map (databases_path root release) (find (tablespace_has oid) ts)
      → first_of (get next oid) (option_map (databases_path root release) (find (tablespace_has oid) (drop (i + 1) ts))) ≡ option_map (databases_path root release) (find (tablespace_has oid) ts)
  directory_next m next i t h grown so_far =
      let P : Tablespace → Path = databases_path root release in
      let rest = find (tablespace_has oid) (drop (i + 1) ts) in
      let place : drop i ts ≡ t ∷ drop (i + 1) ts = drop_more ts i t (slice_get_within ts i t h) ∙ ap (λ y. y ∷ drop (i + 1) ts) (get_or_from_slice_get ts i t t h) in
      ap (λ found. first_of found (option_map P rest)) grown
      ∙ joined P (get m oid) (tablespace_has oid t) t rest
      ∙ ap (λ l. first_of (get m oid) (option_map P (find (tablespace_has oid) l))) (sym place) ∙ so_far

-- the files of relations by the directories that are kept
module _ (root : Path) (release : Release) (ts : List Tablespace) (m : FinMap nat_cmp Path) (kept_all : (oid : ℕ) → get m oid ≡ option_map (databases_path root release) (find (tablespace_has oid) ts)) (database : ℕ) (earlier : List Relation) where
  file_same : (file : ℕ) (found : Option Tablespace) → file_at database file (option_map (databases_path root release) found) ≡ file_names root release database file found
  file_same file None = refl
  file_same file (Some t) = refl

  relation_same : (r : Relation) → relation_in m database earlier r ≡ relation_names root release ts database earlier r
  relation_same r =
      ap (λ names. if is_new_relation earlier r then names else []) (ap (file_at database r.file) (kept_all r.tablespace) ∙ file_same r.file (find (tablespace_has r.tablespace) ts))

  pub relations_same : (rs : List Relation) → flat_map (relation_in m database earlier) rs ≡ flat_map (relation_names root release ts database earlier) rs
  relations_same [] = refl
  relations_same (r ∷ rs) = (λ i. relation_same r i ++ relations_same rs i)

pub both_added : {X : Type 0} (old mid new front back other : List X) → mid ≡ old ++ front → new ≡ mid ++ back → back ≡ other → new ≡ old ++ (front ++ other)
both_added old mid new front back other first second same = second ∙ (λ i. first i ++ same i) ∙ append_assoc old front other

pub ok_both_added : {T E X : Type 0} (result : Result T E) (old mid new front back other : List X) → mid ≡ old ++ front → OnOk result (new ≡ mid ++ back) → back ≡ other → OnOk result (new ≡ old ++ (front ++ other))
ok_both_added (Ok value) old mid new front back other first second same = both_added old mid new front back other first second same
ok_both_added (Err e) old mid new front back other first second same = tt
