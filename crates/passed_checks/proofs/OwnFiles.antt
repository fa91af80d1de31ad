-- What stands at a name of a relation's segment in the old cluster is a file, where the checks find nothing.
use Rattle.std.proofs.Common.{◌≡◌, ◌≢◌, ℕ, zero, suc, ◌<◌, ◌^◌, Bool, true, false, not, ◌&&◌, if◌then◌else◌, List, [], ◌∷◌, ◌++◌, length, take, drop, get_or, Option, Some, None, refl, sym, ◌∙◌, ap, arith, subst}
use Rattle.std.specs.Prelude.{codes, is_some, bytes_eq, ◌==◌}
use Rattle.std.specs.List.{Contains, list_all}
use Rattle.std.specs.FinMap.{get}
use Rattle.std.specs.Fmt.{decimal}
use Rattle.std.proofs.Math.Seq.{take-append_seam, drop-append_seam}
use Rattle.std.proofs.lemmas.Bool.{ne_eqb}
use Rattle.std.proofs.lemmas.Fmt.{first_decimal}
use Rattle.std.proofs.lemmas.Slice.Eq.{bytes_eq-Decides}
use Rattle.fs_model.specs.declared.node.Node.{Node}
use Rattle.fs_model.specs.declared.node.Node.TheVariants.{Dir, File, Sym}
use Rattle.fs_model.specs.Names.{Path}
use Rattle.fs_model.specs.State.{Names, FsState}
use Rattle.fs_model.specs.Effects.{bytes_of}
use Rattle.fs_model.specs.Reading.{file_bytes, inode_of_node}
use Rattle.std.specs.Option.{option_map}
use Rattle.fs_tools.specs.Children.{child_of}
use Rattle.control_file.specs.declared.job.Job.{Job}
use Rattle.catalog.specs.Cluster.{Cluster}
use Rattle.catalog_server.proofs.Members.{to_in}
use Rattle.relation_files.specs.declared.relation.Relation.{Relation}
use Rattle.relation_files.specs.declared.relation.Fork.{Fork}
use Rattle.relation_files.specs.declared.relation.Fork.TheVariants.{Main, FreeSpace, Visibility}
use Rattle.relation_files.specs.Places.{Site, segment_path, relation_dir, file_name, fork_suffix, segment_suffix}
use Rattle.relation_files.specs.Relations.{relations_of}
use Rattle.tree_checks.specs.Findings.{IsLeast}
use Rattle.tree_checks.specs.Looks.{kind_at, kind_of, is_file}
use Rattle.tree_checks.specs.NewDirs.{is_digit}
use Rattle.file_checks.specs.Clusters.{old_site}
use Rattle.file_checks.specs.RelationFiles.{is_segment_number, is_segment_suffix, is_other_suffix, is_other_file, IsBadFile, IsBadRelation, IsMissingFile}
use Rattle.passed_checks.proofs.Standing.{decimal_is_digits}
use Rattle.passed_checks.proofs.Located.{no_first, not_found}

number_is : (digits : List ℕ) → 48 < get_or digits 0 0 → list_all is_digit digits ≡ true → is_segment_number digits ≡ true
number_is [] first all = absurd (omega arith)
number_is (digit ∷ digits) first all = ap (λ b. not b && (is_digit digit && list_all is_digit digits)) (ne_eqb digit 48 (λ same. omega arith)) ∙ all

segment_is : (n : ℕ) → n < 2 ^ 32 → is_segment_suffix (segment_suffix n) ≡ true
segment_is zero small = refl
segment_is (suc n) small = number_is (decimal (suc n)) (first_decimal (suc n) (omega arith) (omega arith)) (decimal_is_digits (suc n) small)

-- a file's inode
abbrev pub IsInode : Node → Type 0
IsInode there = (inode : ℕ) × (there ≡ File inode)

-- the segment isn't the first one of the main fork
abbrev IsOther : Fork → ℕ → Type 0
IsOther Main zero = ⊥
IsOther Main (suc n) = Unit {0}
IsOther FreeSpace n = Unit {0}
IsOther Visibility n = Unit {0}

suffix_is : (fork : Fork) (n : ℕ) → n < 2 ^ 32 → IsOther fork n → is_other_suffix (fork_suffix fork ++ segment_suffix n) ≡ true
suffix_is Main zero small other = absurd other
suffix_is Main (suc n) small other = segment_is (suc n) small
suffix_is FreeSpace n small other = segment_is n small
suffix_is Visibility n small other = segment_is n small

name_is : (file : ℕ) (suffix : List ℕ) → is_other_suffix suffix ≡ true → is_other_file file (decimal file ++ suffix) ≡ true
name_is file suffix is =
    (λ i. bytes_eq (take-append_seam (decimal file) suffix i) (decimal file) && is_other_suffix (drop-append_seam (decimal file) suffix i))
    ∙ (λ i. (bytes_eq-Decides (decimal file) (decimal file)).1 refl i && is i)

module _ (names : Names) (site : Site) (r : Relation) (none : IsBadRelation names site r None) where
  -- what stands at a name of any other segment is a file
  other_file : (fork : Fork) (n : ℕ) → n < 2 ^ 32 → IsOther fork n → (there : Node) → get names (segment_path site r fork n) ≡ Some there → IsInode there
  unfolding segment_path
  other_file fork n small other (File inode) is = (inode, refl)
  other_file fork n small other Dir is = absurd (none.1 (child_of (relation_dir site r) (file_name r fork n)) (file_name r fork n, refl, ap is_some is, (λ i. name_is r.file (fork_suffix fork ++ segment_suffix n) (suffix_is fork n small other) i && not (is_file (kind_of (is i))))))
  other_file fork n small other (Sym target) is = absurd (none.1 (child_of (relation_dir site r) (file_name r fork n)) (file_name r fork n, refl, ap is_some is, (λ i. name_is r.file (fork_suffix fork ++ segment_suffix n) (suffix_is fork n small other) i && not (is_file (kind_of (is i))))))

  first_file : (there : Node) → get names (segment_path site r Main 0) ≡ Some there → IsInode there
  first_file (File inode) is = (inode, refl)
  first_file Dir is = let e = not_found (not (is_file (kind_at names (segment_path site r Main 0)))) (segment_path site r Main 0) none.0 in let f = ap (λ n. not (is_file (kind_of n))) (sym is) ∙ e in absurd (cc f)
  first_file (Sym target) is = let e = not_found (not (is_file (kind_at names (segment_path site r Main 0)))) (segment_path site r Main 0) none.0 in let f = ap (λ n. not (is_file (kind_of n))) (sym is) ∙ e in absurd (cc f)

  any_file : (fork : Fork) (n : ℕ) (there : Node) → n < 2 ^ 32 → get names (segment_path site r fork n) ≡ Some there → IsInode there
  any_file Main zero there small is = first_file there is
  any_file Main (suc n) there small is = other_file Main (suc n) small tt there is
  any_file FreeSpace n there small is = other_file FreeSpace n small tt there is
  any_file Visibility n there small is = other_file Visibility n small tt there is

pub own_files : (s : FsState) (old : Path) (catalog : Cluster) → IsMissingFile s old catalog None → (relation : Relation) → Contains (relations_of catalog) relation → (fork : Fork) (segment : ℕ) (there : Node) → segment < 2 ^ 32
    → get s.names (segment_path (old_site old catalog) relation fork segment) ≡ Some there → IsInode there
own_files s old catalog none relation found fork segment there small is =
    any_file s.names (old_site old catalog) relation (no_first (IsBadRelation s.names (old_site old catalog)) (relations_of catalog) none relation (to_in (relations_of catalog) relation found)) fork segment there small is

-- and the first segment of its main fork stands
file_there : (s : FsState) (path : Path) → not (is_file (kind_at s.names path)) ≡ false → is_some (file_bytes s path) ≡ true
file_there s path e = by (get s.names path) refl
  where
    by : (there : Option Node) → get s.names path ≡ there → is_some (file_bytes s path) ≡ true
    by None is = absurd (let f = ap (λ n. not (is_file (kind_of n))) (sym is) ∙ e in cc f)
    by (Some Dir) is = absurd (let f = ap (λ n. not (is_file (kind_of n))) (sym is) ∙ e in cc f)
    by (Some (Sym target)) is = absurd (let f = ap (λ n. not (is_file (kind_of n))) (sym is) ∙ e in cc f)
    by (Some (File inode)) is = ap (λ n. is_some (option_map (bytes_of s.bytes) (inode_of_node n))) is

pub first_there : (s : FsState) (old : Path) (catalog : Cluster) → IsMissingFile s old catalog None → (relation : Relation) → Contains (relations_of catalog) relation → is_some (file_bytes s (segment_path (old_site old catalog) relation Main 0)) ≡ true
first_there s old catalog none relation found =
    let bad = no_first (IsBadRelation s.names (old_site old catalog)) (relations_of catalog) none relation (to_in (relations_of catalog) relation found) in
    let path = segment_path (old_site old catalog) relation Main 0 in
    file_there s path (not_found (not (is_file (kind_at s.names path))) path bad.0)
