-- Directories that are kept by their tablespaces.
use Rattle.std.proofs.Common.{◌≡◌, ◌∙◌, ℕ, Bool, true, false, if◌then◌else◌, Option, Some, None, Result, Ok, Err, OnOk, refl, sym, ap, subst, nat_eq}
use Rattle.std.specs.Ordering.{nat_cmp}
use Rattle.std.specs.FinMap.{FinMap, empty, get, get-empty, insert}
use Rattle.std.proofs.lemmas.Bool.{eqb-true}
use Rattle.fs_model.specs.Names.{Path}
use Rattle.relation_files.specs.Places.{Site}
use Rattle.relation_map.specs.Directories.{database_dir, AreDirectories}
use Rattle.relation_map.proofs.Looking.{get_inserted}

pub none_known : (site : Site) (database : ℕ) (m : FinMap nat_cmp Path) → m ≡ empty → AreDirectories site database m
none_known site database m is tablespace path known =
    let none : get m tablespace ≡ None = ap (λ l. get l tablespace) is ∙ get-empty nat_cmp tablespace in
    absurd (cc (none, known))

pub one_known : (site : Site) (database : ℕ) (m next : FinMap nat_cmp Path) (k : ℕ) (p : Path) → next ≡ insert m k p → p ≡ database_dir site database k → AreDirectories site database m → AreDirectories site database next
one_known site database m next k p grown is all tablespace path known =
    by (nat_eq k tablespace) refl (sym (get_inserted m k tablespace p) ∙ ap (λ l. get l tablespace) (sym grown) ∙ known)
  where
    by : (b : Bool) → nat_eq k tablespace ≡ b → (if b then Some p else get m tablespace) ≡ Some path → path ≡ database_dir site database tablespace
    by true e found = let same : p ≡ path = cc found in sym same ∙ is ∙ ap (database_dir site database) (eqb-true k tablespace e)
    by false e found = all tablespace path found
