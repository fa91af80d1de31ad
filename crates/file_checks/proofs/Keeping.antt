-- What is kept by numbers, with one entry more.
use Rattle.std.proofs.Common.{◌≡◌, ◌∙◌, ℕ, Bool, true, false, cond, Option, Some, None, Result, Ok, Err, refl, sym, ap, subst}
use Rattle.std.specs.Prelude.{IfOk, is_some, if◌then◌else◌}
use Rattle.std.specs.Option.{unwrap_or}
use Rattle.std.specs.Ordering.{nat_cmp, eq_by_cmp}
use Rattle.std.specs.Cmp.{unsigned_tied, nat_cmp_total}
use Rattle.std.proofs.lemmas.Bool.{eqb-true, eq-eqb}
use Rattle.std.specs.FinMap.{FinMap, empty, get, insert, get-empty, get-insert}
use Rattle.fs_model.specs.declared.error.FsError.{FsError}
use Rattle.fs_model.specs.Names.{Path, path_cmp, same_path}
use Rattle.fs_model.specs.PathLaws.{path_total, same_path_true}
use Rattle.fs_model.specs.State.{FsState}
use Rattle.relation_files.specs.declared.relation.Relation.{Relation}
use Rattle.relation_files.specs.Places.{Site}
use Rattle.file_checks.specs.Kept.{kept_at}
use Rattle.file_checks.specs.Devices.{IsOtherDevice, ArePassed}

pub equal_numbers : (n k : ℕ) → eq_by_cmp nat_cmp n k ≡ true → n ≡ k
equal_numbers n k same = eqb-true n k (sym (unsigned_tied n k) ∙ same)

-- what holds of each entry of a map by numbers holds after one more
pub each_more : {X : Type 0} (P : ℕ → X → Type 0) (m next : FinMap nat_cmp X) (k : ℕ) (v : X) → next ≡ insert m k v → P k v → ((n : ℕ) (x : X) → get m n ≡ Some x → P n x) → (n : ℕ) (x : X) → get next n ≡ Some x → P n x
each_more {X} P m next k v is here all n x found =
    by (eq_by_cmp nat_cmp n k) refl (sym (get-insert nat_cmp_total m k v n) ∙ ap (λ (l : FinMap nat_cmp X). get l n) (sym is) ∙ found)
  where
    by : (b : Bool) → eq_by_cmp nat_cmp n k ≡ b → cond b (Some v) (get m n) ≡ Some x → P n x
    by true same found = let e : v ≡ x = cc found in subst (λ y. P n y) e (subst (λ i. P i v) (sym (equal_numbers n k same)) here)
    by false other found = all n x found

pub each_first : {X : Type 0} (P : ℕ → X → Type 0) (m : FinMap nat_cmp X) → m ≡ empty → (n : ℕ) (x : X) → get m n ≡ Some x → P n x
each_first P m is n x found = absurd (let none = ap (λ l. get l n) is ∙ get-empty nat_cmp n in cc (none, found))

pub passed_more : (s : FsState) (old new : Site) (m next : FinMap nat_cmp ℕ) (relation : Relation) (result : Result (Option Path) FsError) → next ≡ insert m relation.tablespace relation.database
    → IfOk result (IsOtherDevice s old new relation) → ArePassed s old new m → IfOk result (λ found. IsOtherDevice s old new relation found × (found ≡ None → ArePassed s old new next))
passed_more s old new m next relation (Err error) is finds passed = tt
passed_more s old new m next relation (Ok found) is finds passed =
    (finds, λ none. each_more (λ tablespace database. IsOtherDevice s old new (record { database = database; tablespace = tablespace; file = 0 }) None) m next relation.tablespace relation.database is (subst (IsOtherDevice s old new relation) none finds) passed)

pub number_there : (n : ℕ) → eq_by_cmp nat_cmp n n ≡ true
number_there n = unsigned_tied n n ∙ eq-eqb n n refl

-- a path that has a value keeps it, and another takes this one
pub kept_there : (m : FinMap path_cmp Path) (at path other : Path) → is_some (get m at) ≡ true → get m other ≡ kept_at at path m other
kept_there m at path other there = by (same_path other at) refl
  where
    had : (o : Option Path) → is_some o ≡ true → o ≡ Some (unwrap_or o path)
    had None e = absurd (cc e)
    had (Some p) e = refl

    by : (b : Bool) → same_path other at ≡ b → get m other ≡ (if b then Some (unwrap_or (get m at) path) else get m other)
    by true same = ap (get m) (same_path_true other at same) ∙ had (get m at) there
    by false differs = refl

pub kept_new : (m next : FinMap path_cmp Path) (at path other : Path) → next ≡ insert m at path → is_some (get m at) ≡ false → get next other ≡ kept_at at path m other
kept_new m next at path other grown free =
    ap (λ (l : FinMap path_cmp Path). get l other) grown ∙ get-insert path_total m at path other ∙ ap (λ p. if same_path other at then Some p else get m other) (had (get m at) free)
  where
    had : (o : Option Path) → is_some o ≡ false → path ≡ unwrap_or o path
    had None e = refl
    had (Some p) e = absurd (cc e)

-- what was put at a number is there
pub now_there : {X : Type 0} (m next : FinMap nat_cmp X) (k : ℕ) (v : X) → next ≡ insert m k v → get next k ≡ Some v
now_there {X} m next k v grown = ap (λ (l : FinMap nat_cmp X). get l k) grown ∙ get-insert nat_cmp_total m k v k ∙ ap (λ b. cond b (Some v) (get m k)) (number_there k)
