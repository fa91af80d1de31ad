-- Each condition stands once in the order.
use Rattle.std.proofs.Common.{◌≡◌, ◌+◌, ◌<◌, ◌∙◌, ℕ, zero, suc, Bool, true, false, List, [], ◌∷◌, Option, Some, None, refl, sym, ap, arith}
use Rattle.std.specs.Prelude.{slice_get, map, ◌==◌, ◌&&◌}
use Rattle.std.proofs.lemmas.Bool.{eqb-true}
use Rattle.control_file.specs.declared.modes.Side.TheVariants.{Old, New}
use Rattle.compat_checks.specs.Order.{Condition, OverlapIs, MissingDirIs, MissingVersionIs, WrongVersionIs, RunningIs, OldDisabledIs, NoControlIs, ControlShortIs, ControlCrcIs, ControlVersionIs, CatalogVersionIs, NotShutDownIs, BlockSizeIs, ControlDiffersIs, PreparedIs, CatalogTextIs, TooManyIs, InstallUserIs, NewRolesIs, ConnectFlagIs, RegColumnIs, AclColumnIs, NewNotEmptyIs, NewUsedIs, TablespaceDirIs, MissingFileIs, SharedInodeIs, DeviceDiffersIs, ControlOldExistsIs, order, place_of}

-- each condition is at its place
pub at_place : (condition : Condition) → slice_get order (place_of condition) ≡ Some condition
at_place OverlapIs = refl
at_place (MissingDirIs Old) = refl
at_place (MissingDirIs New) = refl
at_place (MissingVersionIs Old) = refl
at_place (MissingVersionIs New) = refl
at_place (WrongVersionIs Old) = refl
at_place (WrongVersionIs New) = refl
at_place (RunningIs Old) = refl
at_place (RunningIs New) = refl
at_place OldDisabledIs = refl
at_place (NoControlIs Old) = refl
at_place (NoControlIs New) = refl
at_place (ControlShortIs Old) = refl
at_place (ControlShortIs New) = refl
at_place (ControlCrcIs Old) = refl
at_place (ControlCrcIs New) = refl
at_place (ControlVersionIs Old) = refl
at_place (ControlVersionIs New) = refl
at_place (CatalogVersionIs Old) = refl
at_place (CatalogVersionIs New) = refl
at_place (NotShutDownIs Old) = refl
at_place (NotShutDownIs New) = refl
at_place (BlockSizeIs Old) = refl
at_place (BlockSizeIs New) = refl
at_place ControlDiffersIs = refl
at_place (PreparedIs Old) = refl
at_place (PreparedIs New) = refl
at_place (CatalogTextIs Old) = refl
at_place (CatalogTextIs New) = refl
at_place TooManyIs = refl
at_place InstallUserIs = refl
at_place NewRolesIs = refl
at_place ConnectFlagIs = refl
at_place RegColumnIs = refl
at_place AclColumnIs = refl
at_place NewNotEmptyIs = refl
at_place NewUsedIs = refl
at_place TablespaceDirIs = refl
at_place MissingFileIs = refl
at_place SharedInodeIs = refl
at_place DeviceDiffersIs = refl
at_place ControlOldExistsIs = refl

-- whether the numbers count up from k
counts_from : ℕ → List ℕ → Bool
counts_from k [] = true
counts_from k (n ∷ ns) = (n == k) && counts_from (k + 1) ns

both_first : (a b : Bool) → (a && b) ≡ true → a ≡ true
both_first true b e = refl
both_first false b e = e

both_second : (a b : Bool) → (a && b) ≡ true → b ≡ true
both_second true b e = e
both_second false b e = absurd (cc e)

counted : (k : ℕ) (ns : List ℕ) (n m : ℕ) → counts_from k ns ≡ true → slice_get ns n ≡ Some m → m ≡ k + n
unfolding counts_from
counted k [] n m counts at = absurd (cc at)
counted k (x ∷ ns) zero m counts at =
    let is : x ≡ k = eqb-true x k (both_first (x == k) (counts_from (k + 1) ns) counts) in
    let same : x ≡ m = cc at in
    omega arith
counted k (x ∷ ns) (suc n) m counts at =
    let rest : m ≡ (k + 1) + n = counted (k + 1) ns n m (both_second (x == k) (counts_from (k + 1) ns) counts) at in
    omega arith

-- what stands at a place of the order has that place
pub place_at : (n : ℕ) (condition : Condition) → slice_get order n ≡ Some condition → place_of condition ≡ n
unfolding counts_from
place_at n condition at =
    let there : slice_get (map place_of order) n ≡ Some (place_of condition) = mapped order n condition at in
    let is : place_of condition ≡ 0 + n = counted 0 (map place_of order) n (place_of condition) refl there in
    omega arith
  where
    mapped : (conditions : List Condition) (n : ℕ) (condition : Condition) → slice_get conditions n ≡ Some condition → slice_get (map place_of conditions) n ≡ Some (place_of condition)
    mapped [] n condition at = absurd (cc at)
    mapped (c ∷ conditions) zero condition at = (let same : c ≡ condition = cc at in ap (λ d. Some (place_of d)) same)
    mapped (c ∷ conditions) (suc n) condition at = mapped conditions n condition at

-- so two conditions at one place are one
pub one_at_place : (a b : Condition) → place_of a ≡ place_of b → a ≡ b
one_at_place a b same =
    let there : Some a ≡ Some b = sym (at_place a) ∙ ap (slice_get order) same ∙ at_place b in
    cc there
