-- A verdict by the number of shared files.
use Rattle.std.proofs.Common.{◌≡◌, ◌<◌, ◌==◌, ℕ, Bool, true, false, if◌then◌else◌, refl, subst, arith}
use Rattle.fs_model.specs.Names.{Path}
use Rattle.fs_model.specs.State.{FsState}
use Rattle.verdicts.specs.declared.verdict.Verdict.TheVariants.{Untouched, Disabled, Linked, Unsafe}
use Rattle.verdicts.specs.Verdicts.{IsWhole, IsDisabled, IsVerdict, whole_verdict, disabled_verdict}

zero_or : (n : ℕ) (P : Bool → Type 0) → (n ≡ 0 → P true) → (0 < n → P false) → P (n == 0)
zero_or n P zero more = elim (n == 0) as (λ b. (n == 0) ≡ b → P b) [ true ↦ λ e. zero (grind (arith, e)) | false ↦ λ e. more (grind (arith, e)) ] refl

pub whole_is : (s : FsState) (old new : Path) (n : ℕ) → IsWhole s old new n → IsVerdict s old new (whole_verdict n)
whole_is s old new n whole = zero_or n (λ b. IsVerdict s old new (if b then Untouched else Unsafe n)) (λ zero. subst (IsWhole s old new) zero whole) (λ more. (whole, more))

pub disabled_is : (s : FsState) (old new : Path) (n : ℕ) → IsDisabled s old new n → IsVerdict s old new (disabled_verdict n)
disabled_is s old new n disabled = zero_or n (λ b. IsVerdict s old new (if b then Disabled else Linked n)) (λ zero. subst (IsDisabled s old new) zero disabled) (λ more. (disabled, more))
