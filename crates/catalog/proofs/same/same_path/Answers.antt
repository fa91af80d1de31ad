use Rattle.std.proofs.Common.{◌≡◌, true, subst, ◌∙◌, sym}
use Rattle.fs_model.specs.Names.{Path, same_path}
use Rattle.fs_model.specs.PathLaws.{same_path_true, same_path_refl}
use Rattle.catalog.proofs.same.same_path.Goals as goal

pub returns : goal.returns
returns c = (
  λ h. same_path_true c.args.a.now c.args.b.now (sym c.eq.ensures ∙ h),
  λ e. c.eq.ensures ∙ subst (λ (p : Path). same_path c.args.a.now p ≡ true) e (same_path_refl c.args.a.now),
)
