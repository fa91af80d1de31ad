use Rattle.std.proofs.Common.{ap, sym, ◌∙◌, subst}
use Rattle.fs_model.specs.Crash.{Settled}
use Rattle.fs_model.specs.WellFormed.{WellFormed}
use Rattle.fs_mem.specs.History.{state_after, StaysWellFormed}
use Rattle.fs_mem.specs.Records.{told_from}
use Rattle.fs_mem.proofs.Opens.{opening_settled, opening_well_formed}
use Rattle.fs_mem.proofs.mem_fs.MemFs.new.Goals as goal

pub invariant_of-result : goal.invariant_of-result
invariant_of-result c =
    let opening = c.in_ok-opening.opening in
    record {
      present_is = tt;
      well_formed = subst WellFormed (sym c.in_ok-opening.ensures.ok ∙ ap (λ recorded. state_after opening (told_from opening recorded)) (sym c.new.ensures.items)) (opening_well_formed c.args.tree c.in_ok-opening.ensures.sound);
      stays = subst (λ recorded. StaysWellFormed opening (told_from opening recorded)) (sym c.new.ensures.items) (subst WellFormed (sym c.in_ok-opening.ensures.ok) (opening_well_formed c.args.tree c.in_ok-opening.ensures.sound));
    }

pub returns-clause-settled : goal.returns-clause-settled
returns-clause-settled c = subst Settled (sym c.in_ok-opening.ensures.ok) (opening_settled c.args.tree)

pub returns-clause-well_formed : goal.returns-clause-well_formed
returns-clause-well_formed c = subst WellFormed (sym c.in_ok-opening.ensures.ok) (opening_well_formed c.args.tree c.in_ok-opening.ensures.sound)
