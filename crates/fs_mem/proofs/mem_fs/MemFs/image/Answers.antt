use Rattle.std.proofs.Common.{sym, subst}
use Rattle.fs_model.specs.WellFormed.{WellFormed}
use Rattle.fs_state.proofs.Imaged.{image_settled, image_well_formed}
use Rattle.fs_mem.specs.History.{state_after, StaysWellFormed}
use Rattle.fs_mem.specs.Records.{told_from}
use Rattle.fs_mem.proofs.mem_fs.MemFs.image.Goals as goal

pub invariant_of-result : goal.invariant_of-result
invariant_of-result c =
    let opening = c.in_ok-opening.opening in
    let image : WellFormed opening = image_well_formed c.in_ok-state.state opening c.in_ok-opening.ensures.image c.in_ok-state.ensures.well_formed in
    record {
      present_is = tt;
      well_formed = subst (λ recorded. WellFormed (state_after opening (told_from opening recorded))) (sym c.new.ensures.items) image;
      stays = subst (λ recorded. StaysWellFormed opening (told_from opening recorded)) (sym c.new.ensures.items) image;
    }

pub returns-clause-settled : goal.returns-clause-settled
returns-clause-settled c = image_settled c.in_ok-state.state c.in_ok-opening.opening c.in_ok-opening.ensures.image
