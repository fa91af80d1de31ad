use Rattle.std.proofs.Common.{◌≡◌, take, ap, sym, ◌∙◌, subst, rules}
use Rattle.fs_model.specs.WellFormed.{WellFormed}
use Rattle.fs_mem.specs.History.{state_after, StaysWellFormed}
use Rattle.fs_mem.specs.Records.{told_from}
use Rattle.fs_mem.proofs.Replay.{stays_at}
use Rattle.fs_mem.proofs.mem_fs.MemFs.state_at.Goals as goal

is : goal.returns-clause-state
is c =
    let h = c.args.self.now in
    let replayed : c.in_ok-state.state ≡ state_after h.opening (told_from h.opening (take c.args.moment c.recorded-recorded.result.now)) = search rules in
    replayed ∙ ap (state_after h.opening) (c.recorded-recorded.ensures.told c.args.moment)

pub returns-clause-state : goal.returns-clause-state
returns-clause-state c = is c

pub returns-clause-well_formed : goal.returns-clause-well_formed
returns-clause-well_formed c =
    let h = c.args.self.now in
    subst WellFormed (sym (is c)) (stays_at h.opening h.done c.args.moment (subst (λ v. StaysWellFormed v.opening v.done) c.self.view_is c.self.invariant.stays))
