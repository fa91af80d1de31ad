use Rattle.std.proofs.Common.{subst}
use Rattle.fs_model.specs.Calls.{Creates}
use Rattle.fs_model.specs.Trail.{error_of}
use Rattle.fs_mem.specs.History.{Ends}
use Rattle.fs_mem.proofs.Replay.{steps}
use Rattle.fs_mem.proofs.Causes.{cause, others, firm_kept}
use Rattle.fs_mem.proofs.calls.MemFsFs.create.Goals as goal

ends : goal.returns-clause-ends
ends c =
    let call = Creates c.args.at.now in
    subst (λ h. Ends h call (error_of c.close.result) c.close.new.self) c.in_ok-state.ensures.same (c.close.ensures.ends call c.create-wanted.ensures)

pub returns-clause-firm : goal.returns-clause-firm
returns-clause-firm c = firm_kept c.args.self.now c.close.new.self (Creates c.args.at.now) (error_of c.close.result) (ends c)

pub returns-clause-ends : goal.returns-clause-ends
returns-clause-ends c = ends c

pub returns-clause-steps : goal.returns-clause-steps
returns-clause-steps c _ = steps c.args.self.now c.close.new.self (Creates c.args.at.now) (error_of c.close.result) (ends c)

pub returns-clause-cause : goal.returns-clause-cause
returns-clause-cause c = cause c.args.self.now c.close.new.self (Creates c.args.at.now) (error_of c.close.result) (ends c)

pub returns-clause-others : goal.returns-clause-others
returns-clause-others c = others c.args.self.now c.close.new.self (Creates c.args.at.now) (error_of c.close.result) (ends c)
