use Rattle.std.proofs.Common.{subst}
use Rattle.fs_model.specs.Calls.{WritesAt}
use Rattle.fs_model.specs.Trail.{error_of}
use Rattle.fs_mem.specs.History.{Ends}
use Rattle.fs_mem.proofs.Replay.{steps}
use Rattle.fs_mem.proofs.Causes.{cause, others, firm_kept}
use Rattle.fs_mem.proofs.calls.MemFsFs.write_at.Goals as goal

ends : goal.returns-clause-ends
ends c =
    let call = WritesAt c.args.at.now c.args.from c.args.bytes.now in
    subst (λ h. Ends h call (error_of c.close_action.result) c.close_action.new.self) c.in_ok-state.ensures.same (c.close_action.ensures.ends call c.write_at-wanted.ensures)

pub returns-clause-firm : goal.returns-clause-firm
returns-clause-firm c = firm_kept c.args.self.now c.close_action.new.self (WritesAt c.args.at.now c.args.from c.args.bytes.now) (error_of c.close_action.result) (ends c)

pub returns-clause-ends : goal.returns-clause-ends
returns-clause-ends c = ends c

pub returns-clause-steps : goal.returns-clause-steps
returns-clause-steps c _ = steps c.args.self.now c.close_action.new.self (WritesAt c.args.at.now c.args.from c.args.bytes.now) (error_of c.close_action.result) (ends c)

pub returns-clause-cause : goal.returns-clause-cause
returns-clause-cause c = cause c.args.self.now c.close_action.new.self (WritesAt c.args.at.now c.args.from c.args.bytes.now) (error_of c.close_action.result) (ends c)

pub returns-clause-others : goal.returns-clause-others
returns-clause-others c = others c.args.self.now c.close_action.new.self (WritesAt c.args.at.now c.args.from c.args.bytes.now) (error_of c.close_action.result) (ends c)
