use Rattle.std.proofs.Common.{refl, subst}
use Rattle.fs_model.specs.Calls.{Stats}
use Rattle.fs_model.specs.Trail.{error_of}
use Rattle.fs_mem.specs.History.{Ends}
use Rattle.fs_mem.proofs.Replay.{reads, steps}
use Rattle.fs_mem.proofs.Causes.{cause, others, firm_kept, depth_kept}
use Rattle.fs_mem.proofs.calls.MemFsFs.stat.Goals as goal

pub close_reading-requires-clause-wanted : goal.close_reading-requires-clause-wanted
close_reading-requires-clause-wanted c =
    (Stats c.args.at.now, reads c.in_ok-state.state (Stats c.args.at.now) refl c.stat-stat.result c.stat-stat.ensures.refuses)

ends : goal.returns-clause-ends
ends c =
    let call = Stats c.args.at.now in
    subst (λ h. Ends h call (error_of c.close_reading.result) c.close_reading.new.self) c.in_ok-state.ensures.same
    (c.close_reading.ensures.ends call (reads c.in_ok-state.state call refl c.stat-stat.result c.stat-stat.ensures.refuses))

pub returns-clause-firm : goal.returns-clause-firm
returns-clause-firm c = firm_kept c.args.self.now c.close_reading.new.self (Stats c.args.at.now) (error_of c.close_reading.result) (ends c)

pub returns-clause-depth : goal.returns-clause-depth
returns-clause-depth c = depth_kept c.args.self.now c.close_reading.new.self (Stats c.args.at.now) (error_of c.close_reading.result) (λ e does. does) (ends c)

pub returns-clause-ends : goal.returns-clause-ends
returns-clause-ends c = ends c

pub returns-clause-steps : goal.returns-clause-steps
returns-clause-steps c _ = steps c.args.self.now c.close_reading.new.self (Stats c.args.at.now) (error_of c.close_reading.result) (ends c)

pub returns-clause-cause : goal.returns-clause-cause
returns-clause-cause c = cause c.args.self.now c.close_reading.new.self (Stats c.args.at.now) (error_of c.close_reading.result) (ends c)

pub returns-clause-others : goal.returns-clause-others
returns-clause-others c = others c.args.self.now c.close_reading.new.self (Stats c.args.at.now) (error_of c.close_reading.result) (ends c)
