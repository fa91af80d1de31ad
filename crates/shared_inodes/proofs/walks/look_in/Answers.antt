use Rattle.std.proofs.Common.{◌∙◌, ◌++◌, Some, None, refl, sym, subst, arith}
use Rattle.std.specs.Prelude.{[], ◌∷◌}
use Rattle.fs_model.specs.Trail.{unless_lack}
use Rattle.fs_model.specs.WellFormed.{WellFormed}
use Rattle.fs_model.proofs.Observing.{no_reads, reads_then}
use Rattle.fs_tools.proofs.Walking.{takes_then}
use Rattle.shared_inodes.specs.Regions.{IsWalkIn}
use Rattle.shared_inodes.proofs.Looked.{walked_no_tops, walked_next, walked_all}
use Rattle.shared_inodes.proofs.walks.look_in.Goals as goal

pub loop-top-init : goal.loop-top-init
loop-top-init g c = record { reads = no_reads _; walked = λ told formed turn. ([], refl, walked_no_tops (g.F.Fs.trail c.args.fs.now).present) }

pub returns-in-Err-clause-reads : goal.returns-in-Err-clause-reads
returns-in-Err-clause-reads g c = reads_then _ _ _ None (unless_lack (Some c.in-Err.error)) tt c.loop-top.invariant.reads c.in-Err.ensures.reads

pub returns-in-Err-clause-never_refused : goal.returns-in-Err-clause-never_refused
returns-in-Err-clause-never_refused g c told formed =
    let same = (c.loop-top.invariant.reads.unchanged told).present in
    c.in-Err.ensures.never_refused (c.loop-top.invariant.reads.told ∙ told) (subst WellFormed (sym same) formed)

pub loop-top-preserved : goal.loop-top-preserved
loop-top-preserved g c = record {
  reads = reads_then _ _ _ None None tt c.loop-top.invariant.reads c.in-Ok.ensures.reads;
  walked = λ told formed turn.
      let start = (g.F.Fs.trail c.args.fs.now).present in
      let same = (c.loop-top.invariant.reads.unchanged told).present in
      let (items, taken, so_far) = c.loop-top.invariant.walked told formed turn in
      let (more, took, walk) = c.in-Ok.ensures.walked (c.loop-top.invariant.reads.told ∙ told) (subst WellFormed (sym same) formed) in (
        items ++ more,
        takes_then g.L.Look.takes c.args.look.now c.loop-top.look c.look_under.new.look items more taken took,
        walked_next start c.args.tops.now c.loop-top.top-index c.top-item.result c.loop-top-test.true c.top-item.is turn items more so_far (subst (λ s. IsWalkIn s (c.top-item.result ∷ []) more) same walk),
      );
}

pub returns-clause-walked : goal.returns-clause-walked
returns-clause-walked g c told formed turn =
    let (items, taken, so_far) = c.loop-top.invariant.walked told formed turn in
    (items, taken, walked_all (g.F.Fs.trail c.args.fs.now).present c.args.tops.now c.loop-top.top-index items (omega arith) so_far)
