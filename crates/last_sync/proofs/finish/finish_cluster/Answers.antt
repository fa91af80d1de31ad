use Rattle.std.proofs.Common.{◌∙◌, inl, inr, refl, subst}
use Rattle.fs_model.specs.Trail.{stays}
use Rattle.crash_safety.specs.Synced.{IsSynced, AreQuiet}
use Rattle.fs_tools.proofs.TreeSyncing.{only_syncs}
use Rattle.last_sync.proofs.Marking.{create_still}
use Rattle.last_sync.proofs.Crashing.{synced_all}
use Rattle.last_sync.proofs.finish.finish_cluster.Goals as goal

pub returns-in_err-sync_all-clause-marked : goal.returns-in_err-sync_all-clause-marked
returns-in_err-sync_all-clause-marked g c told = record { middle = g.F.Fs.trail c.sync_all.new.fs; syncs = c.sync_all.ensures.calls told; marks = stays; synced = inr refl }

pub returns-clause-marked : goal.returns-clause-marked
returns-clause-marked g c told =
    let told_1 = c.sync_all.ensures.told ∙ told in
    let mid = (g.F.Fs.trail c.sync_all.new.fs).present in
    record {
      middle = g.F.Fs.trail c.sync_all.new.fs;
      syncs = c.sync_all.ensures.calls told;
      marks = c.put_mark.ensures.calls told_1;
      synced = inl (c.put_mark.ensures.well_formed told_1, subst (λ tops. IsSynced tops mid) c.deref.ensures.value (c.in_ok-sync_all.ensures.synced told), subst (λ holders. AreQuiet holders mid) c.deref-2.ensures.value (c.in_ok-sync_all.ensures.quiet told));
    }

pub returns-clause-settled : goal.returns-clause-settled
returns-clause-settled g c told rewritten inside tracked needs =
    let mid = g.F.Fs.trail c.sync_all.new.fs in
    c.put_mark.ensures.settled (c.sync_all.ensures.told ∙ told)
    (synced_all c.args.places.now.tops.items c.args.places.now.holders.items rewritten inside (g.F.Fs.trail c.args.fs.now) mid tracked needs (c.sync_all.ensures.calls told)
    (subst (λ tops. IsSynced tops mid.present) c.deref.ensures.value (c.in_ok-sync_all.ensures.synced told)) (subst (λ holders. AreQuiet holders mid.present) c.deref-2.ensures.value (c.in_ok-sync_all.ensures.quiet told)))

pub returns-clause-unrefused : goal.returns-clause-unrefused
returns-clause-unrefused g c told can =
    let start = g.F.Fs.trail c.args.fs.now in
    let mid = g.F.Fs.trail c.sync_all.new.fs in
    let syncs = (only_syncs start mid (c.sync_all.ensures.calls told)).present in
    c.put_mark.ensures.unrefused (c.sync_all.ensures.told ∙ told) (create_still start.present mid.present c.args.places.now.mark syncs.names can.mark)
