use Rattle.std.proofs.Common.{◌≡◌, ◌∙◌, None}
use Rattle.std.proofs.lemmas.Result.{on_ok_weaker}
use Rattle.fs_model.specs.Calls.{SyncsDir, refusal}
use Rattle.fs_model.proofs.Going.{goes_then}
use Rattle.fs_model.proofs.Runs.{all_weaker}
use Rattle.crash_safety.specs.Calling.{Syncs}
use Rattle.fs_tools.proofs.TreeSyncing.{only_syncs, dir_still}
use Rattle.last_sync.proofs.Syncing.{still_synced}
use Rattle.last_sync.proofs.finish.sync_all.Goals as goal

pub returns-clause-calls : goal.returns-clause-calls
returns-clause-calls g c told = goes_then Syncs (c.in_ok-sync_trees.ensures.calls told) (c.sync_holders.ensures.calls (c.sync_trees.ensures.told ∙ told))

pub returns-clause-synced : goal.returns-clause-synced
returns-clause-synced g c told =
    let told_1 = c.sync_trees.ensures.told ∙ told in
    let mid = g.F.Fs.trail c.sync_trees.new.fs in
    let new = g.F.Fs.trail c.sync_holders.new.fs in
    let syncs = (only_syncs mid new (c.sync_holders.ensures.calls told_1)).present in
    on_ok_weaker c.sync_holders.result (λ quiet. still_synced c.args.tops.now mid.present new.present syncs (c.in_ok-sync_trees.ensures.synced told)) (c.sync_holders.ensures.quiet told_1)

pub returns-clause-unrefused : goal.returns-clause-unrefused
returns-clause-unrefused g c told trees holders =
    let start = g.F.Fs.trail c.args.fs.now in
    let mid = g.F.Fs.trail c.sync_trees.new.fs in
    let syncs = (only_syncs start mid (c.in_ok-sync_trees.ensures.calls told)).present in
    c.sync_holders.ensures.unrefused (c.sync_trees.ensures.told ∙ told)
    (all_weaker (λ holder. refusal start.present (SyncsDir holder) ≡ None) (λ holder. refusal mid.present (SyncsDir holder) ≡ None) (λ holder free. dir_still start.present mid.present holder syncs.names free) c.args.holders.now holders)
