use Rattle.fs_state.proofs.Kept.{kept}
use Rattle.fs_state.specs.Actions.{effect_in}
use Rattle.fs_mem.proofs.Replay.{may_do}
use Rattle.fs_mem.proofs.mem_fs.MemFs.close_action.Goals as goal

pub keep-requires-clause-well_formed : goal.keep-requires-clause-well_formed
keep-requires-clause-well_formed c =
    let call = c.requires.wanted.0 in
    let r = c.in-Ok.r in
    let effect = effect_in c.args.state r.action in
    kept c.args.state c.requires.well_formed call r.answer effect (may_do c.args.state c.listed_now.result call r.answer effect (c.in-Ok.ensures.answers call c.requires.wanted.1))
