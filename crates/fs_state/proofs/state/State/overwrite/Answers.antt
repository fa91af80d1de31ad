use Rattle.std.proofs.Common.{◌∙◌, ap}
use Rattle.fs_model.specs.Calls.{overwritten}
use Rattle.fs_model.specs.Effects.{with_bytes}
use Rattle.fs_state.proofs.Writing.{written_back}
use Rattle.fs_state.proofs.state.State.overwrite.Goals as goal

pub returns : goal.returns
returns c =
    let s = c.args.self.now in
    let inode = c.args.inode in
    c.in_ok-write.ensures ∙ ap (λ t. with_bytes t inode c.new.result) c.taken-items.ensures.rest ∙ written_back s inode c.new.result
    ∙ ap (with_bytes s inode) (c.new.ensures ∙ c.in_ok-write_over.ensures ∙ ap (λ old. overwritten old c.args.from c.args.bytes.now) c.taken-items.ensures.value)
