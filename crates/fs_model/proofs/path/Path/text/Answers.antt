use Rattle.std.proofs.Common.{string_bytes, ◌∙◌, ap, sym, get_or}
use Rattle.fs_model.proofs.Joins.{joined_next}
use Rattle.fs_model.proofs.path.Path.text.Goals as goal

pub loop-name-preserved : goal.loop-name-preserved
unfolding lib.Utf8.encode
loop-name-preserved c =
    joined_next c.deref-name-items.result.now c.loop-name.name-index c.text.result.now (string_bytes c.loop-name.text) (string_bytes c.push.new.self) (string_bytes c.push_str.new.self)
    c.loop-name-test.true (c.text.ensures.same ∙ c.name-item.is ∙ ap (get_or c.deref-name-items.result.now c.loop-name.name-index) (sym c.text.ensures.same)) c.loop-name.invariant c.in_ok-push.ensures.bytes c.in_ok-push_str.ensures.bytes
