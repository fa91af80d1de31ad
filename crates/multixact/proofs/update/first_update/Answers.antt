use Rattle.std.proofs.Common.{sym, ◌∙◌}
use Rattle.std.specs.FinMap as map
use Rattle.multixact.proofs.Search.{first-update, first-other}
use Rattle.multixact.proofs.update.first_update.Goals as goal

pub returns-then-is_update : goal.returns-then-is_update
returns-then-is_update c =
    sym (first-update (map.get c.args.members.now) c.args.begin c.loop-index.index c.args.count c.in_ok-member.member c.loop-index-test.true c.in_ok-member.ensures (sym c.if-is_update.ensures.value))
    ∙ c.loop-index.invariant

pub loop-index-preserved : goal.loop-index-preserved
loop-index-preserved c =
    sym (first-other (map.get c.args.members.now) c.args.begin c.loop-index.index c.args.count c.in_ok-member.member c.loop-index-test.true c.in_ok-member.ensures (sym c.if-is_update.ensures.value))
    ∙ c.loop-index.invariant
