use Rattle.std.proofs.Common.{◌∙◌, arith}
use Rattle.dump_rules.proofs.KeptColumns.{kept_more, kept_full}
use Rattle.dump_rules.proofs.columns.keep.Goals as goal

pub returns-in_ok-push : goal.returns-in_ok-push
returns-in_ok-push c = λ all same. c.in_ok-push.ensures.items ∙ kept_more c.args.columns.now.items all c.args.column (omega (arith, c.len.ensures, c.if-len-lt-KEPT.true)) same

pub returns-else-len-lt-KEPT : goal.returns-else-len-lt-KEPT
returns-else-len-lt-KEPT c = λ all same. kept_full c.args.columns.now.items all c.args.column (omega (arith, c.len.ensures, c.if-len-lt-KEPT.false)) same
