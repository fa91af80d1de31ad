use Rattle.std.proofs.Common.{sym, ◌∙◌}
use Rattle.dump_lex.proofs.Blank.{comment}
use Rattle.dump_lex.proofs.bytes.separator_len.Goals as goal

pub returns-then-starts_comment : goal.returns-then-starts_comment
returns-then-starts_comment c = comment c.args.bytes.now c.len_before.result (sym c.starts_comment.ensures ∙ c.if-starts_comment.true) c.len_before.ensures.first
