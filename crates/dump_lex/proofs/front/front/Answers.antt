use Rattle.std.proofs.Common.{rules, arith}
use Rattle.std.proofs.lemmas.Grind.{common_steps}
use Rattle.dump_lex.specs.Front.{front}
use Rattle.dump_lex.proofs.Standing.{answer_within}
use Rattle.dump_lex.proofs.front.front.Goals as goal

pub returns-in-Letter-clause-within : goal.returns-in-Letter-clause-within
unfolding front
returns-in-Letter-clause-within c = answer_within c.args.bytes.now c.letter_token.result (search rules)

pub returns-in-Quote-clause-within : goal.returns-in-Quote-clause-within
unfolding front
returns-in-Quote-clause-within c = answer_within c.args.bytes.now c.quoted_token.result (grind (arith, common_steps))

pub returns-in-Apostrophe-clause-within : goal.returns-in-Apostrophe-clause-within
unfolding front
returns-in-Apostrophe-clause-within c = answer_within c.args.bytes.now c.string_token.result (grind (arith, common_steps))
