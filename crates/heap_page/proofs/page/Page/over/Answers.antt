use Rattle.std.proofs.Common.{◌≡◌, ℕ, Ok, None, rules}
use Rattle.heap_page.specs.Page.{page_error}
use Rattle.heap_page.proofs.RuleLemmas.{rules_from_answer}
use Rattle.heap_page.proofs.page.Page.over.Goals as goal

pub returns-in_err-check-clause-rules : goal.returns-in_err-check-clause-rules
returns-in_err-check-clause-rules c =
    rules_from_answer c.args.bytes.now c.from_residual.result (search rules)

pub returns-clause-rules : goal.returns-clause-rules
returns-clause-rules c =
    let accepted : None ≡ page_error c.args.bytes.now = search rules in
    rules_from_answer {T = ℕ} c.args.bytes.now (Ok 0) accepted
