use Rattle.std.proofs.Common.{ℕ, List, ◌++◌, ap, subst, sym, ◌∙◌}
use Rattle.dump_grammar.specs.Canonical.{canonical}
use Rattle.dump_replay.specs.Replay.{load_of}
use Rattle.dump_text.specs.Printed.{LeadsTo}
use Rattle.dump_text.proofs.Canonical.{canonical_leads, canonical_is_loaded}
use Rattle.dump_text.proofs.printer.print.Goals as goal

pub returns-clause-leads : goal.returns-clause-leads
returns-clause-leads c =
    let put = c.in_ok-put_catalog.ensures in
    let text = put.text ∙ ap (λ (l : List ℕ). l ++ canonical c.args.catalog.now) c.new-text.ensures.items in
    subst (λ (l : List ℕ). LeadsTo l c.args.catalog.now) (sym text) (canonical_leads c.args.catalog.now put.valid put.writable)

pub returns-clause-loads : goal.returns-clause-loads
returns-clause-loads c =
    let put = c.in_ok-put_catalog.ensures in
    let text = put.text ∙ ap (λ (l : List ℕ). l ++ canonical c.args.catalog.now) c.new-text.ensures.items in
    ap load_of text ∙ canonical_is_loaded c.args.catalog.now put.valid put.writable
