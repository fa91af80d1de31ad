use Rattle.std.proofs.Common.{◌∙◌, ap, sym, []}
use Rattle.std.specs.Option.{unwrap_or}
use Rattle.toast_read.specs.Index.{chunks_at}
use Rattle.toast_read.proofs.Grouping.{at_entries, apart_at}
use Rattle.toast_read.proofs.index.ToastIndex.put.Goals as goal

pub returns-clause-put : goal.returns-clause-put
returns-clause-put c = at_entries c.insert.new.self.entries c.args.value ∙ ap (λ o. unwrap_or o []) c.in_ok-insert.ensures.updates.1

pub returns-clause-others : goal.returns-clause-others
returns-clause-others c other apart =
    at_entries c.insert.new.self.entries other ∙ ap (λ o. unwrap_or o []) (c.in_ok-insert.ensures.updates.2 other (apart_at c.args.value other apart)) ∙ sym (at_entries c.self.inside.values.entries other) ∙ ap (λ m. chunks_at m other) c.self.view_is
