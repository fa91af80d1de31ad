use Rattle.std.proofs.Common.{◌∙◌, ap, sym, []}
use Rattle.std.specs.Option.{unwrap_or}
use Rattle.toast_read.specs.Index.{chunks_at}
use Rattle.toast_read.proofs.Grouping.{at_entries, apart_at}
use Rattle.toast_read.proofs.index.ToastIndex.take.Goals as goal

pub returns-clause-taken : goal.returns-clause-taken
returns-clause-taken c =
    c.or_none.ensures ∙ ap (λ o. unwrap_or o []) c.remove-chunks.ensures.value ∙ sym (at_entries c.self.inside.values.entries c.args.value) ∙ ap (λ m. chunks_at m c.args.value) c.self.view_is

pub returns-clause-others : goal.returns-clause-others
returns-clause-others c other apart =
    at_entries c.remove-chunks.new.self.entries other ∙ ap (λ o. unwrap_or o []) (c.remove-chunks.ensures.updates.2 other (apart_at c.args.value other apart)) ∙ sym (at_entries c.self.inside.values.entries other) ∙ ap (λ m. chunks_at m other) c.self.view_is
