use Rattle.std.proofs.Common.{◌∙◌, [], ap, sym, option_copied}
use Rattle.std.specs.Option.{unwrap_or}
use Rattle.toast_read.specs.Index.{chunks_at}
use Rattle.toast_read.proofs.Grouping.{at_entries}
use Rattle.toast_read.proofs.index.ToastIndex.chunks_of.Goals as goal

pub returns-in-Some : goal.returns-in-Some
returns-in-Some c =
    c.items.ensures ∙ ap (λ o. unwrap_or (option_copied o) []) (sym c.in-Some.is) ∙ ap (λ o. unwrap_or o []) c.get.ensures.value
    ∙ sym (at_entries c.self.inside.values.entries c.args.value) ∙ ap (λ m. chunks_at m c.args.value) c.self.view_is

pub returns-in-None : goal.returns-in-None
returns-in-None c =
    ap (λ o. unwrap_or (option_copied o) []) (sym c.in-None.is) ∙ ap (λ o. unwrap_or o []) c.get.ensures.value
    ∙ sym (at_entries c.self.inside.values.entries c.args.value) ∙ ap (λ m. chunks_at m c.args.value) c.self.view_is
