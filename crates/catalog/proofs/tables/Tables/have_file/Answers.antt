use Rattle.std.proofs.Common.{sym, ap, ◌∙◌}
use Rattle.std.specs.Option.{option_copied}
use Rattle.std.specs.List.{list_any}
use Rattle.object_places.specs.Finds.{object_at}
use Rattle.object_places.proofs.FindsLemmas.{any_shown, any_absent}
use Rattle.catalog.specs.Known.{table_of_file}
use Rattle.catalog.proofs.KnownLemmas.{any_of_file}
use Rattle.catalog.proofs.tables.Tables.have_file.Goals as goal

pub returns-in-Some : goal.returns-in-Some
returns-in-Some c =
    c.table_has_file.ensures ∙ any_shown (table_of_file (record { tablespace = c.args.tablespace; number = c.args.number })) c.self.inside.items.items _ c.in-Some.table.now (any_of_file c.self.inside.items.items c.self.inside.places c.self.invariant (record { tablespace = c.args.tablespace; number = c.args.number }))
    (c.in-Some.ensures ∙ (λ i. object_at (c.deref.ensures.value i) (c.get.ensures i)))
    ∙ ap (list_any (table_of_file (record { tablespace = c.args.tablespace; number = c.args.number }))) c.self.view_is

pub returns-in-None : goal.returns-in-None
returns-in-None c =
    any_absent (table_of_file (record { tablespace = c.args.tablespace; number = c.args.number })) c.self.inside.items.items _ (any_of_file c.self.inside.items.items c.self.inside.places c.self.invariant (record { tablespace = c.args.tablespace; number = c.args.number }))
    (sym (ap option_copied c.in-None.is) ∙ c.object_at.ensures ∙ (λ i. object_at (c.deref.ensures.value i) (c.get.ensures i)))
    ∙ ap (list_any (table_of_file (record { tablespace = c.args.tablespace; number = c.args.number }))) c.self.view_is
