use Rattle.std.proofs.Common.{sym, ap, ◌∙◌}
use Rattle.std.specs.Option.{option_copied}
use Rattle.std.specs.List.{find}
use Rattle.object_places.specs.Finds.{object_at}
use Rattle.object_places.proofs.FindsLemmas.{shown, hidden, absent}
use Rattle.catalog.specs.Lookups.{table_is}
use Rattle.catalog.proofs.KnownLemmas.{table_found_named}
use Rattle.catalog.proofs.tables.Tables.named.Goals as goal
use Rattle.catalog.proofs.tables.Tables.named.Goals.{in_default-via-in-Some+else-is_named, in_default-via-in_default}

pub returns-in-Some : goal.returns-in-Some
returns-in-Some c =
    shown (table_is c.args.schema.now c.args.name.now) c.self.inside.items.items _ c.in-Some.table.now (table_found_named c.self.inside.items.items c.self.inside.places c.self.invariant c.args.schema.now c.args.name.now)
    (c.in-Some.ensures ∙ (λ i. object_at (c.deref.ensures.value i) (c.get.ensures i)))
    (sym c.is_named.ensures ∙ c.if-is_named.true)
    ∙ ap (find (table_is c.args.schema.now c.args.name.now)) c.self.view_is

pub returns-in_default : goal.returns-in_default
returns-in_default c =
    elim c.in_default.branch [
      | in_default-via-in-Some+else-is_named w ↦
          hidden (table_is c.args.schema.now c.args.name.now) c.self.inside.items.items _ w.in-Some.table.now (table_found_named c.self.inside.items.items c.self.inside.places c.self.invariant c.args.schema.now c.args.name.now)
          (w.in-Some.ensures ∙ (λ i. object_at (c.deref.ensures.value i) (c.get.ensures i)))
          (sym w.is_named.ensures ∙ w.if-is_named.false)
          ∙ ap (find (table_is c.args.schema.now c.args.name.now)) c.self.view_is
      | in_default-via-in_default w ↦
          absent (table_is c.args.schema.now c.args.name.now) c.self.inside.items.items _ (table_found_named c.self.inside.items.items c.self.inside.places c.self.invariant c.args.schema.now c.args.name.now)
          (sym (ap option_copied w.in_default.is) ∙ c.object_at.ensures ∙ (λ i. object_at (c.deref.ensures.value i) (c.get.ensures i)))
          ∙ ap (find (table_is c.args.schema.now c.args.name.now)) c.self.view_is
    ]
