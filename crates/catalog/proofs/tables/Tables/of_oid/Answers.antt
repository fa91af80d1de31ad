use Rattle.std.proofs.Common.{sym, ap, ◌∙◌}
use Rattle.std.specs.Option.{option_copied}
use Rattle.std.specs.List.{find}
use Rattle.object_places.specs.Finds.{object_at}
use Rattle.object_places.proofs.FindsLemmas.{shown, hidden, absent}
use Rattle.catalog.specs.Spaces.{table_has}
use Rattle.catalog.proofs.KnownLemmas.{table_found}
use Rattle.catalog.proofs.tables.Tables.of_oid.Goals as goal
use Rattle.catalog.proofs.tables.Tables.of_oid.Goals.{in_default-via-in-Some+else-table_is_of, in_default-via-in_default}

pub returns-in-Some : goal.returns-in-Some
returns-in-Some c =
    shown (table_has c.args.oid) c.self.inside.items.items _ c.in-Some.table.now (table_found c.self.inside.items.items c.self.inside.places c.self.invariant c.args.oid)
    (c.in-Some.ensures ∙ (λ i. object_at (c.deref.ensures.value i) (c.get.ensures i)))
    (sym c.table_is_of.ensures ∙ c.if-table_is_of.true)
    ∙ ap (find (table_has c.args.oid)) c.self.view_is

pub returns-in_default : goal.returns-in_default
returns-in_default c =
    elim c.in_default.branch [
      | in_default-via-in-Some+else-table_is_of w ↦
          hidden (table_has c.args.oid) c.self.inside.items.items _ w.in-Some.table.now (table_found c.self.inside.items.items c.self.inside.places c.self.invariant c.args.oid)
          (w.in-Some.ensures ∙ (λ i. object_at (c.deref.ensures.value i) (c.get.ensures i)))
          (sym w.table_is_of.ensures ∙ w.if-table_is_of.false)
          ∙ ap (find (table_has c.args.oid)) c.self.view_is
      | in_default-via-in_default w ↦
          absent (table_has c.args.oid) c.self.inside.items.items _ (table_found c.self.inside.items.items c.self.inside.places c.self.invariant c.args.oid)
          (sym (ap option_copied w.in_default.is) ∙ c.object_at.ensures ∙ (λ i. object_at (c.deref.ensures.value i) (c.get.ensures i)))
          ∙ ap (find (table_has c.args.oid)) c.self.view_is
    ]
