use Rattle.std.proofs.Common.{sym, ap, ◌∙◌}
use Rattle.std.specs.Option.{option_copied}
use Rattle.std.specs.List.{find}
use Rattle.object_places.specs.Finds.{object_at}
use Rattle.object_places.proofs.FindsLemmas.{shown, hidden, absent}
use Rattle.catalog.specs.Lookups.{enum_is}
use Rattle.catalog.proofs.KnownLists.{enum_found_named}
use Rattle.catalog.proofs.enum_types.EnumTypes.named.Goals as goal
use Rattle.catalog.proofs.enum_types.EnumTypes.named.Goals.{in_default-via-in-Some+else-is_named, in_default-via-in_default}

pub returns-in-Some : goal.returns-in-Some
returns-in-Some c =
    shown (enum_is c.args.schema.now c.args.name.now) c.self.inside.items.items _ c.in-Some.kind.now (enum_found_named c.self.inside.items.items c.self.inside.places c.self.invariant c.args.schema.now c.args.name.now)
    (c.in-Some.ensures ∙ (λ i. object_at (c.deref.ensures.value i) (c.get.ensures i)))
    (sym c.is_named.ensures ∙ c.if-is_named.true)
    ∙ ap (find (enum_is c.args.schema.now c.args.name.now)) c.self.view_is

pub returns-in_default : goal.returns-in_default
returns-in_default c =
    elim c.in_default.branch [
      | in_default-via-in-Some+else-is_named w ↦
          hidden (enum_is c.args.schema.now c.args.name.now) c.self.inside.items.items _ w.in-Some.kind.now (enum_found_named c.self.inside.items.items c.self.inside.places c.self.invariant c.args.schema.now c.args.name.now)
          (w.in-Some.ensures ∙ (λ i. object_at (c.deref.ensures.value i) (c.get.ensures i)))
          (sym w.is_named.ensures ∙ w.if-is_named.false)
          ∙ ap (find (enum_is c.args.schema.now c.args.name.now)) c.self.view_is
      | in_default-via-in_default w ↦
          absent (enum_is c.args.schema.now c.args.name.now) c.self.inside.items.items _ (enum_found_named c.self.inside.items.items c.self.inside.places c.self.invariant c.args.schema.now c.args.name.now)
          (sym (ap option_copied w.in_default.is) ∙ c.object_at.ensures ∙ (λ i. object_at (c.deref.ensures.value i) (c.get.ensures i)))
          ∙ ap (find (enum_is c.args.schema.now c.args.name.now)) c.self.view_is
    ]
