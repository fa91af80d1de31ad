use Rattle.std.proofs.Common.{sym, ap, ◌∙◌}
use Rattle.std.specs.Option.{option_copied}
use Rattle.std.specs.List.{find}
use Rattle.object_places.specs.Finds.{object_at}
use Rattle.object_places.proofs.FindsLemmas.{shown, hidden, absent}
use Rattle.catalog.specs.Spaces.{enum_has}
use Rattle.catalog.proofs.KnownLists.{enum_found}
use Rattle.catalog.proofs.enum_types.EnumTypes.of_oid.Goals as goal
use Rattle.catalog.proofs.enum_types.EnumTypes.of_oid.Goals.{in_default-via-in-Some+else-enum_is_of, in_default-via-in_default}

pub returns-in-Some : goal.returns-in-Some
returns-in-Some c =
    shown (enum_has c.args.oid) c.self.inside.items.items _ c.in-Some.kind.now (enum_found c.self.inside.items.items c.self.inside.places c.self.invariant c.args.oid)
    (c.in-Some.ensures ∙ (λ i. object_at (c.deref.ensures.value i) (c.get.ensures i)))
    (sym c.enum_is_of.ensures ∙ c.if-enum_is_of.true)
    ∙ ap (find (enum_has c.args.oid)) c.self.view_is

pub returns-in_default : goal.returns-in_default
returns-in_default c =
    elim c.in_default.branch [
      | in_default-via-in-Some+else-enum_is_of w ↦
          hidden (enum_has c.args.oid) c.self.inside.items.items _ w.in-Some.kind.now (enum_found c.self.inside.items.items c.self.inside.places c.self.invariant c.args.oid)
          (w.in-Some.ensures ∙ (λ i. object_at (c.deref.ensures.value i) (c.get.ensures i)))
          (sym w.enum_is_of.ensures ∙ w.if-enum_is_of.false)
          ∙ ap (find (enum_has c.args.oid)) c.self.view_is
      | in_default-via-in_default w ↦
          absent (enum_has c.args.oid) c.self.inside.items.items _ (enum_found c.self.inside.items.items c.self.inside.places c.self.invariant c.args.oid)
          (sym (ap option_copied w.in_default.is) ∙ c.object_at.ensures ∙ (λ i. object_at (c.deref.ensures.value i) (c.get.ensures i)))
          ∙ ap (find (enum_has c.args.oid)) c.self.view_is
    ]
