use Rattle.std.proofs.Common.{sym, ap, ◌∙◌}
use Rattle.std.specs.Option.{option_copied}
use Rattle.std.specs.List.{position}
use Rattle.object_places.specs.Finds.{object_at, passes}
use Rattle.catalog.specs.Spaces.{enum_has}
use Rattle.catalog.proofs.KnownLists.{enum_place, no_enum_place}
use Rattle.catalog.proofs.enum_types.EnumTypes.place_of.Goals as goal

pub returns-in-Some : goal.returns-in-Some
returns-in-Some c =
    c.get-place.ensures
    ∙ enum_place c.self.inside.items.items c.self.inside.places c.self.invariant c.args.oid c.in-Some.kind.now
    (c.in-Some.ensures ∙ (λ i. object_at (c.deref.ensures.value i) (c.get-place.ensures i)))
    (sym c.enum_is_of.ensures ∙ c.if-enum_is_of.true)
    ∙ ap (position (enum_has c.args.oid)) c.self.view_is

pub returns-in_default : goal.returns-in_default
returns-in_default c =
    no_enum_place c.self.inside.items.items c.self.inside.places c.self.invariant c.args.oid
    (ap (passes (enum_has c.args.oid)) (sym (c.in-Some.ensures ∙ (λ i. object_at (c.deref.ensures.value i) (c.get-place.ensures i)))) ∙ sym c.enum_is_of.ensures ∙ c.if-enum_is_of.false)
    ∙ ap (position (enum_has c.args.oid)) c.self.view_is

pub returns-in_default-2 : goal.returns-in_default-2
returns-in_default-2 c =
    no_enum_place c.self.inside.items.items c.self.inside.places c.self.invariant c.args.oid
    (ap (passes (enum_has c.args.oid)) (sym (sym (ap option_copied c.in_default.is) ∙ c.object_at.ensures ∙ (λ i. object_at (c.deref.ensures.value i) (c.get-place.ensures i)))))
    ∙ ap (position (enum_has c.args.oid)) c.self.view_is
