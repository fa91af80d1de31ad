use Rattle.std.proofs.Common.{sym, ap, ◌∙◌}
use Rattle.std.specs.Option.{option_copied}
use Rattle.std.specs.List.{list_any}
use Rattle.object_places.specs.Finds.{object_at}
use Rattle.object_places.proofs.FindsLemmas.{any_shown, any_absent}
use Rattle.catalog.specs.Known.{enum_of_name}
use Rattle.catalog.proofs.KnownLists.{any_enum_of_name}
use Rattle.catalog.proofs.enum_types.EnumTypes.have_name.Goals as goal

pub returns-in-Some : goal.returns-in-Some
returns-in-Some c =
    c.is_named.ensures ∙ any_shown (enum_of_name (record { schema = c.args.schema.now; name = c.args.name.now })) c.self.inside.items.items _ c.in-Some.kind.now (any_enum_of_name c.self.inside.items.items c.self.inside.places c.self.invariant (record { schema = c.args.schema.now; name = c.args.name.now }))
    (c.in-Some.ensures ∙ (λ i. object_at (c.deref.ensures.value i) (c.get.ensures i)))
    ∙ ap (list_any (enum_of_name (record { schema = c.args.schema.now; name = c.args.name.now }))) c.self.view_is

pub returns-in-None : goal.returns-in-None
returns-in-None c =
    any_absent (enum_of_name (record { schema = c.args.schema.now; name = c.args.name.now })) c.self.inside.items.items _ (any_enum_of_name c.self.inside.items.items c.self.inside.places c.self.invariant (record { schema = c.args.schema.now; name = c.args.name.now }))
    (sym (ap option_copied c.in-None.is) ∙ c.object_at.ensures ∙ (λ i. object_at (c.deref.ensures.value i) (c.get.ensures i)))
    ∙ ap (list_any (enum_of_name (record { schema = c.args.schema.now; name = c.args.name.now }))) c.self.view_is
