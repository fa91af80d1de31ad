use Rattle.std.proofs.Common.{sym, ap, ◌∙◌}
use Rattle.std.specs.Option.{option_copied}
use Rattle.std.specs.List.{list_any}
use Rattle.object_places.specs.Finds.{object_at}
use Rattle.object_places.proofs.FindsLemmas.{any_shown, any_absent}
use Rattle.catalog.specs.Forms.{schema_is}
use Rattle.catalog.proofs.KnownLists.{any_schema}
use Rattle.catalog.proofs.schemas.Schemas.stand.Goals as goal

pub returns-in-Some : goal.returns-in-Some
returns-in-Some c =
    c.has_name_of.ensures ∙ any_shown (schema_is c.args.name.now) c.self.inside.items.items _ c.in-Some.schema.now (any_schema c.self.inside.items.items c.self.inside.places c.self.invariant c.args.name.now)
    (c.in-Some.ensures ∙ (λ i. object_at (c.deref.ensures.value i) (c.get.ensures i)))
    ∙ ap (list_any (schema_is c.args.name.now)) c.self.view_is

pub returns-in-None : goal.returns-in-None
returns-in-None c =
    any_absent (schema_is c.args.name.now) c.self.inside.items.items _ (any_schema c.self.inside.items.items c.self.inside.places c.self.invariant c.args.name.now)
    (sym (ap option_copied c.in-None.is) ∙ c.object_at.ensures ∙ (λ i. object_at (c.deref.ensures.value i) (c.get.ensures i)))
    ∙ ap (list_any (schema_is c.args.name.now)) c.self.view_is
