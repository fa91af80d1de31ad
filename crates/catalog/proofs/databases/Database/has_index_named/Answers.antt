use Rattle.std.proofs.Common.{sym, ap, subst, ◌∙◌}
use Rattle.std.specs.Option.{option_copied}
use Rattle.object_places.specs.Finds.{object_at}
use Rattle.object_places.specs.Places.{name_place}
use Rattle.object_places.proofs.FindsLemmas.{any_shown, any_absent}
use Rattle.catalog.specs.Cluster.{DatabaseObjects}
use Rattle.catalog.specs.Spaces.{SchemaName}
use Rattle.catalog.specs.Known.{IndexNamesKnown, index_of_name}
use Rattle.catalog.proofs.KnownLists.{any_index_of_name}
use Rattle.catalog.proofs.databases.Database.has_index_named.Goals as goal

pub returns-in-Some : goal.returns-in-Some
returns-in-Some c =
    let key : SchemaName = record { schema = c.args.schema.now; name = c.args.name.now } in
    let known = subst (λ (d : DatabaseObjects). IndexNamesKnown d.tables d.indexes c.self.inside.index_names) c.self.view_is c.self.invariant in
    c.index_is_named.ensures
    ∙ any_shown (index_of_name c.args.self.now.tables key) c.args.self.now.indexes _ c.in-Some.index.now (any_index_of_name c.args.self.now.tables c.args.self.now.indexes c.self.inside.index_names known key)
    (c.in-Some.ensures ∙ (λ i. object_at (c.items.ensures i) (c.get.ensures i)) ∙ ap (λ (d : DatabaseObjects). object_at d.indexes (name_place c.self.inside.index_names c.args.schema.now c.args.name.now)) c.self.view_is)

pub returns-in-None : goal.returns-in-None
returns-in-None c =
    let key : SchemaName = record { schema = c.args.schema.now; name = c.args.name.now } in
    let known = subst (λ (d : DatabaseObjects). IndexNamesKnown d.tables d.indexes c.self.inside.index_names) c.self.view_is c.self.invariant in
    any_absent (index_of_name c.args.self.now.tables key) c.args.self.now.indexes _ (any_index_of_name c.args.self.now.tables c.args.self.now.indexes c.self.inside.index_names known key)
    (sym (ap option_copied c.in-None.is) ∙ c.object_at.ensures ∙ (λ i. object_at (c.items.ensures i) (c.get.ensures i)) ∙ ap (λ (d : DatabaseObjects). object_at d.indexes (name_place c.self.inside.index_names c.args.schema.now c.args.name.now)) c.self.view_is)
