use Rattle.std.proofs.Common.{◌≡◌, length, rules}
use Rattle.catalog.specs.Known.{SchemasKnown}
use Rattle.catalog.proofs.KnownLists.{schemas_kept, schemas_pushed}
use Rattle.catalog.proofs.schemas.Schemas.push.Goals as goal

pub invariant_of-self : goal.invariant_of-self
invariant_of-self c = schemas_kept c.self.inside.items.items c.args.schema c.self.inside.places c.put.new.self c.self.invariant (rw c.self.view_is c.requires) c.in_err-put.ensures.others

pub invariant_of-self-in_err-push : goal.invariant_of-self-in_err-push
invariant_of-self-in_err-push c =
    rw c.in_err-push.ensures.items
    (schemas_kept c.self.inside.items.items c.args.schema c.self.inside.places c.put.new.self c.self.invariant (rw c.self.view_is c.requires) c.in_ok-put.ensures.others)

pub invariant_of-self-2 : goal.invariant_of-self-2
invariant_of-self-2 c =
    let at : c.len.result ≡ length c.self.inside.items.items = search rules in
    let known : SchemasKnown c.self.inside.items.items c.put.new.self =
    schemas_kept c.self.inside.items.items c.args.schema c.self.inside.places c.put.new.self c.self.invariant (rw c.self.view_is c.requires) c.in_ok-put.ensures.others in
    rw c.in_ok-push.ensures.items (schemas_pushed c.self.inside.items.items c.args.schema c.put.new.self known (rw at at c.in_ok-put.ensures.placed))
