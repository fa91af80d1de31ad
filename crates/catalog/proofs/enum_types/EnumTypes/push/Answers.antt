use Rattle.std.proofs.Common.{◌≡◌, length, rules}
use Rattle.catalog.specs.Known.{EnumsKnown}
use Rattle.catalog.proofs.KnownLists.{enums_kept, enums_pushed}
use Rattle.catalog.proofs.enum_types.EnumTypes.push.Goals as goal

pub invariant_of-self : goal.invariant_of-self
invariant_of-self c = enums_kept c.self.inside.items.items c.args.kind c.self.inside.places c.put.new.self c.self.invariant (rw c.self.view_is c.requires) c.in_err-put.ensures.oids c.in_err-put.ensures.names c.in_err-put.ensures.labels

pub invariant_of-self-in_err-push : goal.invariant_of-self-in_err-push
invariant_of-self-in_err-push c =
    rw c.in_err-push.ensures.items
    (enums_kept c.self.inside.items.items c.args.kind c.self.inside.places c.put.new.self c.self.invariant (rw c.self.view_is c.requires) c.in_ok-put.ensures.oids c.in_ok-put.ensures.names c.in_ok-put.ensures.labels)

pub invariant_of-self-2 : goal.invariant_of-self-2
invariant_of-self-2 c =
    let at : c.len.result ≡ length c.self.inside.items.items = search rules in
    let known : EnumsKnown c.self.inside.items.items c.put.new.self =
    enums_kept c.self.inside.items.items c.args.kind c.self.inside.places c.put.new.self c.self.invariant (rw c.self.view_is c.requires) c.in_ok-put.ensures.oids c.in_ok-put.ensures.names c.in_ok-put.ensures.labels in
    rw c.in_ok-push.ensures.items (enums_pushed c.self.inside.items.items c.args.kind c.put.new.self known (rw at at c.in_ok-put.ensures.oid_placed) (rw at at c.in_ok-put.ensures.name_placed) (rw at at c.in_ok-put.ensures.labels_placed))
