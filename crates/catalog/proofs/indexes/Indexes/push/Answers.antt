use Rattle.std.proofs.Common.{◌≡◌, length, rules}
use Rattle.catalog.specs.Known.{IndexesKnown}
use Rattle.catalog.proofs.KnownLists.{indexes_kept, indexes_pushed}
use Rattle.catalog.proofs.indexes.Indexes.push.Goals as goal

pub invariant_of-self : goal.invariant_of-self
invariant_of-self c = indexes_kept c.self.inside.items.items c.args.index c.self.inside.places c.put.new.self c.self.invariant (rw c.self.view_is c.requires) c.in_err-put.ensures.oids c.in_err-put.ensures.files

pub invariant_of-self-in_err-push : goal.invariant_of-self-in_err-push
invariant_of-self-in_err-push c =
    rw c.in_err-push.ensures.items
    (indexes_kept c.self.inside.items.items c.args.index c.self.inside.places c.put.new.self c.self.invariant (rw c.self.view_is c.requires) c.in_ok-put.ensures.oids c.in_ok-put.ensures.files)

pub invariant_of-self-2 : goal.invariant_of-self-2
invariant_of-self-2 c =
    let at : c.len.result ≡ length c.self.inside.items.items = search rules in
    let known : IndexesKnown c.self.inside.items.items c.put.new.self =
    indexes_kept c.self.inside.items.items c.args.index c.self.inside.places c.put.new.self c.self.invariant (rw c.self.view_is c.requires) c.in_ok-put.ensures.oids c.in_ok-put.ensures.files in
    rw c.in_ok-push.ensures.items (indexes_pushed c.self.inside.items.items c.args.index c.put.new.self known (rw at at c.in_ok-put.ensures.oid_placed) (rw at at c.in_ok-put.ensures.file_placed))
