use Rattle.std.proofs.Common.{◌≡◌, length, rules}
use Rattle.catalog.specs.Known.{TablesKnown}
use Rattle.catalog.proofs.KnownLemmas.{tables_kept, tables_pushed}
use Rattle.catalog.proofs.tables.Tables.push.Goals as goal

pub invariant_of-self : goal.invariant_of-self
invariant_of-self c =
    tables_kept c.self.inside.items.items c.args.table c.self.inside.places c.put.new.self c.self.invariant (rw c.self.view_is c.requires)
    c.in_err-put.ensures.oids c.in_err-put.ensures.row_types c.in_err-put.ensures.names c.in_err-put.ensures.files

pub invariant_of-self-in_err-push : goal.invariant_of-self-in_err-push
invariant_of-self-in_err-push c =
    rw c.in_err-push.ensures.items
    (tables_kept c.self.inside.items.items c.args.table c.self.inside.places c.put.new.self c.self.invariant (rw c.self.view_is c.requires)
    c.in_ok-put.ensures.oids c.in_ok-put.ensures.row_types c.in_ok-put.ensures.names c.in_ok-put.ensures.files)

pub invariant_of-self-2 : goal.invariant_of-self-2
invariant_of-self-2 c =
    let at : c.len.result ≡ length c.self.inside.items.items = search rules in
    let known : TablesKnown c.self.inside.items.items c.put.new.self =
    tables_kept c.self.inside.items.items c.args.table c.self.inside.places c.put.new.self c.self.invariant (rw c.self.view_is c.requires)
    c.in_ok-put.ensures.oids c.in_ok-put.ensures.row_types c.in_ok-put.ensures.names c.in_ok-put.ensures.files in
    rw c.in_ok-push.ensures.items
    (tables_pushed c.self.inside.items.items c.args.table c.put.new.self known
    (rw at at c.in_ok-put.ensures.oids_placed) (rw at at c.in_ok-put.ensures.row_type_placed) (rw at at c.in_ok-put.ensures.name_placed) (rw at at c.in_ok-put.ensures.files_placed))
