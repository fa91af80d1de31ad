use Rattle.std.proofs.Common.{◌∙◌, ◌++◌, ◌∷◌, [], List, ℕ, sym, ap}
use Rattle.catalog.specs.Spaces.{schema_in}
use Rattle.relation_map.specs.declared.named.Named.{Named}
use Rattle.relation_map.specs.Named.{index_named}
use Rattle.relation_map.proofs.Lists.{adding_one}
use Rattle.relation_map.proofs.named.add_indexes.Goals as goal

pub loop-i-preserved : goal.loop-i-preserved
loop-i-preserved c =
    let x = c.in-Some.index.now in
    let one : List ℕ → Named = λ schema. record { oid = x.oid; schema = schema; name = x.name; tablespace = x.tablespace; file = x.file } in
    let named : List ℕ → List Named = λ schema. c.loop-i.relations.items ++ one schema ∷ [] in
    adding_one (index_named c.args.database.now.tables) c.args.database.now.indexes c.loop-i.i x c.loop-i.relations.items c.add_named.new.relations.items _ (sym c.in-Some.ensures)
    (c.in_ok-add_named-in-Some.ensures ∙ ap named (c.in_ok-schema-in-Some.ensures ∙ ap schema_in c.table_of.ensures)) c.loop-i.invariant
