use Rattle.std.proofs.Common.{◌≡◌, ◌∙◌, sym, ap, None, Some}
use Rattle.std.specs.List.{find}
use Rattle.std.specs.Option.{option_copied}
use Rattle.catalog.specs.declared.error.CatalogError.TheVariants.{NoSuch}
use Rattle.catalog.specs.declared.owners.Tablespace.{Tablespace}
use Rattle.catalog.specs.declared.relations.Index.{Index}
use Rattle.catalog.specs.Cluster.{DatabaseObjects}
use Rattle.catalog.specs.Spaces.{table_has}
use Rattle.catalog.specs.Forms.{has_tablespace}
use Rattle.catalog.specs.Refusals.{index_refusal}
use Rattle.std.proofs.Common.{List}
use Rattle.catalog.proofs.CauseLemmas.{absent, and_false}
use Rattle.catalog.proofs.databases.Database.refusal_of_index.Goals as goal

no_table : (tablespaces : List Tablespace) (d : DatabaseObjects) (index : Index) → find (table_has index.table) d.tables ≡ None → Some NoSuch ≡ index_refusal tablespaces d index
no_table tablespaces d index h = rw (h, and_false (has_tablespace tablespaces index.tablespace)) (sym (absent _ _ _ _))

pub returns-in-None : goal.returns-in-None
returns-in-None c = no_table c.args.tablespaces.now c.args.self.now c.args.index.now (sym c.table.ensures ∙ ap option_copied c.in-None.is)
