use Rattle.std.proofs.Common.{◌≡◌, List, drop}
use Rattle.catalog.specs.declared.relations.Column.{Column}
use Rattle.dump_rules.specs.Rules.{columns_of}
use Rattle.dump_rules.specs.Kept.{kept}
use Rattle.dump_rules.proofs.ColumnLemmas.{behind}
use Rattle.dump_rules.proofs.columns.first_columns.Given as goal

abbrev pub invariant-loop-index : goal.invariant-loop-index
invariant-loop-index l =
    (front : List Column) × (l.columns.items ≡ kept front) × (columns_of l.database l.texts ≡ behind front (columns_of l.database (drop l.index l.texts)))
