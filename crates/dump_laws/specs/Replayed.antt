-- The statements of a valid catalog, as statements that are replayed.
use Rattle.std.specs.Prelude.{ℕ, Option}
use Rattle.catalog.specs.Cluster.{Cluster, started}
use Rattle.catalog.specs.Valid.{IsValid}
use Rattle.dump_grammar.specs.Canonical.{statements_of, IsWritableCatalog}
use Rattle.dump_rules.specs.Rules.{State, opened, no_numbers, Replays}
use Rattle.dump_spelling.specs.Spelled.{AreWritable}

-- with no number set, and the database of that OID connected
abbrev pub at : Cluster → Option ℕ → State
at c connected = record { catalog = c; session = record { numbers = no_numbers; connected = connected } }

-- they lead from the catalog that a cluster of that bootstrap role starts with to the catalog, and leave no number
abbrev pub StatementsReplay : Type 0
StatementsReplay = (c : Cluster) → IsValid c → (m : Option ℕ) × Replays (opened (started c.bootstrap)) (statements_of c) (at c m)

-- and they can be written, where the locations are text and the missing values bytes
abbrev pub StatementsAreWritable : Type 0
StatementsAreWritable = (c : Cluster) → IsValid c → IsWritableCatalog c → AreWritable (statements_of c)
