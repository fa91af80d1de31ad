-- What is printed is read again.
use Rattle.std.specs.Prelude.{◌≡◌, ℕ, List, None, Ok}
use Rattle.catalog.specs.Cluster.{Cluster, started}
use Rattle.catalog.specs.Valid.{IsValid}
use Rattle.dump_grammar.specs.Canonical.{canonical, IsWritableCatalog}
use Rattle.dump_replay.specs.Replay.{Outcome, outcome_of, load_of}

-- the outcome has no fault, and ends with the catalog
abbrev pub EndsWith : Outcome → Cluster → Type 0
EndsWith o c = (o.fault ≡ None) × (o.state.catalog ≡ c)

-- the text leads from the catalog that a cluster of the same bootstrap role starts with to the catalog
abbrev pub LeadsTo : List ℕ → Cluster → Type 0
LeadsTo text c = EndsWith (outcome_of (started c.bootstrap) text) c

-- ---- laws; the locations of a `Catalog` are text, and its missing values are bytes

abbrev pub CanonicalLeads : Type 0
CanonicalLeads = (c : Cluster) → IsValid c → IsWritableCatalog c → LeadsTo (canonical c) c

abbrev pub CanonicalIsLoaded : Type 0
CanonicalIsLoaded = (c : Cluster) → IsValid c → IsWritableCatalog c → load_of (canonical c) ≡ Ok c
