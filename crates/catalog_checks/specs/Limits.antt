-- The limits of a cluster that can be upgraded.
use Rattle.std.specs.Prelude.{ℕ, Bool, ◌||◌, nat_lt, List, length}
use Rattle.std.specs.List.{flat_map, list_any}
use Rattle.fs_model.specs.PathText.{text_of}
use Rattle.catalog.specs.declared.owners.Tablespace.{Tablespace}
use Rattle.catalog.specs.Spaces.{relation_oids}
use Rattle.catalog.specs.Cluster.{Cluster}

-- the OIDs of the relations of a cluster, toast tables and indexes among them
abbrev pub relations_of : Cluster → List ℕ
relations_of c = flat_map relation_oids c.databases

-- the location of a tablespace has more than 1,024 bytes
abbrev pub is_long : Tablespace → Bool
is_long tablespace = nat_lt 1024 (length (text_of tablespace.location))

abbrev pub has_long_location : Cluster → Bool
has_long_location c = list_any is_long c.tablespaces

-- more than 1,000 databases, more than 100,000 relations, or a location of more than 1,024 bytes
abbrev pub is_too_large : Cluster → Bool
is_too_large c = nat_lt 1000 (length c.databases) || nat_lt 100000 (length (relations_of c)) || has_long_location c
