-- What an entry of the map carries: a file number with a directory in each cluster.
use Rattle.std.specs.Prelude.{ℕ}
use Rattle.fs_model.specs.Names.{Path}
use Rattle.control_file.specs.declared.job.Job.{Job}
use Rattle.catalog.specs.Cluster.{Cluster}
use Rattle.relation_files.specs.declared.relation.Relation.{Relation}
use Rattle.relation_files.specs.Places.{relation_dir}
use Rattle.relation_map.specs.declared.map.MapEntry.{MapEntry}
use Rattle.relation_map.specs.Pairs.{old_site, new_site}

pub record Carriage : Type 0 where
  pub from_dir : Path
  pub to_dir : Path
  pub file : ℕ

abbrev pub carriage_of : MapEntry → Carriage
carriage_of entry = record { from_dir = entry.from_dir; to_dir = entry.to_dir; file = entry.file }

-- a relation of a catalog that both clusters have
abbrev pub carriage : Job → Cluster → Relation → Carriage
carriage job catalog relation = record {
  from_dir = relation_dir (old_site job catalog) relation;
  to_dir = relation_dir (new_site job catalog) relation;
  file = relation.file;
}
