-- The main files of a database's relations, as a replay lists them and as the definitions of places have them.
use Rattle.std.specs.Prelude.{List, [], map}
use Rattle.std.specs.List.{find, flat_map}
use Rattle.fs_model.specs.Names.{Path}
use Rattle.control_file.specs.declared.releases.Release.{Release}
use Rattle.catalog.specs.declared.owners.Tablespace.{Tablespace}
use Rattle.catalog.specs.Cluster.{DatabaseObjects}
use Rattle.catalog.specs.Spaces.{tablespace_has}
use Rattle.relation_files.specs.declared.relation.Relation.{Relation as FileRelation}
use Rattle.relation_files.specs.declared.relation.Fork.TheVariants.{Main}
use Rattle.relation_files.specs.Places.{Site, segment_path}
use Rattle.relation_files.specs.Relations as files
use Rattle.new_names.specs.declared.names.NewName.{NewName}
use Rattle.new_names.specs.declared.names.NewNode.TheVariants.{File}
use Rattle.catalog_server.specs.declared.relation.Relation.{Relation}
use Rattle.catalog_server.specs.ReplayNames.{relations_of, file_names}

-- what a replay lists where no relation was there before
abbrev pub listed_files : Path → Release → List Tablespace → DatabaseObjects → List NewName
listed_files root release tablespaces d = flat_map (λ (r : Relation). file_names root release d.oid r.file (find (tablespace_has r.tablespace) tablespaces)) (relations_of d)

-- the first segment of a relation's main fork, empty
abbrev pub main_file : Site → FileRelation → NewName
main_file site relation = record { path = segment_path site relation Main 0; node = File [] }

abbrev pub main_files : Site → DatabaseObjects → List NewName
main_files site d = map (main_file site) (files.relations_in d)
