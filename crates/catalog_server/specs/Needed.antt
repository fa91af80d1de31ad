-- The directories that a replay needs, and what is to be free.
use Rattle.std.specs.Prelude.{◌≡◌, ◌≢◌, true, false, List, [], ◌∷◌, ◌++◌, Some, None}
use Rattle.std.specs.FinMap.{get}
use Rattle.std.specs.List.{Contains, list_any}
use Rattle.std.specs.Fmt.{decimal}
use Rattle.fs_model.specs.declared.node.Node.TheVariants as node
use Rattle.fs_model.specs.Names.{Path}
use Rattle.fs_model.specs.State.{FsState}
use Rattle.control_file.specs.declared.releases.Release.{Release}
use Rattle.catalog.specs.declared.owners.Tablespace.{Tablespace}
use Rattle.catalog.specs.Cluster.{Cluster, DatabaseObjects, default_tablespace}
use Rattle.new_names.specs.declared.names.NewName.{NewName}
use Rattle.catalog_server.specs.ReplayNames.{base_path, links_path, databases_path, relations_in, stands_in, is_new_tablespace, is_new_database}

-- a directory stands at the path
abbrev pub HasDir : FsState → Path → Type 0
HasDir s path = get s.names path ≡ Some node.Dir

-- nothing stands at the path
abbrev pub IsFree : FsState → Path → Type 0
IsFree s path = get s.names path ≡ None

-- Each directory stands that a replay from one catalog to another needs and doesn't make.
pub record HasNeeded (root : Path) (release : Release) (before after : Cluster) (s : FsState) : Type 0 where
  pub base : HasDir s (base_path root)
  pub links : HasDir s (links_path root)
  -- that of each database which is no new one
  pub databases : (d : DatabaseObjects) → Contains after.databases d → is_new_database before d ≡ false → HasDir s (base_path root ++ decimal d.oid ∷ [])
  -- the location of each new tablespace
  pub locations : (t : Tablespace) → Contains after.tablespaces t → is_new_tablespace before t ≡ true → HasDir s t.location
  -- the release's directory of each other, and in it that of each database which had a relation there
  pub releases : (t : Tablespace) → Contains after.tablespaces t → t.oid ≢ default_tablespace → is_new_tablespace before t ≡ false → HasDir s (databases_path root release t)
  pub held : (d : DatabaseObjects) (t : Tablespace) → Contains after.databases d → Contains after.tablespaces t → t.oid ≢ default_tablespace → list_any (stands_in t.oid) (relations_in before d.oid) ≡ true → HasDir s (databases_path root release t ++ decimal d.oid ∷ [])

-- no two of the names are at one path
abbrev pub ArePathsDistinct : List NewName → Type 0
ArePathsDistinct [] = Unit {0}
ArePathsDistinct (name ∷ names) = ((other : NewName) → Contains names other → other.path ≢ name.path) × ArePathsDistinct names

-- No name of the replay is in the way: nothing stands at its path, and no other is there.
pub record AreFree (s : FsState) (names : List NewName) : Type 0 where
  pub free : (name : NewName) → Contains names name → IsFree s name.path
  pub distinct : ArePathsDistinct names
