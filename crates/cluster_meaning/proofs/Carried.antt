-- What was carried is the same on both sides.
use Rattle.std.proofs.Common.{◌≡◌, ℕ, ◌∙◌, ◌++◌, ◌∷◌, [], ◌^◌, nat_lt, Bool, true, false, List, Option, Some, None, Contains, if◌then◌else◌, refl, ap}
use Rattle.fs_model.specs.Names.{Path}
use Rattle.fs_model.specs.State.{FsState}
use Rattle.catalog.specs.Cluster.{Cluster}
use Rattle.relation_files.specs.declared.relation.Relation.{Relation}
use Rattle.relation_files.specs.declared.relation.Fork.{Fork}
use Rattle.relation_files.specs.Places.{fork_files}
use Rattle.relation_files.specs.Carried.{carried}
use Rattle.cluster_meaning.specs.Status.{segment_name, status_files}
use Rattle.cluster_meaning.specs.Cluster.{OpenCluster, opened}
use Rattle.cluster_meaning.specs.Meaning.{table_meaning}
use Rattle.cluster_meaning.specs.SameParts.{SameParts}
use Rattle.cluster_meaning.specs.Carries.{Home, Carries, SameFiles, home_site}
use Rattle.relation_files.proofs.Carried.{carried_again}
use Rattle.cluster_meaning.proofs.SameParts.{same_parts}

same_status : (s x : FsState) (dir copy : Path) → SameFiles s dir x copy → (segment : ℕ) → status_files x copy segment ≡ status_files s dir segment
same_status s x dir copy same segment = ap (λ file. if nat_lt segment (2 ^ 32) then file else None) (same (segment_name segment))

pub carries_parts : (catalog : Cluster) (old new : Home) (s x : FsState) → Carries catalog old s new x
    → SameParts s (opened s old.root old.release catalog) x (opened x new.root new.release catalog)
carries_parts catalog old new s x carries = record {
  catalog = refl;
  relseg_size = carries.relseg_size;
  segments_have_blocks = carries.segments_have_blocks;
  counters = carries.counters;
  commit_log = same_status s x _ _ carries.commit_log;
  offsets = same_status s x _ _ carries.offsets;
  members = same_status s x _ _ carries.members;
  files = λ relation has fork segment.
      ap (λ files. carried fork files segment) (λ i n. carries.files relation has fork n i)
      ∙ carried_again fork (fork_files s (home_site old catalog) relation fork) segment;
  shapes = carries.shapes;
}

pub carried_meaning : (catalog : Cluster) (old new : Home) (s x : FsState) → Carries catalog old s new x → (database table : ℕ)
    → table_meaning x (opened x new.root new.release catalog) database table ≡ table_meaning s (opened s old.root old.release catalog) database table
carried_meaning catalog old new s x carries = same_parts s x (opened s old.root old.release catalog) (opened x new.root new.release catalog) (carries_parts catalog old new s x carries)
