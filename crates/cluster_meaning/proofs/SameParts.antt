-- Clusters with the same parts mean the same.
use Rattle.std.proofs.Common.{◌≡◌, ◌≢◌, ℕ, ◌∙◌, List, Option, Some, None, Contains, option_map, refl, ap, sym, subst}
use Rattle.fs_model.specs.State.{FsState}
use Rattle.xact_status.specs.declared.known.Known.{Known}
use Rattle.xact_status.specs.Files.{SegmentFiles}
use Rattle.xact_status.specs.Known.{fate_of}
use Rattle.multixact.specs.Update.{updater_of}
use Rattle.catalog.specs.declared.relations.Toast.{Toast}
use Rattle.relation_files.specs.declared.relation.Relation.{Relation}
use Rattle.relation_files.specs.declared.relation.Fork.{Fork}
use Rattle.relation_files.specs.declared.relation.Fork.TheVariants.{Main, Visibility}
use Rattle.relation_files.specs.Places.{fork_files}
use Rattle.relation_files.specs.Carried.{carried}
use Rattle.cluster_meaning.specs.Blocks.{blocks_of}
use Rattle.cluster_meaning.specs.Status.{window_of}
use Rattle.cluster_meaning.specs.Cluster.{OpenCluster, site_of, known, updater}
use Rattle.toast_read.specs.Chunks.{fetched}
use Rattle.cluster_meaning.specs.Chunks.{chunks_of_blocks}
use Rattle.cluster_meaning.specs.Values.{ValueSource}
use Rattle.cluster_meaning.specs.Meaning.{FoundTable, found_table, table_relation, toast_relation, fork_blocks, toast_blocks, source_in, parts_in, TableParts, meaning_of, table_meaning}
use Rattle.relation_files.specs.Relations.{relations_of}
use Rattle.cluster_meaning.specs.SameParts.{SameParts}
use Rattle.cluster_meaning.proofs.CarriedBlocks.{carried_blocks}
use Rattle.cluster_meaning.proofs.Listed.{table_listed, toast_listed}

module _ (s x : FsState) (old new : OpenCluster) (same : SameParts s old x new) where
  same_known : known new ≡ known old
  same_known = λ i. fate_of (λ n. same.commit_log n i) (window_of (same.counters i))

  same_updater : updater new ≡ updater old
  same_updater = λ i. updater_of (λ n. same.offsets n i) (λ n. same.members n i) (same.counters i)

  same_blocks : (relation : Relation) (fork : Fork) → Contains (relations_of old.catalog) relation → fork_blocks x new relation fork ≡ fork_blocks s old relation fork
  same_blocks relation fork has =
      sym (carried_blocks fork new.relseg_size (fork_files x (site_of new) relation fork) (subst (λ size. size ≢ 0) (sym same.relseg_size) same.segments_have_blocks))
      ∙ (λ i. blocks_of (same.relseg_size i) (λ n. same.files relation has fork n i))
      ∙ carried_blocks fork old.relseg_size (fork_files s (site_of old) relation fork) same.segments_have_blocks

  same_toast : (found : FoundTable) (toast : Option Toast) → ((one : Toast) → toast ≡ Some one → Contains (relations_of old.catalog) (toast_relation found one))
      → toast_blocks x new found toast ≡ toast_blocks s old found toast
  same_toast found None has = refl
  same_toast found (Some toast) has = same_blocks (toast_relation found toast) Main (has toast refl)

  same_parts_in : (database table : ℕ) (found : FoundTable) → found_table old.catalog database table ≡ Some found → parts_in x new found ≡ parts_in s old found
  unfolding parts_in
  same_parts_in database table found is =
      let has : Contains (relations_of old.catalog) (table_relation found) = table_listed old.catalog database table found is in
      let toast : toast_blocks x new found found.table.toast ≡ toast_blocks s old found found.table.toast = same_toast found found.table.toast (toast_listed old.catalog database table found is) in
      let source : source_in x new found ≡ source_in s old found = λ i. record {
        columns = found.table.columns;
        shapes = same.shapes database table found is i;
        enums = found.database.enums;
        toast = option_map (λ toast. toast.oid) found.table.toast;
        fetch = fetched (chunks_of_blocks (toast i));
      } in
      let main = same_blocks (table_relation found) Main has in
      let map = same_blocks (table_relation found) Visibility has in
      λ i. record { reading = record { source = source i; fates = same_known i; updaters = same_updater i }; blocks = main i; map = map i }

option_same : {A B : Type 0} (f g : A → B) (o : Option A) → ((a : A) → o ≡ Some a → f a ≡ g a) → option_map f o ≡ option_map g o
option_same f g None each = refl
option_same f g (Some a) each = ap (λ b. Some b) (each a refl)

pub same_parts : (s x : FsState) (old new : OpenCluster) → SameParts s old x new → (database table : ℕ) → table_meaning x new database table ≡ table_meaning s old database table
unfolding table_meaning
same_parts s x old new same database table =
    ap (λ catalog. option_map (λ found. meaning_of (parts_in x new found)) (found_table catalog database table)) same.catalog
    ∙ option_same (λ found. meaning_of (parts_in x new found)) (λ found. meaning_of (parts_in s old found)) (found_table old.catalog database table)
    (λ found is. ap meaning_of (same_parts_in s x old new same database table found is))
