-- What a reader holds is what its cluster says.
use Rattle.std.proofs.Common.{◌≡◌, ℕ, List, [], length, Option, refl, ap, sym, subst}
use Rattle.std.proofs.lemmas.List.{length-map}
use Rattle.control_file.specs.declared.releases.Release.{Release}
use Rattle.catalog.specs.declared.relations.Column.{Column}
use Rattle.std.specs.Option.{option_map}
use Rattle.std.specs.FinMap as map
use Rattle.std.specs.FinMap.{FinMap}
use Rattle.std.specs.Ordering.{nat_cmp}
use Rattle.heap_tuple.specs.declared.shape.Shape.{Shape}
use Rattle.toast_read.specs.declared.chunk.Chunk.{Chunk}
use Rattle.catalog.specs.Cluster.{DatabaseObjects}
use Rattle.fs_model.specs.State.{FsState}
use Rattle.control_file.specs.declared.records.Counters.{Counters}
use Rattle.heap_tuple.specs.declared.field.ToastPointer.{ToastPointer}
use Rattle.toast_read.specs.Chunks.{fetched}
use Rattle.toast_read.specs.Index.{IsIndexOf, fetched_from}
use Rattle.toast_read.proofs.Grouping.{fetched_same}
use Rattle.xact_status.specs.Known.{fate_of}
use Rattle.multixact.specs.Update.{updater_of}
use Rattle.relation_files.specs.declared.site.ClusterSite.{ClusterSite}
use Rattle.cluster_meaning.specs.Chunks.{chunks_of_blocks}
use Rattle.cluster_meaning.specs.Meaning.{FoundTable, Reading, reading_in, shape_in, shapes_in, toast_blocks}
use Rattle.status_read.specs.declared.logs.Logs.{Logs}
use Rattle.status_read.specs.Logs.{HasLogs}
use Rattle.cluster_read.specs.Tables.{cluster_at}

-- the reading of a reader that holds these
abbrev pub read_by : List Column → List Shape → DatabaseObjects → Option ℕ → FinMap nat_cmp (List Chunk) → Logs → Reading
read_by columns shapes database toast index logs = record {
  source = record { columns = columns; shapes = shapes; enums = database.enums; toast = toast; fetch = fetched_from index };
  fates = fate_of (map.get logs.commit_log) logs.window;
  updaters = updater_of (map.get logs.offsets) (map.get logs.members) logs.counters;
}

pub same_reading : (s : FsState) (site : ClusterSite) (segment_blocks : ℕ) (counters : Counters) (found : FoundTable) (columns : List Column) (shapes : List Shape) (toast : Option ℕ)
    (index : FinMap nat_cmp (List Chunk)) (logs : Logs)
    → columns ≡ found.table.columns → shapes ≡ shapes_in site.release found.table.columns → toast ≡ option_map (λ toast. toast.oid) found.table.toast
    → IsIndexOf index (chunks_of_blocks (toast_blocks s (cluster_at s site segment_blocks counters) found found.table.toast)) → HasLogs s site.root.now counters logs
    → read_by columns shapes found.database toast index logs ≡ reading_in s (cluster_at s site segment_blocks counters) found
same_reading s site segment_blocks counters found columns shapes toast index logs same_columns same_shapes same_toast indexed has =
    let chunks = chunks_of_blocks (toast_blocks s (cluster_at s site segment_blocks counters) found found.table.toast) in
    let each : (to : ToastPointer) → fetched_from index to ≡ fetched chunks to = λ to. fetched_same index chunks to indexed in
    λ i. record {
      source = record { columns = same_columns i; shapes = same_shapes i; enums = found.database.enums; toast = same_toast i; fetch = λ to. each to i };
      fates = fate_of (has.commit_log i) (has.window i);
      updaters = updater_of (has.offsets i) (has.members i) (has.counters i);
    }

pub shapes_length : (release : Release) (columns : List Column) → length (shapes_in release columns) ≡ length columns
shapes_length release columns = length-map columns (λ (column : Column). shape_in release column.kind)

pub no_chunks : chunks_of_blocks [] ≡ []
unfolding chunks_of_blocks
no_chunks = refl
