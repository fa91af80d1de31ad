-- Each table has the meaning that it had.
use Rattle.std.proofs.Common.{◌≡◌, ◌≢◌, ℕ, List, [], refl, sym, ◌∙◌, ap, arith}
use Rattle.std.specs.Option.{unwrap_or}
use Rattle.fs_model.specs.State.{FsState}
use Rattle.control_file.specs.declared.job.Job.{Job}
use Rattle.control_file.specs.declared.releases.Release.TheVariants.{V15, V16}
use Rattle.control_file.specs.declared.records.Control.{Control}
use Rattle.control_file.specs.declared.records.Counters.{Counters}
use Rattle.control_file.specs.ControlRecord.{control_of}
use Rattle.control_file.proofs.RecordBytes.{number_at-same}
use Rattle.catalog.specs.Cluster.{Cluster}
use Rattle.cluster_meaning.specs.Carries.{Home, Carries}
use Rattle.cluster_meaning.specs.Cluster.{opened, control_at as control_in}
use Rattle.cluster_meaning.specs.Meaning.{table_meaning}
use Rattle.cluster_meaning.proofs.Carried.{carried_meaning}
use Rattle.status_transfer.specs.Counted.{CarriesCounters}
use Rattle.status_transfer.specs.Status.{commit_log_dir, offsets_dir, members_dir, CarriesStatus}
use Rattle.status_transfer.proofs.Staying.{dir_equal}
use Rattle.upgraded.specs.Upgraded.{HasOldCounters, HasCarriedFiles}

segment_size : (before after : List ℕ) (given : Counters) → CarriesCounters before given after → (control_of after).relseg_size ≡ (control_of before).relseg_size
unfolding control_of
segment_size before after given carries = number_at-same 220 4 after before (λ k low high. carries.kept k (λ _. omega (arith, low), λ _. omega (arith, low), λ past. omega (arith, past, high)))

counters_are : (before after : List ℕ) (given : Counters) → CarriesCounters before given after → (control_of after).counters ≡ given
unfolding control_of
counters_are before after given carries = carries.counters

module _ (job : Job) (catalog : Cluster) (s x : FsState) where
  abbrev old_home : Home
  old_home = record { root = job.old; release = V15 }

  abbrev new_home : Home
  new_home = record { root = job.new; release = V16 }

  carries : (control_in s job.old).relseg_size ≢ 0 → (control_in s job.new).relseg_size ≡ (control_in s job.old).relseg_size → HasOldCounters job s x → CarriesStatus s job.old job.new x → HasCarriedFiles job catalog s x
      → Carries catalog old_home s new_home x
  carries blocks size control status files =
      let now : control_in x job.new ≡ control_of control.after = ap (λ found. control_of (unwrap_or found [])) control.stands in
      let before : control_in s job.new ≡ control_of control.before = ap (λ found. control_of (unwrap_or found [])) control.stood in
      record {
        segments_have_blocks = blocks;
        relseg_size = ap (λ (c : Control). c.relseg_size) now ∙ segment_size control.before control.after _ control.carries ∙ ap (λ (c : Control). c.relseg_size) (sym before) ∙ size;
        counters = ap (λ (c : Control). c.counters) now ∙ counters_are control.before control.after _ control.carries;
        commit_log = dir_equal (commit_log_dir job.old) (commit_log_dir job.new) s x status.commit_log;
        offsets = dir_equal (offsets_dir job.old) (offsets_dir job.new) s x status.multixacts.offsets;
        members = dir_equal (members_dir job.old) (members_dir job.new) s x status.multixacts.members;
        files = files;
        shapes = λ database table found is. refl;
      }

  pub meaning_stays : (control_in s job.old).relseg_size ≢ 0 → (control_in s job.new).relseg_size ≡ (control_in s job.old).relseg_size → HasOldCounters job s x → CarriesStatus s job.old job.new x → HasCarriedFiles job catalog s x
      → (database table : ℕ) → table_meaning x (opened x job.new V16 catalog) database table ≡ table_meaning s (opened s job.old V15 catalog) database table
  meaning_stays blocks size control status files = carried_meaning catalog old_home new_home s x (carries blocks size control status files)
