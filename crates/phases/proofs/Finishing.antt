-- What the steps did gives an upgraded cluster, and the plan has the files that were carried from the beginning.
use Rattle.std.proofs.Common.{◌≡◌, ◌∙◌, ℕ, sym, ap, subst}
use Rattle.std.specs.Prelude.{is_some}
use Rattle.std.specs.List.{Contains}
use Rattle.fs_model.specs.State.{FsState}
use Rattle.fs_model.specs.Trail.{Trail}
use Rattle.control_file.specs.declared.records.Control.{Control}
use Rattle.crash_safety.specs.Places.{control_at}
use Rattle.relation_files.specs.declared.relation.Relation.{Relation}
use Rattle.relation_files.specs.declared.relation.Fork.{Fork}
use Rattle.relation_files.specs.Places.{fork_files}
use Rattle.relation_files.specs.Relations.{relations_of}
use Rattle.relation_files.specs.Carried.{carried}
use Rattle.status_transfer.specs.Counted.{SetsCounters}
use Rattle.upgraded.specs.Places.{old_site}
use Rattle.upgraded.specs.Upgraded.{ReadsCatalog, Upgraded}
use Rattle.upgraded.specs.Upgrades.{Marks, Upgrades}
use Rattle.upgraded.proofs.Points.{upgraded_by_steps}
use Rattle.phases.specs.declared.transferred.Transferred.{Transferred}
use Rattle.phases.specs.Facts.{IsTransferred}
use Rattle.phases.specs.Summing.{ListsCarried}
use Rattle.phases.proofs.Beginning.{carried_from}

module _ (read : ReadsCatalog) (phase : Transferred) (opening old : Trail) (x : FsState) (fact : IsTransferred read phase opening old) (marks : Marks phase.job old.present x) where
  went : Upgrades read phase.job phase.catalog phase.plan opening.present fact.transfers.status.restored fact.transfers.status.transactions.carried fact.transfers.counted fact.transfers.disabled old.present x
  went =
      let transfers = fact.transfers in
      let status = transfers.status in
      record {
        schema = status.schema;
        status = status.transactions.status;
        counters = subst (λ (control : Control). SetsCounters status.transactions.carried (control_at phase.job.new) control.counters transfers.counted) status.opened.counters status.transactions.counted;
        plan = transfers.plan;
        disables = transfers.disables;
        files = transfers.files;
        mark = marks;
      }

  pub upgraded_then : Upgraded read phase.job phase.catalog opening.present x
  upgraded_then =
      let transfers = fact.transfers in
      let status = transfers.status in
      upgraded_by_steps read phase.job phase.catalog phase.plan opening.present status.restored status.transactions.carried transfers.counted transfers.disabled old.present x status.opened.upgradable went

  -- the same files are carried from the state at the beginning as from the one that the plan was made in
  as_begun : (relation : Relation) → Contains (relations_of phase.catalog) relation → (fork : Fork) (segment : ℕ)
      → carried fork (fork_files fact.transfers.counted (old_site phase.job phase.catalog) relation fork) segment ≡ carried fork (fork_files opening.present (old_site phase.job phase.catalog) relation fork) segment
  as_begun relation listed fork segment =
      let transfers = fact.transfers in
      let status = transfers.status in
      carried_from read phase.job phase.catalog phase.plan opening.present status.restored status.transactions.carried transfers.counted transfers.disabled old.present x status.opened.upgradable went relation listed fork segment

  pub lists_carried : ListsCarried phase.job phase.catalog opening.present phase.plan
  lists_carried =
      let planned = fact.transfers.plan in
      record {
        plan = record {
          each = λ item found.
              let file = planned.each item found in
              record {
                relation = file.relation;
                listed = file.listed;
                fork = file.fork;
                segment = file.segment;
                numbered = file.numbered;
                carried = ap is_some (sym (as_begun file.relation file.listed file.fork file.segment)) ∙ file.carried;
                from_is = file.from_is;
                to_is = file.to_is;
              };
          all = λ from to file.
              planned.all from to (record {
                relation = file.relation;
                listed = file.listed;
                fork = file.fork;
                segment = file.segment;
                numbered = file.numbered;
                carried = ap is_some (as_begun file.relation file.listed file.fork file.segment) ∙ file.carried;
                from_is = file.from_is;
                to_is = file.to_is;
              });
          ends = λ relation listed fork segment there. planned.ends relation listed fork segment (ap is_some (as_begun relation listed fork segment) ∙ there);
        };
        apart = fact.transfers.apart;
      }
