-- What isn't the upgrade's stays, with its bytes.
use Rattle.std.proofs.Common.{◌≡◌, ◌≢◌, inl, inr, ℕ, List, Some, sym, ◌∙◌, ap}
use Rattle.std.specs.Prelude.{is_some}
use Rattle.std.specs.FinMap.{get}
use Rattle.fs_model.specs.declared.node.Node.TheVariants.{File}
use Rattle.fs_model.specs.Names.{Path}
use Rattle.fs_model.specs.State.{FsState}
use Rattle.crash_safety.specs.Frame.{IsInside}
use Rattle.crash_safety.specs.Synced.{IsOneOf}
use Rattle.control_file.specs.declared.job.Job.{Job}
use Rattle.catalog.specs.Cluster.{Cluster}
use Rattle.status_transfer.proofs.Carrying.{file_known}
use Rattle.transfer_plan.specs.declared.plan.PlanItem.{PlanItem}
use Rattle.transfer_plan.specs.Carriable.{targets}
use Rattle.upgraded.specs.Places.{new_tops}
use Rattle.upgraded.specs.CarriedFiles.{IsCarriedFile, IsCarriedName}
use Rattle.upgraded.specs.Upgraded.{ReadsCatalog, IsMadeName, LeavesOthers}
use Rattle.upgraded.specs.Upgradable.{IsUpgradable}
use Rattle.upgraded.specs.Upgrades.{Upgrades}
use Rattle.upgraded.proofs.Steps.{target_carried}
use Rattle.upgraded.proofs.Files.{carried_then}
use Rattle.upgraded.proofs.Chain.{IsSpared, no_old_control, no_disabled, spared_name, spared_behind, control_then, kept}

module _ (read : ReadsCatalog) (job : Job) (catalog : Cluster) (items : List PlanItem) (s0 s1 s2 s3 s4 s5 x : FsState) (can : IsUpgradable read job catalog s0) (went : Upgrades read job catalog items s0 s1 s2 s3 s4 s5 x) where
  -- what was carried when the counters were set was so in the beginning
  carried_before : (from to : Path) → IsCarriedFile job catalog s3 from to → IsCarriedFile job catalog s0 from to
  carried_before from to file = record {
    relation = file.relation;
    listed = file.listed;
    fork = file.fork;
    segment = file.segment;
    numbered = file.numbered;
    carried = ap is_some (sym (carried_then read job catalog items s0 s1 s2 s3 s4 s5 x can went file.relation file.listed file.fork file.segment)) ∙ file.carried;
    from_is = file.from_is;
    to_is = file.to_is;
  }

  -- and the other way round
  pub carried_later : (from to : Path) → IsCarriedFile job catalog s0 from to → IsCarriedFile job catalog s3 from to
  carried_later from to file = record {
    relation = file.relation;
    listed = file.listed;
    fork = file.fork;
    segment = file.segment;
    numbered = file.numbered;
    carried = ap is_some (carried_then read job catalog items s0 s1 s2 s3 s4 s5 x can went file.relation file.listed file.fork file.segment) ∙ file.carried;
    from_is = file.from_is;
    to_is = file.to_is;
  }

  pub target_is_carried : (path : Path) → IsOneOf (targets items) path → IsCarriedName job catalog s0 path
  target_is_carried path one = let (from, file) = target_carried job catalog s3 items went.plan path one in (from, carried_before from path file)

  module _ (path : Path) (new : IsInside (new_tops job s0) path) (other : IsMadeName job catalog s0 path → ⊥) where
    other_spared : IsSpared job catalog items path
    other_spared = record {
      unlisted = λ what listed. other (inr (inr (inl (what, listed))));
      no_status = λ within. other (inr (inl within));
      no_control = no_old_control read job catalog items s0 s1 s2 s3 s4 s5 x can went path new;
      no_disabled = no_disabled read job catalog items s0 s1 s2 s3 s4 s5 x can went path new;
      no_target = λ one. other (inl (target_is_carried path one));
      no_mark = λ same. other (inr (inr (inr same)));
    }

    other_name : get x.names path ≡ get s0.names path
    other_name = spared_name read job catalog items s0 s1 s2 s3 s4 s5 x can went path other_spared

    other_bytes : (inode : ℕ) → get s0.names path ≡ Some (File inode) → inode ≢ went.counters.inode → get x.bytes inode ≡ get s0.bytes inode
    other_bytes inode named differs =
        went.mark.rest.bytes path inode (spared_behind read job catalog items s0 s1 s2 s3 s4 s5 x can went path other_spared ∙ named)
        ∙ kept read job catalog items s0 s1 s2 s3 s4 s5 x can went inode (file_known s0 can.well_formed path inode named) differs

  pub others_left : LeavesOthers job catalog s0 x
  others_left = record {
    names = λ path new other. other_name path new other;
    bytes = λ path new other inode named no_control. other_bytes path new other inode named
        (λ same. no_control (control_then read job catalog items s0 s1 s2 s3 s4 s5 x can went ∙ ap (λ i. Some (File i)) (sym same)));
  }
