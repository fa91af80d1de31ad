-- The frame at the opening, and what it says of the old cluster.
use Rattle.std.proofs.Common.{◌≡◌, ◌≢◌, ◌∙◌, ◌∷◌, [], ℕ, Bool, true, false, Some, None, inl, refl, ap, subst}
use Rattle.std.specs.Prelude.{codes}
use Rattle.std.specs.FinMap.{get}
use Rattle.fs_model.specs.declared.node.Node.TheVariants.{File}
use Rattle.fs_model.specs.Names.{Path}
use Rattle.fs_model.specs.State.{FsState}
use Rattle.fs_model.specs.Effects.{set_name}
use Rattle.fs_model.specs.WellFormed.{IsKnown}
use Rattle.fs_model.proofs.Lookups.{set_name_other}
use Rattle.control_file.specs.declared.job.Job.{Job}
use Rattle.crash_safety.specs.Frame.{IsOutside}
use Rattle.crash_safety.specs.Upgrade.{names_of, IsOldInode}
use Rattle.crash_safety.specs.Crashes.{OldKept, AsBefore}
use Rattle.crash_safety.specs.Places.{control_at, disabled_at}
use Rattle.phase_facts.specs.Places.{disables, upgrade_in}
use Rattle.phase_facts.specs.CanUpgrade.{CanBegin}
use Rattle.phase_facts.proofs.Grounds.{apart_of, new_control_inside}
use Rattle.phase_frames.specs.Framed.{IsFramed}

pub start_framed : (job : Job) (s : FsState) → IsFramed job s s
start_framed job s = record { moved = false; in_mode = λ is. absurd (cc is); names = λ path outside. refl; control = refl; bytes = λ inode other known. refl }

-- a state with the same names and bytes
pub framed_alike : (job : Job) (start s t : FsState) → t.names ≡ s.names → t.bytes ≡ s.bytes → IsFramed job start s → IsFramed job start t
framed_alike job start s t same same_bytes framed = record {
  moved = framed.moved;
  in_mode = framed.in_mode;
  names = λ path outside. ap (λ m. get m path) same ∙ framed.names path outside;
  control = ap (λ m. get m (control_at job.new)) same ∙ framed.control;
  bytes = λ inode other known. ap (λ b. get b inode) same_bytes ∙ framed.bytes inode other known;
}

not_moved : (moved : Bool) (disabling : Bool) → (moved ≡ true → disabling ≡ true) → disabling ≡ false → moved ≡ false
not_moved true disabling gives none = absurd (cc (gives refl, none))
not_moved false disabling gives none = refl

module _ (job : Job) (start s : FsState) (framed : IsFramed job start s) where
  pub names_stay : disables job.mode ≡ false → (path : Path) → IsOutside (upgrade_in job start).new_tops path → get s.names path ≡ get start.names path
  names_stay copies path outside =
      framed.names path outside ∙ ap (λ moved. get (names_of (upgrade_in job start) moved) path) (not_moved framed.moved (disables job.mode) framed.in_mode copies)

  -- the rename is one of old names
  pub elsewhere_stays : (path : Path) → IsOutside (upgrade_in job start).old_tops path → IsOutside (upgrade_in job start).new_tops path → get s.names path ≡ get start.names path
  elsewhere_stays path no_old no_new = framed.names path no_new ∙ by framed.moved
    where
      by : (moved : Bool) → get (names_of (upgrade_in job start) moved) path ≡ get start.names path
      by false = refl
      by true =
          set_name_other (set_name start.names (control_at job.old) None) (disabled_at job.old) (get start.names (control_at job.old)) path
          (λ same. no_old (inl (codes "global" ∷ codes "pg_control.old" ∷ [], same)))
          ∙ set_name_other start.names (control_at job.old) None path (λ same. no_old (inl (codes "global" ∷ codes "pg_control" ∷ [], same)))

  module _ (begins : CanBegin job start) where
    pub files_stay : (path : Path) (inode : ℕ) → get start.names path ≡ Some (File inode) → get start.names (control_at job.new) ≢ Some (File inode) → get s.bytes inode ≡ get start.bytes inode
    files_stay path inode named other = framed.bytes inode other (subst (IsKnown start.bytes start.devices path) named (begins.well_formed.names path))

    -- an old file is none of the new cluster's
    old_bytes : (inode : ℕ) → IsOldInode (upgrade_in job start) inode → get s.bytes inode ≡ get start.bytes inode
    old_bytes inode old =
        files_stay old.0 inode old.2 (λ named. begins.unshared (control_at job.new) (new_control_inside job start begins) inode named old)

    pub old_kept : OldKept (upgrade_in job start) s
    old_kept = record { moved = framed.moved; in_mode = framed.in_mode; names = framed.names; bytes = old_bytes }

    pub old_whole : disables job.mode ≡ false → AsBefore start (upgrade_in job start).old_tops s
    old_whole copies = record {
      names = λ path inside. names_stay copies path (apart_of job start begins path inside);
      bytes = λ path inode inside named. old_bytes inode (path, inside, named);
    }
