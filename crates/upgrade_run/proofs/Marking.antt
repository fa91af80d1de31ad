-- What the phases behind the checks leave, with the catalog that was read.
use Rattle.std.proofs.Common.{◌≡◌, ◌∙◌, ◌⊎◌, Bool, true, false, None, Ok, inl, inr, ap, subst}
use Rattle.std.specs.Prelude.{◌-◌, ◌^◌, min, length, is_some}
use Rattle.std.specs.FinMap.{get}
use Rattle.fs_model.specs.declared.effect.Effect.{Effect}
use Rattle.fs_model.specs.State.{FsState}
use Rattle.fs_model.specs.Calls.{Renames, Does}
use Rattle.fs_model.specs.Crash.{Settled, Image}
use Rattle.fs_model.specs.Effects.{apply}
use Rattle.fs_model.specs.Trail.{Trail, EachCrash}
use Rattle.fs_model.proofs.Runs.{since_weaker}
use Rattle.fs_model.proofs.Going.{since_both}
use Rattle.control_file.specs.declared.job.Job.{Job}
use Rattle.control_file.specs.declared.releases.Release.TheVariants.{V15}
use Rattle.catalog.specs.Cluster.{Cluster}
use Rattle.catalog_server.specs.Profile.{profile_of}
use Rattle.crash_safety.specs.Crashes.{IsSafe, AsBefore}
use Rattle.crash_safety.specs.Places.{control_at, disabled_at}
use Rattle.crash_safety.specs.Upgrade.{IsReady}
use Rattle.last_sync.specs.Finished.{IsFileAt}
use Rattle.verdicts.specs.Crashed.{upgrade_to_16, MakesKnownLinks}
use Rattle.verdicts.specs.Verdicts.{Stands}
use Rattle.verdicts.proofs.Crashing.{safe_verdict, known_links}
use Rattle.verdicts.proofs.NamedBack.{restored}
use Rattle.upgraded.specs.Upgraded.{ReadsCatalog, Upgraded}
use Rattle.phase_names.specs.declared.summary.Summary.{Summary}
use Rattle.phase_facts.specs.Places.{disables, upgrade_in, mark_at}
use Rattle.phase_facts.specs.CanUpgrade.{CanBegin}
use Rattle.phase_facts.specs.Held.{IsSafeSince, ShowsNoMark}
use Rattle.phase_facts.specs.Finishing.{IsMarkedSince}
use Rattle.phase_facts.proofs.Grounds.{ready_of}
use Rattle.phase_facts.proofs.Crashing.{safe_facts, no_mark, marked_facts}
use Rattle.phases.specs.declared.finished.Finished.{Finished}
use Rattle.phases.specs.Facts.{LinksKnownSince, IsFinished}
use Rattle.phases.specs.Summing.{tables_in, Summarizes, ListsCarried}
use Rattle.upgrade_run.specs.Ends.{ShowsUpgraded, CanGoBack, CrashesSafely, EndsFinished}

-- ---- what a report on a crash says

module _ (job : Job) (opening now : Trail) (begins : CanBegin job opening.present) (settled : Settled opening.present) where
  stood : Stands opening.present (control_at job.old)
  stood = ap is_some begins.control.1

  ready : IsReady (upgrade_in job opening.present)
  ready = ready_of job opening.present begins settled

  named_back : (b : Bool) → b ≡ true → IsReady (upgrade_to_16 opening.present job.old job.new b) → (x : FsState) → IsSafe (upgrade_to_16 opening.present job.old job.new b) x → (effect : Effect)
      → Does x (Renames (disabled_at job.old) (control_at job.old)) effect → AsBefore opening.present (upgrade_in job opening.present).old_tops (apply x effect)
  named_back true is can x safe effect does = restored opening.present job.old job.new can x safe effect does
  named_back false is can x safe effect does = absurd (cc is)

  goes_back : (s x : FsState) → Image s x → IsSafe (upgrade_in job opening.present) x → MakesKnownLinks opening.present.names job.old job.new s → CanGoBack job opening.present x
  goes_back s x image safe makes = record {
    verdict = safe_verdict opening.present job.old job.new (disables job.mode) ready x safe stood (known_links opening.present.names job.old job.new s x makes image);
    named_back = λ links effect does. named_back (disables job.mode) links ready x safe effect does;
  }

  can_go_back : EachCrash (IsSafe (upgrade_in job opening.present)) opening now → LinksKnownSince job opening now → EachCrash (CanGoBack job opening.present) opening now
  can_go_back safe links =
      let Safe : FsState → Type 0 = λ s. (x : FsState) → Image s x → IsSafe (upgrade_in job opening.present) x in
      let Makes : FsState → Type 0 = λ s. MakesKnownLinks opening.present.names job.old job.new s in
      since_weaker (λ s. Safe s × Makes s) (λ s. (x : FsState) → Image s x → CanGoBack job opening.present x) (λ s (each, makes) x image. goes_back s x image (each x image) makes) opening now (since_both Safe Makes opening now safe links)

-- ---- the mark

-- before the last phase no crash shows the mark
pub before_mark : (read : ReadsCatalog) (job : Job) (opening now : Trail) → CanBegin job opening.present → Settled opening.present → IsSafeSince job opening now → LinksKnownSince job opening now → CrashesSafely read job opening now
before_mark read job opening now begins settled safe links = record {
  old = safe_facts job opening now begins settled safe;
  reported = can_go_back job opening now begins settled (safe_facts job opening now begins settled safe).safe links;
  marked = since_weaker (λ s. (x : FsState) → Image s x → ShowsNoMark job x) (λ s. (x : FsState) → Image s x → ShowsUpgraded read job opening.present x)
      (λ s each x image. inl (each x image)) opening now (no_mark job opening now begins settled safe);
}

-- after it each that does shows an upgraded cluster
pub with_mark : (read : ReadsCatalog) (job : Job) (catalog : Cluster) (opening before now : Trail) → CanBegin job opening.present → Settled opening.present
    → read job.old V15 (profile_of opening.present job.old) ≡ Ok catalog → IsMarkedSince job opening before now
    → EachCrash (λ x. (get x.names (mark_at job.new) ≡ None) ⊎ Upgraded read job catalog opening.present x) opening now → LinksKnownSince job opening now → CrashesSafely read job opening now
with_mark read job catalog opening before now begins settled reading marked crashes links = record {
  old = marked_facts job opening now begins settled before marked;
  reported = can_go_back job opening now begins settled (marked_facts job opening now begins settled before marked).safe links;
  marked = since_weaker (λ s. (x : FsState) → Image s x → (get x.names (mark_at job.new) ≡ None) ⊎ Upgraded read job catalog opening.present x) (λ s. (x : FsState) → Image s x → ShowsUpgraded read job opening.present x)
      (λ s each x image. shows x (each x image)) opening now crashes;
}
  where
    shows : (x : FsState) → (get x.names (mark_at job.new) ≡ None) ⊎ Upgraded read job catalog opening.present x → ShowsUpgraded read job opening.present x
    shows x (inl none) = inl none
    shows x (inr upgraded) = inr (record { catalog = catalog; reading = reading; upgraded = upgraded })

-- the last phase's own result, in the words of the run
pub ends_finished : (read : ReadsCatalog) (job : Job) (catalog : Cluster) (opening now : Trail) (finished : Finished) (summary : Summary)
    → finished.job ≡ job → finished.catalog ≡ catalog → read job.old V15 (profile_of opening.present job.old) ≡ Ok catalog
    → IsFinished read finished opening now → Summarizes finished.catalog finished.plan summary → EndsFinished read job opening.present now.present summary
ends_finished read job catalog opening now finished summary same kept reading fact counts = record {
  settled = fact.settled;
  marked = subst (λ (j : Job). IsFileAt now.present (mark_at j.new)) same fact.marked;
  is_upgraded = record {
    catalog = catalog;
    reading = reading;
    upgraded = subst (λ (c : Cluster). Upgraded read job c opening.present now.present) kept (subst (λ (j : Job). Upgraded read j finished.catalog opening.present now.present) same fact.upgraded);
  };
  databases = counts.databases ∙ ap (λ (c : Cluster). length c.databases) kept;
  tables = counts.tables ∙ ap (λ (c : Cluster). min (tables_in c.databases) (2 ^ 64 - 1)) kept;
  files = (
    finished.plan,
    subst (λ (c : Cluster). ListsCarried job c opening.present finished.plan) kept (subst (λ (j : Job). ListsCarried j finished.catalog opening.present finished.plan) same fact.carried),
    counts.files,
  );
}
