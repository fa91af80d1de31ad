-- Trees that are put on the disk one after another.
use Rattle.std.proofs.Common.{◌∙◌, List, [], ◌∷◌, inl, inr, sym, ap, subst}
use Rattle.std.specs.List.{AllByRecursion}
use Rattle.std.specs.FinMap.{get}
use Rattle.fs_model.specs.Names.{Path}
use Rattle.fs_model.specs.State.{FsState}
use Rattle.fs_model.specs.Trail.{Trail, Goes}
use Rattle.fs_model.proofs.Going.{goes_then, goes_weaker}
use Rattle.crash_safety.specs.Calling.{Syncs}
use Rattle.crash_safety.specs.Synced.{IsSynced, AreQuiet}
use Rattle.fs_tools.specs.TreeSync.{SyncsFiles, SyncsDirs, SyncsTree, IsQuiet, OnlySyncs}
use Rattle.fs_tools.proofs.TreeSyncing.{files_sync, dirs_sync}

-- the sync of a tree is a run of syncs
pub tree_goes : (top : Path) (a b : Trail) → SyncsTree top a b → Goes Syncs a b
tree_goes top a b (mid, files, dirs) = goes_then Syncs (goes_weaker (SyncsFiles top) Syncs (files_sync top) files) (goes_weaker (SyncsDirs top) Syncs (dirs_sync top) dirs)

-- trees that are on the disk stay so
pub still_synced : (tops : List Path) (a b : FsState) → OnlySyncs a b → IsSynced tops a → IsSynced tops b
still_synced tops a b syncs synced = record {
  clean = λ path inode inside named. syncs.clean inode (synced.clean path inode inside (ap (λ names. get names path) (sym syncs.names) ∙ named));
  quiet = λ dir inside stands. syncs.quiet dir (synced.quiet dir inside (ap (λ names. get names dir) (sym syncs.names) ∙ stands));
}

-- trees that are each on the disk
pub all_synced : (tops : List Path) (s : FsState) → AllByRecursion (λ top. IsSynced (top ∷ []) s) tops → IsSynced tops s
all_synced [] s all = record { clean = λ path inode none. absurd none; quiet = λ dir none. absurd none }
all_synced (top ∷ tops) s all =
    let rest = all_synced tops s all.1 in
    record {
      clean = λ path inode inside named. elim inside [ inl under ↦ all.0.clean path inode (inl under) named | inr later ↦ rest.clean path inode later named ];
      quiet = λ dir inside stands. elim inside [ inl under ↦ all.0.quiet dir (inl under) stands | inr later ↦ rest.quiet dir later stands ];
    }

-- directories in which nothing waits
pub all_quiet : (holders : List Path) (s : FsState) → AllByRecursion (λ holder. IsQuiet holder s.pending) holders → AreQuiet holders s
all_quiet [] s all = λ dir none stands. absurd none
all_quiet (holder ∷ holders) s all = λ dir one stands. elim one [ inl same ↦ subst (λ d. IsQuiet d s.pending) (sym same) all.0 | inr later ↦ all_quiet holders s all.1 dir later stands ]
