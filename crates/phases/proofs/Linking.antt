-- The tablespace links of the new cluster lead to locations of the old one, whatever calls an upgrade has made.
use Rattle.std.proofs.Common.{◌≡◌, ◌∙◌, ◌++◌, inl, inr, ℕ, not, List, [], ◌∷◌, Option, Some, None, refl, sym, ap, subst, MatchOption}
use Rattle.std.specs.List.{AllByRecursion, filter}
use Rattle.std.specs.FinMap.{get}
use Rattle.fs_model.specs.declared.effect.Effect.{Effect}
use Rattle.fs_model.specs.declared.effect.Effect.TheVariants.{Nothing, NewFile, Bytes, KeepBytes, KeepNames}
use Rattle.fs_model.specs.declared.error.FsError.{FsError}
use Rattle.fs_model.specs.declared.error.FsError.TheVariants.{Failed}
use Rattle.fs_model.specs.declared.node.Node.{Node}
use Rattle.fs_model.specs.declared.node.Node.TheVariants.{Dir, File, Sym}
use Rattle.fs_model.specs.Names.{Path}
use Rattle.fs_model.specs.State.{Names, Change, FsState}
use Rattle.fs_model.specs.Effects.{apply, with_change, is_in}
use Rattle.fs_model.specs.Calls.{Call, Stats, Lists, ReadsAt, ReadsLink, Creates, WritesAt, MakesDir, MakesSymlink, Links, Renames, Unlinks, RemovesDir, SyncsFile, SyncsDir, Does, MayFail, MayDo, refusal}
use Rattle.fs_model.specs.Crash.{Settled}
use Rattle.fs_model.specs.Trail.{Trail, Goes, Unchanged}
use Rattle.fs_model.specs.WellFormed.{Each, EachPair}
use Rattle.fs_model.proofs.Lookups.{each_all_changed}
use Rattle.fs_model.proofs.Runs.{all_append, since_then, since_weaker}
use Rattle.fs_model.proofs.Going.{goes_since}
use Rattle.control_file.specs.declared.job.Job.{Job}
use Rattle.crash_safety.specs.Places.{links_at, locations, target_of}
use Rattle.crash_safety.proofs.Keeping.{all_filter}
use Rattle.crash_safety.proofs.Called.{same_effect}
use Rattle.verdicts.specs.Crashed.{IsKnownLink, MakesKnownLinks}
use Rattle.phases.specs.Facts.{LinksKnownSince}

-- a call that makes no symbolic link in the directory but to these locations
abbrev pub LinksKnown : List Path → Path → Call → Type 0
LinksKnown known dir (MakesSymlink path target) = IsKnownLink known dir path (Some (Sym target))
LinksKnown known dir call = Unit {0}

module _ (start : Names) (old new : Path) where
  abbrev Known : Path → Option Node → Type 0
  Known path node = IsKnownLink (locations start old) (links_at new) path node

  -- what is no symbolic link leads nowhere
  no_link : (path : Path) (node : Option Node) → target_of node ≡ None → Known path node
  no_link path node none name location at is = absurd (let e : target_of node ≡ Some location = ap target_of is in cc (e, none))

  -- all is on the disk, and the new cluster has no link
  pub settled_links : (s : FsState) → s.names ≡ start → Settled s → ((name : List ℕ) → get start (links_at new ++ name ∷ []) ≡ None) → MakesKnownLinks start old new s
  settled_links s same settled unlinked = record {
    kept = subst (Each Known) (sym (settled.names ∙ same))
        (λ path name location at is. absurd (let none : get start path ≡ None = ap (get start) at ∙ unlinked name in cc (is, none)));
    waiting = subst (AllByRecursion (EachPair Known)) (sym settled.nothing_pending) tt;
  }

  module _ (s : FsState) (makes : MakesKnownLinks start old new s) where
    change_known : (change : Change) → EachPair Known change → MakesKnownLinks start old new (with_change s change)
    change_known change each = record { kept = makes.kept; waiting = all_append (EachPair Known) s.pending (change ∷ []) makes.waiting (each, tt) }

    sync_known : (dir : Path) → MakesKnownLinks start old new (apply s (KeepNames dir))
    sync_known dir = record {
      kept = each_all_changed Known s.names_kept (filter (is_in dir) s.pending) makes.kept (all_filter (EachPair Known) (is_in dir) s.pending makes.waiting);
      waiting = all_filter (EachPair Known) (λ change. not (is_in dir change)) s.pending makes.waiting;
    }

    bytes_known : (inode : ℕ) (bytes : List ℕ) → MakesKnownLinks start old new (apply s (Bytes inode bytes))
    bytes_known inode bytes = record { kept = makes.kept; waiting = makes.waiting }

    done : (effect e : Effect) → effect ≡ e → MakesKnownLinks start old new (apply s e) → MakesKnownLinks start old new (apply s effect)
    done effect e is holds = same_effect (MakesKnownLinks start old new) s effect e is holds

    does_known : (call : Call) (effect : Effect) → LinksKnown (locations start old) (links_at new) call → Does s call effect → MakesKnownLinks start old new (apply s effect)
    does_known (Stats path) effect known does = done effect Nothing does makes
    does_known (Lists path) effect known does = done effect Nothing does makes
    does_known (ReadsAt path) effect known does = done effect Nothing does makes
    does_known (ReadsLink path) effect known does = done effect Nothing does makes
    does_known (Creates path) effect known (inode, none, is) =
        let there = change_known ((path, Some (File inode)) ∷ []) (no_link path (Some (File inode)) refl, tt) in
        done effect (NewFile path inode) is (record { kept = there.kept; waiting = there.waiting })
    does_known (WritesAt path from bytes) effect known (inode, named, is) = done effect _ is (bytes_known inode _)
    does_known (MakesDir path) effect known does =
        let there = change_known ((path, Some Dir) ∷ []) (no_link path (Some Dir) refl, tt) in
        done effect _ does (record { kept = there.kept; waiting = there.waiting })
    does_known (MakesSymlink path target) effect known does = done effect _ does (change_known ((path, Some (Sym target)) ∷ []) (known, tt))
    does_known (Links from to) effect known (inode, named, is) = done effect _ is (change_known ((to, Some (File inode)) ∷ []) (no_link to (Some (File inode)) refl, tt))
    does_known (Renames from to) effect known (inode, named, is) =
        done effect _ is (change_known ((from, None) ∷ (to, Some (File inode)) ∷ []) (no_link from None refl, (no_link to (Some (File inode)) refl, tt)))
    does_known (Unlinks path) effect known does = done effect _ does (change_known ((path, None) ∷ []) (no_link path None refl, tt))
    does_known (RemovesDir path) effect known does = done effect _ does (change_known ((path, None) ∷ []) (no_link path None refl, tt))
    does_known (SyncsFile path) effect known (inode, named, is) = done effect (KeepBytes inode) is (record { kept = makes.kept; waiting = makes.waiting })
    does_known (SyncsDir dir) effect known does = done effect (KeepNames dir) does (sync_known dir)

    fails_known : (call : Call) (effect : Effect) → LinksKnown (locations start old) (links_at new) call → MayFail s call effect → MakesKnownLinks start old new (apply s effect)
    fails_known (WritesAt path from bytes) effect known (inode, any, named, are_bytes, is) = done effect (Bytes inode any) is (bytes_known inode any)
    fails_known call effect known fails = elim fails [ inl nothing ↦ done effect Nothing nothing makes | inr does ↦ does_known call effect known does ]

    failed_known : (call : Call) (effect : Effect) (refused : Option FsError) → LinksKnown (locations start old) (links_at new) call → MatchOption refused (MayFail s call effect) (λ _. effect ≡ Nothing)
        → MakesKnownLinks start old new (apply s effect)
    failed_known call effect None known may = fails_known call effect known may
    failed_known call effect (Some error) known may = done effect Nothing may makes

    call_known : (call : Call) (answer : Option FsError) (effect : Effect) → LinksKnown (locations start old) (links_at new) call → MayDo s call answer effect → MakesKnownLinks start old new (apply s effect)
    call_known call None effect known may = does_known call effect known may.1
    call_known call (Some Failed) effect known may = failed_known call effect (refusal s call) known may
    call_known call (Some error) effect known may = done effect Nothing may.1 makes

-- ---- since the opening

module _ (job : Job) (opening a b : Trail) (links : LinksKnownSince job opening a) where
  abbrev Makes : FsState → Type 0
  Makes s = MakesKnownLinks opening.present.names job.old job.new s

  pub then_known : (Allowed : FsState → Call → Type 0) → ((s : FsState) (call : Call) → Allowed s call → LinksKnown (locations opening.present.names job.old) (links_at job.new) call) → Goes Allowed a b → LinksKnownSince job opening b
  then_known Allowed known goes =
      since_then Makes opening a b links
      (goes_since Allowed Makes (λ s call answer effect here allowed may. call_known opening.present.names job.old job.new s here call answer effect (known s call allowed) may) links.present goes)

  pub unchanged_known : Unchanged a b → LinksKnownSince job opening b
  unchanged_known unchanged = since_then Makes opening a b links (since_weaker (λ s. s ≡ a.present) Makes (λ s same. subst Makes (sym same) links.present) a b unchanged)

-- where all was on the disk at the opening, and the new cluster had no link
pub opening_known : (job : Job) (opening now : Trail) → ((name : List ℕ) → get opening.present.names (links_at job.new ++ name ∷ []) ≡ None) → Settled opening.present → Unchanged opening now → LinksKnownSince job opening now
opening_known job opening now unlinked settled unchanged =
    let makes = settled_links opening.present.names job.old job.new opening.present refl settled unlinked in
    since_weaker (λ s. s ≡ opening.present) (MakesKnownLinks opening.present.names job.old job.new) (λ s same. subst (MakesKnownLinks opening.present.names job.old job.new) (sym same) makes) opening now unchanged
