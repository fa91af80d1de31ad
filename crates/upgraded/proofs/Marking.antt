-- The mark has a file of its own, in every state of the last phase and in every crash of it, and all else is as it was.
use Rattle.std.proofs.Common.{◌≡◌, ◌≢◌, inl, inr, ℕ, Bool, true, false, not, cond, List, [], ◌∷◌, Option, Some, None, refl, sym, ◌∙◌, ap, subst, MatchOption}
use Rattle.std.specs.Prelude.{is_some}
use Rattle.std.specs.List.{AllByRecursion, filter}
use Rattle.std.specs.Cmp.{nat_cmp_total}
use Rattle.std.specs.FinMap.{get, insert, get-insert}
use Rattle.fs_model.specs.declared.node.Node.{Node}
use Rattle.fs_model.specs.declared.node.Node.TheVariants.{Dir, File, Sym}
use Rattle.fs_model.specs.declared.effect.Effect.{Effect}
use Rattle.fs_model.specs.declared.effect.Effect.TheVariants.{Nothing, NewFile, KeepBytes, KeepNames}
use Rattle.fs_model.specs.declared.error.FsError.{FsError}
use Rattle.fs_model.specs.declared.error.FsError.TheVariants.{Failed}
use Rattle.fs_model.specs.Names.{Path}
use Rattle.fs_model.specs.State.{Names, Contents, Change, FsState}
use Rattle.fs_model.specs.Effects.{apply, set_name, is_in, all_changed}
use Rattle.fs_model.specs.Calls.{Call, Stats, Lists, ReadsAt, ReadsLink, Creates, WritesAt, MakesDir, MakesSymlink, Links, Renames, Unlinks, RemovesDir, SyncsFile, SyncsDir, Does, MayFail, MayDo, refusal}
use Rattle.fs_model.specs.Crash.{Image, is_reached}
use Rattle.fs_model.specs.WellFormed.{Each, EachPair, WellFormed}
use Rattle.fs_model.specs.Trail.{Trail, Goes, Since, EachCrash}
use Rattle.fs_model.proofs.Going.{goes_then, goes_since, goes_weaker}
use Rattle.fs_model.proofs.Lookups.{each_set, each_all_changed, set_name_other, insert_other, same_number_or}
use Rattle.fs_model.proofs.Runs.{all_append, all_weaker, since_weaker}
use Rattle.crash_safety.specs.Calling.{Syncs}
use Rattle.crash_safety.specs.Lacks.{Lacks, IsGoneAt}
use Rattle.crash_safety.specs.Marked.{SameButMark, Marks}
use Rattle.crash_safety.proofs.Keeping.{all_filter, each_pair_weaker}
use Rattle.crash_safety.proofs.WithinImages.{picked_all, get-reached}
use Rattle.status_transfer.proofs.Carrying.{file_known}
use Rattle.upgraded.specs.Upgrades.{IsOwnMark}

insert_none : (m : Contents) (i : ℕ) (bytes : List ℕ) (j : ℕ) → get (insert m i bytes) j ≡ None → get m j ≡ None
insert_none m i bytes j none =
    same_number_or j i (λ b. cond b (Some bytes) (get m j) ≡ None → get m j ≡ None) (λ same e. absurd (cc e)) (λ e. e) (sym (get-insert nat_cmp_total m i bytes j) ∙ none)

module _ (mark : Path) (a : FsState) where
  -- a file at the mark is none that was there
  abbrev IsOwnAt : Path → Option Node → Type 0
  IsOwnAt path node = path ≡ mark → (inode : ℕ) → node ≡ Some (File inode) → get a.bytes inode ≡ None

  pub record OwnsMark (s : FsState) : Type 0 where
    pub now : Each IsOwnAt s.names
    pub kept : Each IsOwnAt s.names_kept
    pub waiting : AllByRecursion (EachPair IsOwnAt) s.pending
    -- an inode that isn't there yet wasn't there
    pub unused : (inode : ℕ) → get s.bytes inode ≡ None → get a.bytes inode ≡ None
    pub others : (path : Path) → path ≢ mark → get s.names path ≡ get a.names path
    pub bytes : (inode : ℕ) → is_some (get a.bytes inode) ≡ true → get s.bytes inode ≡ get a.bytes inode

  none_at : (names : Names) → get names mark ≡ None → Each IsOwnAt names
  none_at names none path same inode named = absurd (let gone = ap (get names) (sym same) in let there : get names mark ≡ Some (File inode) = gone ∙ named in cc (none, there))

  pub owns_first : Lacks mark a → OwnsMark a
  owns_first lacks = record {
    now = none_at a.names lacks.now;
    kept = none_at a.names_kept lacks.kept;
    waiting = all_weaker (EachPair (IsGoneAt mark)) (EachPair IsOwnAt) (λ change. each_pair_weaker (IsGoneAt mark) IsOwnAt (λ path node gone same inode named. absurd (let none = gone same in cc (none, named))) change) a.pending lacks.waiting;
    unused = λ inode none. none;
    others = λ path other. refl;
    bytes = λ inode known. refl;
  }

  module _ (s : FsState) (owns : OwnsMark s) where
    done : (effect e : Effect) → effect ≡ e → OwnsMark (apply s e) → OwnsMark (apply s effect)
    done effect e is holds = subst (λ x. OwnsMark (apply s x)) (sym is) holds

    created : (path : Path) (inode : ℕ) → path ≡ mark → get s.bytes inode ≡ None → OwnsMark (apply s (NewFile path inode))
    created path inode same none =
        let node : Option Node = Some (File inode) in
        let own : IsOwnAt path node = λ _ i is. (let one : i ≡ inode = cc is in ap (get a.bytes) one ∙ owns.unused inode none) in
        record {
          now = each_set IsOwnAt s.names path node owns.now own;
          kept = owns.kept;
          waiting = all_append (EachPair IsOwnAt) s.pending (((path, node) ∷ []) ∷ []) owns.waiting ((own, tt), tt);
          unused = λ i gone. owns.unused i (insert_none s.bytes inode [] i gone);
          others = λ other differs. set_name_other s.names path node other (λ e. differs (e ∙ same)) ∙ owns.others other differs;
          bytes = λ i known. insert_other s.bytes inode [] i (λ e. (let was = owns.unused inode none in let here = ap (get a.bytes) e ∙ was in cc (here, known))) ∙ owns.bytes i known;
        }

    kept_bytes : (inode : ℕ) → OwnsMark (apply s (KeepBytes inode))
    kept_bytes inode = record { now = owns.now; kept = owns.kept; waiting = owns.waiting; unused = owns.unused; others = owns.others; bytes = owns.bytes }

    kept_names : (dir : Path) → OwnsMark (apply s (KeepNames dir))
    kept_names dir = record {
      now = owns.now;
      kept = each_all_changed IsOwnAt s.names_kept (filter (is_in dir) s.pending) owns.kept (all_filter (EachPair IsOwnAt) (is_in dir) s.pending owns.waiting);
      waiting = all_filter (EachPair IsOwnAt) (λ change. not (is_in dir change)) s.pending owns.waiting;
      unused = owns.unused;
      others = owns.others;
      bytes = owns.bytes;
    }

    does : (call : Call) (effect : Effect) → Marks mark s call → Does s call effect → OwnsMark (apply s effect)
    does (Stats path) effect allowed is = done effect Nothing is owns
    does (Lists path) effect allowed is = done effect Nothing is owns
    does (ReadsAt path) effect allowed is = done effect Nothing is owns
    does (ReadsLink path) effect allowed is = done effect Nothing is owns
    does (Creates path) effect allowed (inode, none, is) = done effect (NewFile path inode) is (created path inode allowed none)
    does (WritesAt path from bytes) effect allowed is = absurd allowed
    does (MakesDir path) effect allowed is = absurd allowed
    does (MakesSymlink path target) effect allowed is = absurd allowed
    does (Links from to) effect allowed is = absurd allowed
    does (Renames from to) effect allowed is = absurd allowed
    does (Unlinks path) effect allowed is = absurd allowed
    does (RemovesDir path) effect allowed is = absurd allowed
    does (SyncsFile path) effect allowed (inode, named, is) = done effect (KeepBytes inode) is (kept_bytes inode)
    does (SyncsDir path) effect allowed is = done effect (KeepNames path) is (kept_names path)

    fails : (call : Call) (effect : Effect) → Marks mark s call → MayFail s call effect → OwnsMark (apply s effect)
    fails (WritesAt path from bytes) effect allowed may = absurd allowed
    fails call effect allowed may = elim may [ inl nothing ↦ done effect Nothing nothing owns | inr did ↦ does call effect allowed did ]

    failed : (call : Call) (effect : Effect) (refused : Option FsError) → Marks mark s call → MatchOption refused (MayFail s call effect) (λ _. effect ≡ Nothing) → OwnsMark (apply s effect)
    failed call effect None allowed may = fails call effect allowed may
    failed call effect (Some error) allowed may = done effect Nothing may owns

    pub owns_next : (call : Call) (answer : Option FsError) (effect : Effect) → Marks mark s call → MayDo s call answer effect → OwnsMark (apply s effect)
    owns_next call None effect allowed may = does call effect allowed may.1
    owns_next call (Some Failed) effect allowed may = failed call effect (refusal s call) allowed may
    owns_next call (Some error) effect allowed may = done effect Nothing may.1 owns

    pub owns_now : IsOwnMark mark a s
    owns_now inode named = owns.now mark refl inode named

    pub owns_same : WellFormed a → SameButMark mark a s
    owns_same well = record { names = owns.others; bytes = λ path inode named. owns.bytes inode (file_known a well path inode named) }

    some_reached : (b : Bool) (found : Option Node) (inode : ℕ) → cond b found None ≡ Some (File inode) → found ≡ Some (File inode)
    some_reached true found inode e = e
    some_reached false found inode e = absurd (cc e)

    pub owns_image : (x : FsState) → Image s x → IsOwnMark mark a x
    owns_image x image inode named =
        let left = all_changed s.names_kept image.picked in
        let each = each_all_changed IsOwnAt s.names_kept image.picked owns.kept (picked_all (EachPair IsOwnAt) image.some owns.waiting) in
        each mark refl inode (some_reached (is_reached left mark) (get left mark) inode (sym (get-reached left mark) ∙ sym (ap (λ (m : Names). get m mark) image.names) ∙ named))

sync_marks : (mark : Path) (s : FsState) (call : Call) → Syncs s call → Marks mark s call
sync_marks mark s (Creates path) syncs = absurd syncs
sync_marks mark s call syncs = syncs

module _ (mark : Path) (a m b : Trail) (lacks : Lacks mark a.present) (syncs : Goes Syncs a m) (marks : Goes (Marks mark) m b) where
  owned : Since (OwnsMark mark a.present) a b
  owned =
      goes_since (Marks mark) (OwnsMark mark a.present) (λ s call answer effect owns allowed may. owns_next mark a.present s owns call answer effect allowed may) (owns_first mark a.present lacks)
      (goes_then (Marks mark) (goes_weaker Syncs (Marks mark) (sync_marks mark) syncs) marks)

  pub own_states : Since (IsOwnMark mark a.present) a b
  own_states = since_weaker (OwnsMark mark a.present) (IsOwnMark mark a.present) (λ s owns. owns_now mark a.present s owns) a b owned

  pub own_crashes : EachCrash (IsOwnMark mark a.present) a b
  own_crashes = since_weaker (OwnsMark mark a.present) (λ s. (x : FsState) → Image s x → IsOwnMark mark a.present x) (λ s owns x image. owns_image mark a.present s owns x image) a b owned

  pub same_states : WellFormed a.present → Since (SameButMark mark a.present) a b
  same_states well = since_weaker (OwnsMark mark a.present) (SameButMark mark a.present) (λ s owns. owns_same mark a.present s owns well) a b owned
