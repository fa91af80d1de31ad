-- The last phase.
use Rattle.std.proofs.Common.{◌≡◌, ◌≢◌, ◌∙◌, inl, inr, ℕ, true, cond, List, [], ◌∷◌, Option, Some, None, refl, sym, ap, subst, append_assoc, MatchOption}
use Rattle.std.specs.Prelude.{is_some, codes}
use Rattle.std.specs.Cmp.{nat_cmp_total}
use Rattle.std.specs.FinMap.{get, insert, get-insert}
use Rattle.fs_model.specs.declared.node.Node.{Node}
use Rattle.fs_model.specs.declared.node.Node.TheVariants.{File}
use Rattle.fs_model.specs.declared.effect.Effect.{Effect}
use Rattle.fs_model.specs.declared.effect.Effect.TheVariants.{Nothing, NewFile, KeepBytes, KeepNames}
use Rattle.fs_model.specs.declared.error.FsError.{FsError}
use Rattle.fs_model.specs.declared.error.FsError.TheVariants.{Failed}
use Rattle.fs_model.specs.Names.{Path}
use Rattle.fs_model.specs.State.{Contents, FsState}
use Rattle.fs_model.specs.Effects.{apply}
use Rattle.fs_model.specs.Calls.{Call, Stats, Lists, ReadsAt, ReadsLink, Creates, WritesAt, MakesDir, MakesSymlink, Links, Renames, Unlinks, RemovesDir, SyncsFile, SyncsDir, Does, MayFail, MayDo, refusal}
use Rattle.fs_model.specs.WellFormed.{WellFormed}
use Rattle.fs_model.specs.Trail.{Trail, Goes}
use Rattle.fs_model.proofs.Going.{goes_then, goes_since, goes_weaker}
use Rattle.fs_model.proofs.Lookups.{set_name_here, set_name_other, insert_other, same_number_or}
use Rattle.control_file.specs.declared.job.Job.{Job}
use Rattle.control_file.specs.declared.modes.Mode.{Mode}
use Rattle.control_file.specs.declared.modes.Mode.TheVariants.{Copy, Link}
use Rattle.crash_safety.specs.Calling.{Syncs}
use Rattle.crash_safety.specs.Marked.{Marks}
use Rattle.crash_safety.specs.Sound.{Moving}
use Rattle.status_transfer.proofs.Carrying.{file_known}
use Rattle.last_sync.specs.declared.places.Places.{Places}
use Rattle.last_sync.specs.Finished.{MarksAfterSync}
use Rattle.upgraded.specs.Upgrades as upgrades
use Rattle.upgraded.specs.Places.{mark_at as their_mark_at}
use Rattle.phase_facts.specs.Places.{mark_at}
use Rattle.phases.specs.Begun.{stage_of}

pub still_stage : (mode : Mode) → stage_of mode ≡ Moving → ⊥
still_stage Copy is = cc is
still_stage Link is = cc is

-- ---- the mark has a file of its own, and all else is as it was, wherever it began

insert_none : (m : Contents) (i : ℕ) (bytes : List ℕ) (j : ℕ) → get (insert m i bytes) j ≡ None → get m j ≡ None
insert_none m i bytes j none =
    same_number_or j i (λ b. cond b (Some bytes) (get m j) ≡ None → get m j ≡ None) (λ same e. absurd (cc e)) (λ e. e) (sym (get-insert nat_cmp_total m i bytes j) ∙ none)

module _ (mark : Path) (a : FsState) where
  pub record OwnsMark (s : FsState) : Type 0 where
    pub now : upgrades.IsOwnMark mark a s
    -- an inode that isn't there yet wasn't there
    pub unused : (inode : ℕ) → get s.bytes inode ≡ None → get a.bytes inode ≡ None
    pub others : (path : Path) → path ≢ mark → get s.names path ≡ get a.names path
    pub bytes : (inode : ℕ) → is_some (get a.bytes inode) ≡ true → get s.bytes inode ≡ get a.bytes inode

  pub owns_first : get a.names mark ≡ None → OwnsMark a
  owns_first none = record {
    now = λ inode named. absurd (cc (none, named));
    unused = λ inode gone. gone;
    others = λ path other. refl;
    bytes = λ inode known. refl;
  }

  module _ (s : FsState) (owns : OwnsMark s) where
    done : (effect e : Effect) → effect ≡ e → OwnsMark (apply s e) → OwnsMark (apply s effect)
    done effect e is holds = subst (λ x. OwnsMark (apply s x)) (sym is) holds

    created : (path : Path) (inode : ℕ) → path ≡ mark → get s.bytes inode ≡ None → OwnsMark (apply s (NewFile path inode))
    created path inode same none =
        let node : Option Node = Some (File inode) in
        record {
          now = λ i named. (let here : get (apply s (NewFile path inode)).names mark ≡ node = ap (λ p. get (apply s (NewFile path inode)).names p) (sym same) ∙ set_name_here s.names path node in let one : i ≡ inode = cc (here, named) in ap (get a.bytes) one ∙ owns.unused inode none);
          unused = λ i gone. owns.unused i (insert_none s.bytes inode [] i gone);
          others = λ other differs. set_name_other s.names path node other (λ e. differs (e ∙ same)) ∙ owns.others other differs;
          bytes = λ i known. insert_other s.bytes inode [] i (λ e. (let was = owns.unused inode none in let here = ap (get a.bytes) e ∙ was in cc (here, known))) ∙ owns.bytes i known;
        }

    still : (e : Effect) → (apply s e).names ≡ s.names → (apply s e).bytes ≡ s.bytes → OwnsMark (apply s e)
    still e names bytes = record {
      now = λ inode named. owns.now inode (ap (λ m. get m mark) (sym names) ∙ named);
      unused = λ inode none. owns.unused inode (ap (λ m. get m inode) (sym bytes) ∙ none);
      others = λ path other. ap (λ m. get m path) names ∙ owns.others path other;
      bytes = λ inode known. ap (λ m. get m inode) bytes ∙ owns.bytes inode known;
    }

    does : (call : Call) (effect : Effect) → Marks mark s call → Does s call effect → OwnsMark (apply s effect)
    does (Stats path) effect allowed is = done effect Nothing is owns
    does (Lists path) effect allowed is = done effect Nothing is owns
    does (ReadsAt path) effect allowed is = done effect Nothing is owns
    does (ReadsLink path) effect allowed is = done effect Nothing is owns
    does (Creates path) effect allowed (inode, none, is) = done effect (NewFile path inode) is (created path inode allowed none)
    does (WritesAt path from bytes) effect allowed is = absurd allowed
    does (MakesDir path) effect allowed is = absurd allowed
    does (MakesSymlink path target) effect allowed is = absurd allowed
    does (Links from to) effect allowed is = absurd allowed
    does (Renames from to) effect allowed is = absurd allowed
    does (Unlinks path) effect allowed is = absurd allowed
    does (RemovesDir path) effect allowed is = absurd allowed
    does (SyncsFile path) effect allowed (inode, named, is) = done effect (KeepBytes inode) is (still (KeepBytes inode) refl refl)
    does (SyncsDir path) effect allowed is = done effect (KeepNames path) is (still (KeepNames path) refl refl)

    fails : (call : Call) (effect : Effect) → Marks mark s call → MayFail s call effect → OwnsMark (apply s effect)
    fails (WritesAt path from bytes) effect allowed may = absurd allowed
    fails call effect allowed may = elim may [ inl nothing ↦ done effect Nothing nothing owns | inr did ↦ does call effect allowed did ]

    failed : (call : Call) (effect : Effect) (refused : Option FsError) → Marks mark s call → MatchOption refused (MayFail s call effect) (λ _. effect ≡ Nothing) → OwnsMark (apply s effect)
    failed call effect None allowed may = fails call effect allowed may
    failed call effect (Some error) allowed may = done effect Nothing may owns

    pub owns_next : (call : Call) (answer : Option FsError) (effect : Effect) → Marks mark s call → MayDo s call answer effect → OwnsMark (apply s effect)
    owns_next call None effect allowed may = does call effect allowed may.1
    owns_next call (Some Failed) effect allowed may = failed call effect (refusal s call) allowed may
    owns_next call (Some error) effect allowed may = done effect Nothing may.1 owns

sync_marks : (mark : Path) (s : FsState) (call : Call) → Syncs s call → Marks mark s call
sync_marks mark s (Creates path) syncs = absurd syncs
sync_marks mark s call syncs = syncs

-- the path of the mark, in the words of both
pub one_mark : (root : Path) → mark_at root ≡ their_mark_at root
one_mark root = sym (append_assoc root (codes "pg_profile" ∷ []) (codes "done" ∷ []))

pub marks_at_end : (job : Job) (a b : Trail) → WellFormed a.present → get a.present.names (mark_at job.new) ≡ None → (places : Places) → places.mark ≡ mark_at job.new → MarksAfterSync places a b → upgrades.Marks job a.present b.present
marks_at_end job a b well none places is run =
    let mark = their_mark_at job.new in
    let same = one_mark job.new in
    let marks = subst (λ path. Goes (Marks path) run.middle b) (is ∙ same) run.marks in
    let owned = (goes_since (Marks mark) (OwnsMark mark a.present) (λ s call answer effect owns allowed may. owns_next mark a.present s owns call answer effect allowed may) (owns_first mark a.present (subst (λ path. get a.present.names path ≡ None) same none))
    (goes_then (Marks mark) (goes_weaker Syncs (Marks mark) (sync_marks mark) run.syncs) marks)).present in
    record {
      rest = record { names = owned.others; bytes = λ path inode named. owned.bytes inode (file_known a.present well path inode named) };
      own = owned.now;
    }
