-- Each error has its cause in a count, and what is not listed does not fail.
use Rattle.std.proofs.Common.{◌≡◌, ◌≢◌, ◌≤◌, ◌<◌, Bool, true, false, ℕ, ◌+◌, ◌-◌, ◌^◌, min, length, List, [], ◌∷◌, ◌++◌, Option, Some, None, Result, Ok, Err, refl, sym, ◌∙◌, ap, subst, arith, ⊎_elim}
use Rattle.std.specs.Prelude.{◌==◌, if◌then◌else◌, count_by, is_some, ◌||◌, MatchOption, OnOk}
use Rattle.std.specs.List.{list_any}
use Rattle.std.specs.FinMap as map
use Rattle.fs_model.specs.declared.effect.Effect.{Effect}
use Rattle.fs_model.specs.declared.effect.Effect.TheVariants.{Nothing}
use Rattle.fs_model.specs.declared.node.Node.{Node}
use Rattle.fs_model.specs.declared.node.Node.TheVariants.{Dir, File, Sym}
use Rattle.fs_model.specs.declared.error.FsError.{FsError}
use Rattle.fs_model.specs.declared.error.FsError.TheVariants.{NotEmpty, CrossDevice, CrossDir, Failed, OutOfMemory}
use Rattle.fs_model.specs.Names.{Path, same_path}
use Rattle.fs_model.specs.State.{Names, FsState}
use Rattle.fs_model.specs.Calls.{Call, Stats, Lists, ReadsAt, ReadsLink, Creates, WritesAt, MakesDir, MakesSymlink, Links, Renames, Unlinks, RemovesDir, SyncsFile, SyncsDir, or_else, refuse_if, no_dir, no_file, no_symlink, no_leaf, missing, taken, blocked, blocked_from, refusal, Does}
use Rattle.fs_model.specs.Effects.{apply}
use Rattle.fs_model.specs.Trail.{HasCause, OthersStay, error_of}
use Rattle.std.proofs.lemmas.Grind.{common_steps}
use Rattle.fs_state.proofs.Preserved.{same_cases}
use Rattle.fs_state.proofs.Ways.{or_else_none}
use Rattle.fs_mem.proofs.Replay.{may_do, state_after_push}
use Rattle.fs_mem.specs.declared.history.Failing.{Failing}
use Rattle.fs_mem.specs.History.{Done, History, Answers, Ends, listed, is_fault, is_refusal, is_firm, none_listed, spoiled, counts_of, depth_of, longest, present_of, one_done, one_lack}

-- no failure and no want of memory
abbrev IsOrdinary : Option FsError → Type 0
IsOrdinary None = Unit {0}
IsOrdinary (Some Failed) = ⊥
IsOrdinary (Some OutOfMemory) = ⊥
IsOrdinary (Some error) = Unit {0}

or_else_ordinary : (first later : Option FsError) → IsOrdinary first → IsOrdinary later → IsOrdinary (or_else first later)
or_else_ordinary None later f l = l
or_else_ordinary (Some error) later f l = f

dir_ordinary : (at : Option Node) → IsOrdinary (no_dir at)
dir_ordinary None = tt
dir_ordinary (Some Dir) = tt
dir_ordinary (Some (File inode)) = tt
dir_ordinary (Some (Sym target)) = tt

file_ordinary : (at : Option Node) → IsOrdinary (no_file at)
file_ordinary None = tt
file_ordinary (Some Dir) = tt
file_ordinary (Some (File inode)) = tt
file_ordinary (Some (Sym target)) = tt

symlink_ordinary : (at : Option Node) → IsOrdinary (no_symlink at)
symlink_ordinary None = tt
symlink_ordinary (Some Dir) = tt
symlink_ordinary (Some (File inode)) = tt
symlink_ordinary (Some (Sym target)) = tt

leaf_ordinary : (at : Option Node) → IsOrdinary (no_leaf at)
leaf_ordinary None = tt
leaf_ordinary (Some Dir) = tt
leaf_ordinary (Some (File inode)) = tt
leaf_ordinary (Some (Sym target)) = tt

missing_ordinary : (at : Option Node) → IsOrdinary (missing at)
missing_ordinary None = tt
missing_ordinary (Some node) = tt

taken_ordinary : (at : Option Node) → IsOrdinary (taken at)
taken_ordinary None = tt
taken_ordinary (Some node) = tt

refuse_ordinary : (test : Bool) (error : FsError) → IsOrdinary (Some error) → IsOrdinary (refuse_if test error)
refuse_ordinary true error h = h
refuse_ordinary false error h = tt

blocked_ordinary : (names : Names) (done rest : Path) → IsOrdinary (blocked_from names done rest)
blocked_ordinary names done [] = tt
blocked_ordinary names done (name ∷ rest) = or_else_ordinary (no_dir (map.get names done)) _ (dir_ordinary (map.get names done)) (blocked_ordinary names (done ++ name ∷ []) rest)

refusal_ordinary : (s : FsState) (call : Call) → IsOrdinary (refusal s call)
refusal_ordinary s (Stats path) = or_else_ordinary (blocked s.names path) _ (blocked_ordinary s.names [] path) (missing_ordinary (map.get s.names path))
refusal_ordinary s (Lists path) = or_else_ordinary (blocked s.names path) _ (blocked_ordinary s.names [] path) (dir_ordinary (map.get s.names path))
refusal_ordinary s (ReadsAt path) = or_else_ordinary (blocked s.names path) _ (blocked_ordinary s.names [] path) (file_ordinary (map.get s.names path))
refusal_ordinary s (ReadsLink path) = or_else_ordinary (blocked s.names path) _ (blocked_ordinary s.names [] path) (symlink_ordinary (map.get s.names path))
refusal_ordinary s (Creates path) = or_else_ordinary (blocked s.names path) _ (blocked_ordinary s.names [] path) (taken_ordinary (map.get s.names path))
refusal_ordinary s (WritesAt path from bytes) = or_else_ordinary (blocked s.names path) _ (blocked_ordinary s.names [] path) (file_ordinary (map.get s.names path))
refusal_ordinary s (MakesDir path) = or_else_ordinary (blocked s.names path) _ (blocked_ordinary s.names [] path) (taken_ordinary (map.get s.names path))
refusal_ordinary s (MakesSymlink path target) = or_else_ordinary (blocked s.names path) _ (blocked_ordinary s.names [] path) (taken_ordinary (map.get s.names path))
refusal_ordinary s (Links from to) =
    or_else_ordinary (blocked s.names from) _ (blocked_ordinary s.names [] from)
    (or_else_ordinary (blocked s.names to) _ (blocked_ordinary s.names [] to)
    (or_else_ordinary (no_file (map.get s.names from)) _ (file_ordinary (map.get s.names from))
    (or_else_ordinary (taken (map.get s.names to)) _ (taken_ordinary (map.get s.names to)) (refuse_ordinary _ CrossDevice tt))))
refusal_ordinary s (Renames from to) =
    or_else_ordinary (blocked s.names from) _ (blocked_ordinary s.names [] from)
    (or_else_ordinary (blocked s.names to) _ (blocked_ordinary s.names [] to)
    (or_else_ordinary (refuse_if _ CrossDir) _ (refuse_ordinary _ CrossDir tt)
    (or_else_ordinary (no_file (map.get s.names from)) _ (file_ordinary (map.get s.names from)) (taken_ordinary (map.get s.names to)))))
refusal_ordinary s (Unlinks path) = or_else_ordinary (blocked s.names path) _ (blocked_ordinary s.names [] path) (leaf_ordinary (map.get s.names path))
refusal_ordinary s (RemovesDir path) =
    or_else_ordinary (blocked s.names path) _ (blocked_ordinary s.names [] path) (or_else_ordinary (no_dir (map.get s.names path)) _ (dir_ordinary (map.get s.names path)) (refuse_ordinary _ NotEmpty tt))
refusal_ordinary s (SyncsFile path) = or_else_ordinary (blocked s.names path) _ (blocked_ordinary s.names [] path) (file_ordinary (map.get s.names path))
refusal_ordinary s (SyncsDir path) = or_else_ordinary (blocked s.names path) _ (blocked_ordinary s.names [] path) (dir_ordinary (map.get s.names path))

-- what is not listed does not fail
not_failed : (s : FsState) (call : Call) (answer : Option FsError) (effect : Effect) → Answers s None call answer effect → answer ≢ Some Failed
not_failed s call None effect answers e = cc
not_failed s call (Some error) effect answers e = subst IsOrdinary (answers.0 ∙ e) (refusal_ordinary s call)

listed_none : (failing : List Failing) (number : ℕ) → none_listed failing ≡ true → listed failing number ≡ None
listed_none [] number none = refl
listed_none (f ∷ failing) number none = cc

firm_answers : (old : History) (call : Call) (answer : Option FsError) (effect : Effect) → Answers (present_of old) (listed old.failing (length old.done)) call answer effect → is_firm old ≡ true → answer ≢ Some Failed
firm_answers old call answer effect answers firm =
    not_failed (present_of old) call answer effect (subst (λ l. Answers (present_of old) l call answer effect) (listed_none old.failing (length old.done) firm) answers)

count_push : (test : Done → Bool) (done : List Done) (d : Done) → count_by test (done ++ d ∷ []) ≡ count_by test done + (if test d then 1 else 0)
count_push test done d = grind (arith, common_steps)

-- a call more, by its answer
done_cause : (old : History) (effect : Effect) (answer : Option FsError) → answer ≢ Some OutOfMemory → (is_firm old ≡ true → answer ≢ Some Failed) → HasCause (is_firm old) (counts_of old) (counts_of (one_done old effect answer)) answer
done_cause old effect None memory firm =
    let d : Done = record { effect = effect; answer = None } in
    let f = count_push (λ d. is_fault d.answer) old.done d in
    let r = count_push (λ d. is_refusal d.answer) old.done d in
    record { faults = omega (arith, f); refusals = omega (arith, r); lacks = omega arith; rose = tt; told = omega (arith, f); firm_faults = λ _. omega (arith, f); firm_answer = λ _ e. cc }
done_cause old effect (Some Failed) memory firm =
    let d : Done = record { effect = effect; answer = Some Failed } in
    let f = count_push (λ d. is_fault d.answer) old.done d in
    let r = count_push (λ d. is_refusal d.answer) old.done d in
    record { faults = omega (arith, f); refusals = omega (arith, r); lacks = omega arith; rose = omega (arith, f); told = tt; firm_faults = λ h. absurd (firm h refl); firm_answer = firm }
done_cause old effect (Some OutOfMemory) memory firm = absurd (memory refl)
done_cause old effect (Some error) memory firm =
    let d : Done = record { effect = effect; answer = Some error } in
    let f = count_push (λ d. is_fault d.answer) old.done d in
    let r = count_push (λ d. is_refusal d.answer) old.done d in
    record { faults = omega (arith, f); refusals = omega (arith, r); lacks = omega arith; rose = omega (arith, r); told = omega (arith, f); firm_faults = λ _. omega (arith, f); firm_answer = firm }

one_more : (lacks : ℕ) → (lacks ≤ lacks + (if lacks == 2 ^ 64 - 1 then 0 else 1)) × (min (lacks + 1) (2 ^ 64 - 1) ≤ lacks + (if lacks == 2 ^ 64 - 1 then 0 else 1))
one_more lacks = (grind (arith, common_steps), grind (arith, common_steps))

lack_cause : (old : History) → HasCause (is_firm old) (counts_of old) (counts_of (one_lack old)) (Some OutOfMemory)
lack_cause old = record {
  faults = omega arith;
  refusals = omega arith;
  lacks = (one_more old.lacks).0;
  rose = (one_more old.lacks).1;
  told = refl;
  firm_faults = λ _. refl;
  firm_answer = λ _ e. cc;
}

pub cause : (old new : History) (call : Call) (answer : Option FsError) → Ends old call answer new → HasCause (is_firm old) (counts_of old) (counts_of new) answer
cause old new call None ends =
    subst (λ h. HasCause (is_firm old) (counts_of old) (counts_of h) None) (sym ends.2) (done_cause old ends.0 None (λ e. cc) (firm_answers old call None ends.0 ends.1))
cause old new call (Some OutOfMemory) ends = subst (λ h. HasCause (is_firm old) (counts_of old) (counts_of h) (Some OutOfMemory)) (sym ends) (lack_cause old)
cause old new call (Some error) ends =
    subst (λ h. HasCause (is_firm old) (counts_of old) (counts_of h) (Some error)) (sym ends.2) (done_cause old ends.0 (Some error) (λ e. cc) (firm_answers old call (Some error) ends.0 ends.1))

-- a call more counts its own answer alone
done_others : (old : History) (effect : Effect) (answer : Option FsError) → answer ≢ Some OutOfMemory → OthersStay (counts_of old) (counts_of (one_done old effect answer)) answer
done_others old effect None memory =
    let r = count_push (λ d. is_refusal d.answer) old.done (record { effect = effect; answer = None }) in
    record { refusals = omega (arith, r); lacks = refl }
done_others old effect (Some Failed) memory =
    let r = count_push (λ d. is_refusal d.answer) old.done (record { effect = effect; answer = Some Failed }) in
    record { refusals = omega (arith, r); lacks = refl }
done_others old effect (Some OutOfMemory) memory = absurd (memory refl)
done_others old effect (Some error) memory = record { refusals = tt; lacks = refl }

pub others : (old new : History) (call : Call) (answer : Option FsError) → Ends old call answer new → OthersStay (counts_of old) (counts_of new) answer
others old new call None ends = subst (λ h. OthersStay (counts_of old) (counts_of h) None) (sym ends.2) (done_others old ends.0 None (λ e. cc))
others old new call (Some OutOfMemory) ends = subst (λ h. OthersStay (counts_of old) (counts_of h) (Some OutOfMemory)) (sym ends) (record { refusals = refl; lacks = tt })
others old new call (Some error) ends = subst (λ h. OthersStay (counts_of old) (counts_of h) (Some error)) (sym ends.2) (done_others old ends.0 (Some error) (λ e. cc))

pub firm_kept : (old new : History) (call : Call) (answer : Option FsError) → Ends old call answer new → is_firm new ≡ is_firm old
firm_kept old new call None ends = ap is_firm ends.2
firm_kept old new call (Some OutOfMemory) ends = ap is_firm ends
firm_kept old new call (Some error) ends = ap is_firm ends.2

-- a reading call does nothing
reading_effect : (s : FsState) (listed : Option Bool) (call : Call) (answer : Option FsError) (effect : Effect) → refusal s call ≡ refusal s call → ((e : Effect) → Does s call e → e ≡ Nothing) → Answers s listed call answer effect → effect ≡ Nothing
reading_effect s None call None effect r reading answers = reading effect answers.1
reading_effect s None call (Some error) effect r reading answers = answers.1
reading_effect s (Some true) call answer effect r reading answers = matched (refusal s call) (λ (wanted, wants, e, has). e ∙ reading wanted wants.1) answers.1
  where
    matched : {P : Type 0} (refused : Option FsError) → (P → effect ≡ Nothing) → MatchOption refused P (λ _. effect ≡ Nothing) → effect ≡ Nothing
    matched None f p = f p
    matched (Some error) f p = p
reading_effect s (Some false) call answer effect r reading answers = matched (refusal s call) (λ (wanted, wants, e, has). e ∙ ap (spoiled s) (reading wanted wants.1)) answers.1
  where
    matched : {P : Type 0} (refused : Option FsError) → (P → effect ≡ Nothing) → MatchOption refused P (λ _. effect ≡ Nothing) → effect ≡ Nothing
    matched None f p = f p
    matched (Some error) f p = p

depth_done : (old : History) (effect : Effect) (answer : Option FsError) → effect ≡ Nothing → depth_of (one_done old effect answer) ≡ depth_of old
depth_done old effect answer e =
    ap (λ s. longest (map.keys s.names) + 1) (state_after_push old.opening old.done (record { effect = effect; answer = answer }) ∙ ap (apply (present_of old)) e)

pub depth_kept : (old new : History) (call : Call) (answer : Option FsError) → ((e : Effect) → Does (present_of old) call e → e ≡ Nothing) → Ends old call answer new → depth_of new ≡ depth_of old
depth_kept old new call None reading ends =
    ap depth_of ends.2 ∙ depth_done old ends.0 None (reading_effect (present_of old) (listed old.failing (length old.done)) call None ends.0 refl reading ends.1)
depth_kept old new call (Some OutOfMemory) reading ends = ap depth_of ends
depth_kept old new call (Some error) reading ends =
    ap depth_of ends.2 ∙ depth_done old ends.0 (Some error) (reading_effect (present_of old) (listed old.failing (length old.done)) call (Some error) ends.0 refl reading ends.1)

-- what stands is no longer than the longest
within : (path : Path) (paths : List Path) → list_any (same_path path) paths ≡ true → length path ≤ longest paths
within path [] stands = cc
within path (q ∷ paths) stands =
    ⊎_elim
    (λ same. let l : length path ≡ length q = ap length same in omega (arith, l))
    (λ other. let more = within path paths (ap (λ b. b || list_any (same_path path) paths) (sym other) ∙ stands) in omega (arith, more))
    (same_cases path q)

stands_shallow : (names : Names) (path : Path) → is_some (map.get names path) ≡ true → length path < longest (map.keys names) + 1
stands_shallow names path stands = let most = within path (map.keys names) (sym (map.contains_key-keys names path) ∙ stands) in omega (arith, most)

dir_stands : (at : Option Node) → no_dir at ≡ None → is_some at ≡ true
dir_stands None dir = cc
dir_stands (Some node) dir = refl

pub shallow : {T : Type 0} (old new : History) (path : Path) (result : Result T FsError) → Ends old (Lists path) (error_of result) new → OnOk result (length path < depth_of old)
shallow old new path (Ok value) ends =
    let s = present_of old in
    let may = may_do s (listed old.failing (length old.done)) (Lists path) None ends.0 ends.1 in
    stands_shallow s.names path (dir_stands (map.get s.names path) (or_else_none (blocked s.names path) (no_dir (map.get s.names path)) may.0).1)
shallow old new path (Err error) ends = tt
