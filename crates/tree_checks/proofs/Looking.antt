-- What a look shows is what stands.
use Rattle.std.proofs.Common.{◌≡◌, ◌≢◌, ◌∙◌, true, false, Bool, List, ℕ, Option, Some, None, Result, Ok, Err, refl, sym, ap, subst}
use Rattle.std.specs.Prelude.{IfOk, is_some, if◌then◌else◌}
use Rattle.std.specs.FinMap.{get}
use Rattle.fs_model.specs.declared.error.FsError.{FsError}
use Rattle.fs_model.specs.declared.error.FsError.TheVariants.{NotFound, Exists, NotDir, WrongKind, NotEmpty, CrossDevice, CrossDir, Failed, OutOfMemory}
use Rattle.fs_model.specs.declared.node.Node.{Node}
use Rattle.fs_model.specs.declared.node.Node.TheVariants.{Dir, File, Sym}
use Rattle.fs_model.specs.Names.{Path}
use Rattle.fs_model.specs.State.{Names, FsState}
use Rattle.fs_model.specs.Calls.{Call, Stats, refusal, blocked, or_else, no_dir, no_symlink, children}
use Rattle.fs_model.specs.Reading.{stat_of, stat_of_node}
use Rattle.fs_model.specs.WellFormed.{IsTree}
use Rattle.fs_model.specs.Trail.{Trail, Counts, HasCause, Steps, DecidedBy, error_of, unless_lack}
use Rattle.fs_model.specs.Observed.{Observed, OnlyReads}
use Rattle.fs_model.proofs.Runs.{IsReading}
use Rattle.fs_model.proofs.Observing.{one_reads, reads_unless_lack}
use Rattle.fs_model.proofs.Causes.{cause_so_far}
use Rattle.crash_safety.specs.Places.{target_of}
use Rattle.fs_tools.proofs.Answering.{Decides, steps_decide, decided_by}
use Rattle.tree_checks.specs.Looks.{seen_as, kind_in, kind_at, kind_of, is_dir, names_at, IsNoRefusal}

seen_cause : {T : Type 0} (firm : Bool) (a b : Counts) (answer : Result T FsError) → HasCause firm a b (error_of answer) → HasCause firm a b (error_of (seen_as answer))
seen_cause firm a b (Ok value) cause = cause
seen_cause firm a b (Err OutOfMemory) cause = cause
seen_cause firm a b (Err Failed) cause = cause
seen_cause firm a b (Err NotFound) cause = cause_so_far firm a b (Some NotFound) tt cause
seen_cause firm a b (Err Exists) cause = cause_so_far firm a b (Some Exists) tt cause
seen_cause firm a b (Err NotDir) cause = cause_so_far firm a b (Some NotDir) tt cause
seen_cause firm a b (Err WrongKind) cause = cause_so_far firm a b (Some WrongKind) tt cause
seen_cause firm a b (Err NotEmpty) cause = cause_so_far firm a b (Some NotEmpty) tt cause
seen_cause firm a b (Err CrossDevice) cause = cause_so_far firm a b (Some CrossDevice) tt cause
seen_cause firm a b (Err CrossDir) cause = cause_so_far firm a b (Some CrossDir) tt cause

with_cause : (before after : Observed) (first answer : Option FsError) → HasCause before.firm before.counts after.counts answer → OnlyReads before after first → OnlyReads before after answer
with_cause before after first answer cause reads = record { told = reads.told; firm = reads.firm; depth = reads.depth; unchanged = reads.unchanged; cause = cause }

-- one call that reads, whose refusal shows that there is nothing
pub seen_reads : {T : Type 0} (before after : Observed) (call : Call) (answer : Result T FsError) (result : Result (Option T) FsError) → IsReading call → result ≡ seen_as answer
    → after.told ≡ before.told → after.firm ≡ before.firm → after.depth ≡ before.depth → (before.told ≡ true → Steps call (error_of answer) before.trail after.trail)
    → HasCause before.firm before.counts after.counts (error_of answer) → OnlyReads before after (unless_lack (error_of result))
seen_reads before after call answer result reading is told firm depth steps cause =
    subst (λ r. OnlyReads before after (unless_lack (error_of r))) (sym is)
    (reads_unless_lack before after (error_of (seen_as answer)) (with_cause before after (error_of answer) (error_of (seen_as answer)) (seen_cause before.firm before.counts after.counts answer cause)
    (one_reads before after call (error_of answer) reading told firm depth steps cause)))

pub seen_never : {T : Type 0} (answer : Result T FsError) → IsNoRefusal (seen_as answer)
seen_never (Ok value) = refl
seen_never (Err OutOfMemory) = tt
seen_never (Err Failed) = tt
seen_never (Err NotFound) = refl
seen_never (Err Exists) = refl
seen_never (Err NotDir) = refl
seen_never (Err WrongKind) = refl
seen_never (Err NotEmpty) = refl
seen_never (Err CrossDevice) = refl
seen_never (Err CrossDir) = refl

-- what is shown has P, where a refusal tells that nothing is there
module _ {T : Type 0} (P : Option T → Type 0) (refused : Option FsError) (nothing : (error : FsError) → refused ≡ Some error → P None) where
  seen_has : (answer : Result T FsError) → DecidedBy refused answer → IfOk answer (λ value. refused ≡ None → P (Some value)) → IfOk (seen_as answer) P
  seen_has (Ok value) by shown = shown by
  seen_has (Err OutOfMemory) by shown = tt
  seen_has (Err Failed) by shown = tt
  seen_has (Err NotFound) by shown = nothing NotFound by
  seen_has (Err Exists) by shown = nothing Exists by
  seen_has (Err NotDir) by shown = nothing NotDir by
  seen_has (Err WrongKind) by shown = nothing WrongKind by
  seen_has (Err NotEmpty) by shown = nothing NotEmpty by
  seen_has (Err CrossDevice) by shown = nothing CrossDevice by
  seen_has (Err CrossDir) by shown = nothing CrossDir by

  pub seen_shows : (call : Call) (old new : Trail) (answer : Result T FsError) (result : Result (Option T) FsError) → result ≡ seen_as answer → refusal old.present call ≡ refused → Steps call (error_of answer) old new
      → IfOk answer (λ value. refused ≡ None → P (Some value)) → IfOk result P
  seen_shows call old new answer result is same steps shown =
      subst (λ r. IfOk r P) (sym is)
      (seen_has answer (decided_by refused answer (subst (λ r. Decides r (error_of answer)) same (steps_decide call (error_of answer) old new steps))) shown)

-- what a refusal tells, in a tree
pub refused_stat : (s : FsState) (path : Path) → IsTree s.names → (error : FsError) → refusal s (Stats path) ≡ Some error → None ≡ stat_of s path
refused_stat s path tree error refused = of (get s.names path) refl
  where
    of : (node : Option Node) → get s.names path ≡ node → None ≡ stat_of_node s path node
    of None is = refl
    of (Some node) is =
        let free : blocked s.names path ≡ None = tree path (ap is_some is) in
        absurd (cc (refused, free, is))

pub refused_list : (names : Names) (path : Path) → IsTree names → (error : FsError) → or_else (blocked names path) (no_dir (get names path)) ≡ Some error → None ≡ names_at names path
refused_list names path tree error refused = of (get names path) refl
  where
    of : (node : Option Node) → get names path ≡ node → None ≡ (if is_dir (kind_of node) then Some (children names path) else None)
    of None is = refl
    of (Some Dir) is =
        let free : blocked names path ≡ None = tree path (ap is_some is) in
        absurd (cc (refused, free, is))
    of (Some (File inode)) is = refl
    of (Some (Sym target)) is = refl

pub free_list : (names : Names) (path : Path) → or_else (blocked names path) (no_dir (get names path)) ≡ None → get names path ≡ Some Dir
free_list names path free = of (blocked names path) (get names path) refl free
  where
    of : (way : Option FsError) (node : Option Node) → get names path ≡ node → or_else way (no_dir node) ≡ None → get names path ≡ Some Dir
    of (Some error) _ is free = absurd (cc free)
    of None None is free = absurd (cc free)
    of None (Some Dir) is free = is
    of None (Some (File inode)) is free = absurd (cc free)
    of None (Some (Sym target)) is free = absurd (cc free)

pub refused_link : (names : Names) (path : Path) → IsTree names → (error : FsError) → or_else (blocked names path) (no_symlink (get names path)) ≡ Some error → None ≡ target_of (get names path)
refused_link names path tree error refused = of (get names path) refl
  where
    of : (node : Option Node) → get names path ≡ node → None ≡ target_of node
    of None is = refl
    of (Some Dir) is = refl
    of (Some (File inode)) is = refl
    of (Some (Sym target)) is =
        let free : blocked names path ≡ None = tree path (ap is_some is) in
        absurd (cc (refused, free, is))

pub names_shown : (names : Names) (path : Path) (items : List (List ℕ)) → items ≡ children names path → get names path ≡ Some Dir → Some items ≡ names_at names path
names_shown names path items are dir = ap (λ i. Some i) are ∙ sym (ap (λ node. if is_dir (kind_of node) then Some (children names path) else None) dir)

pub kind_shown : (s : FsState) (path : Path) → kind_in (stat_of s path) ≡ kind_at s.names path
kind_shown s path = of (get s.names path)
  where
    of : (node : Option Node) → kind_in (stat_of_node s path node) ≡ kind_of node
    of None = refl
    of (Some Dir) = refl
    of (Some (File inode)) = refl
    of (Some (Sym target)) = refl

-- the names of a directory were shown
pub listed_is : (names : Names) (path : Path) (items : List (List ℕ)) → Some items ≡ names_at names path → items ≡ children names path
listed_is names path items = of (is_dir (kind_at names path))
  where
    of : (b : Bool) → Some items ≡ (if b then Some (children names path) else None) → items ≡ children names path
    of true is = cc is
    of false is = absurd (cc is)

pub listed_dir : (names : Names) (path : Path) (items : List (List ℕ)) → Some items ≡ names_at names path → is_dir (kind_at names path) ≡ true
listed_dir names path items = of (is_dir (kind_at names path))
  where
    of : (b : Bool) → Some items ≡ (if b then Some (children names path) else None) → b ≡ true
    of true is = refl
    of false is = absurd (cc is)

-- no directory stands there
pub unlisted_dir : (names : Names) (path : Path) → None ≡ names_at names path → is_dir (kind_at names path) ≡ false
unlisted_dir names path = of (is_dir (kind_at names path))
  where
    of : (b : Bool) → None ≡ (if b then Some (children names path) else None) → b ≡ false
    of true is = absurd (cc is)
    of false is = refl

pub unlisted_is : (names : Names) (path : Path) → None ≡ names_at names path → get names path ≢ Some Dir
unlisted_is names path is dir = let test = unlisted_dir names path is in let other : is_dir (kind_at names path) ≡ true = ap (λ node. is_dir (kind_of node)) dir in absurd (cc (test, other))
