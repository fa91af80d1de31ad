use Rattle.std.proofs.Common.{◌≡◌, ◌∙◌, inr, refl, ℕ, Bool, List, Option, Some, None, Result, Ok, Err, sym, ap, subst}
use Rattle.std.specs.Prelude.{IfOk, IfErr, is_some, not, if◌then◌else◌}
use Rattle.std.specs.Option.{option_map}
use Rattle.std.specs.List.{find}
use Rattle.fs_model.specs.declared.error.FsError.{FsError}
use Rattle.fs_model.specs.declared.error.FsError.TheVariants.{OutOfMemory}
use Rattle.fs_model.specs.Names.{Path}
use Rattle.fs_model.specs.State.{Names, FsState}
use Rattle.fs_model.specs.Calls.{children}
use Rattle.fs_model.specs.Trail.{error_of, unless_lack}
use Rattle.fs_model.specs.WellFormed.{WellFormed}
use Rattle.fs_model.specs.Observed.{OnlyReads}
use Rattle.fs_model.proofs.Observing.{reads_then}
use Rattle.fs_tools.specs.Children.{child_of}
use Rattle.tree_checks.specs.Findings.{IsLeast}
use Rattle.tree_checks.specs.Looks.{names_at}
use Rattle.tree_checks.specs.NewDirs.{IsNameIn}
use Rattle.tree_checks.specs.MissingDirs.{IsBadStatus, IsMixedDir, IsNoDir, is_no_file_in}
use Rattle.tree_checks.proofs.Looking.{listed_is, listed_dir}
use Rattle.tree_checks.proofs.Leasts.{listed_least}
use Rattle.tree_checks.proofs.missing.bad_status.Goals as goal

-- a directory is mixed where a name that isn't one of a file is found in it
mixed : (names : Names) (dir : Path) (first : Option (List ℕ)) → IsLeast (IsNameIn names dir (is_no_file_in names dir)) (option_map (child_of dir) first) → IsMixedDir names dir (if is_some first then Some dir else None)
mixed names dir None least = least
mixed names dir (Some name) least = (refl, child_of dir name, least.0)

bad_names : (names : Names) (dir : Path) (items : List (List ℕ)) (found : Bool) → Some items ≡ names_at names dir → found ≡ is_some (find (is_no_file_in names dir) items) → IsBadStatus names dir (if found then Some dir else None)
bad_names names dir items found listed is =
    of (if found then Some dir else None) (subst (IsMixedDir names dir) (ap (λ b. if b then Some dir else None) (sym (is ∙ ap (λ l. is_some (find (is_no_file_in names dir) l)) (listed_is names dir items listed))))
    (mixed names dir (find (is_no_file_in names dir) (children names dir)) (listed_least names dir (is_no_file_in names dir))))
  where
    stands : IsNoDir names dir None
    stands = ap (λ b. if not b then Some dir else None) (sym (listed_dir names dir items listed))

    of : (o : Option Path) → IsMixedDir names dir o → IsBadStatus names dir o
    of None none = (stands, none)
    of (Some path) other = inr (stands, other)

copied : (names : Names) (dir : Path) (result : Result (Option Path) FsError) → IfOk result (λ copy. copy ≡ Some dir) → IsBadStatus names dir (Some dir) → IfOk result (IsBadStatus names dir)
copied names dir (Err error) is bad = tt
copied names dir (Ok copy) is bad = subst (IsBadStatus names dir) (sym is) bad

only_lacks : (result : Result (Option Path) FsError) → IfErr result (λ error. error ≡ OutOfMemory) → unless_lack (error_of result) ≡ None
only_lacks (Ok copy) is = refl
only_lacks (Err error) is = ap (λ e. unless_lack (Some e)) is

pub returns-in-Ok-true-clause-reads : goal.returns-in-Ok-true-clause-reads
returns-in-Ok-true-clause-reads g c =
    subst (λ u. OnlyReads (record { told = g.F.Fs.told c.args.fs.now; firm = g.F.Fs.firm c.args.fs.now; depth = g.F.Fs.depth c.args.fs.now; trail = g.F.Fs.trail c.args.fs.now; counts = g.F.Fs.counts c.args.fs.now })
    (record { told = g.F.Fs.told c.has_no_file.new.fs; firm = g.F.Fs.firm c.has_no_file.new.fs; depth = g.F.Fs.depth c.has_no_file.new.fs; trail = g.F.Fs.trail c.has_no_file.new.fs; counts = g.F.Fs.counts c.has_no_file.new.fs }) u)
    (sym (only_lacks c.copy_of.result c.copy_of.ensures.lack)) (reads_then _ _ _ None None tt c.in-Ok-Some.ensures.reads c.in-Ok-true.ensures.reads)

pub returns-in-Ok-true-clause-finds : goal.returns-in-Ok-true-clause-finds
returns-in-Ok-true-clause-finds g c told formed =
    let s = (g.F.Fs.trail c.args.fs.now).present in
    let same = (c.in-Ok-Some.ensures.reads.unchanged told).present in
    let listed = c.in-Ok-Some.ensures.shows told formed in
    let found : c.in-Ok-true.field-0 ≡ is_some (find (is_no_file_in s.names c.args.dir.now) c.deref.result.now) =
    subst (λ (t : FsState). c.in-Ok-true.field-0 ≡ is_some (find (is_no_file_in t.names c.args.dir.now) c.deref.result.now)) same
    (c.in-Ok-true.ensures.finds (c.in-Ok-Some.ensures.reads.told ∙ told) (subst WellFormed (sym same) formed)) in
    let bad = bad_names s.names c.args.dir.now c.in-Ok-Some.names.items c.in-Ok-true.field-0 (ap (λ o. option_map (λ n. n.items) o) (sym c.in-Ok-Some.field-0-is) ∙ listed)
    (subst (λ l. c.in-Ok-true.field-0 ≡ is_some (find (is_no_file_in s.names c.args.dir.now) l)) c.deref.ensures.value found) in
    copied s.names c.args.dir.now c.copy_of.result c.copy_of.ensures.same (subst (λ b. IsBadStatus s.names c.args.dir.now (if b then Some c.args.dir.now else None)) c.in-Ok-true.field-0-test bad)

pub returns-in-Ok-false-clause-reads : goal.returns-in-Ok-false-clause-reads
returns-in-Ok-false-clause-reads g c = reads_then _ _ _ None None tt c.in-Ok-Some.ensures.reads c.in-Ok-false.ensures.reads

pub returns-in-Ok-false-clause-finds : goal.returns-in-Ok-false-clause-finds
returns-in-Ok-false-clause-finds g c told formed =
    let s = (g.F.Fs.trail c.args.fs.now).present in
    let same = (c.in-Ok-Some.ensures.reads.unchanged told).present in
    let listed = c.in-Ok-Some.ensures.shows told formed in
    let found : c.in-Ok-false.field-0 ≡ is_some (find (is_no_file_in s.names c.args.dir.now) c.deref.result.now) =
    subst (λ (t : FsState). c.in-Ok-false.field-0 ≡ is_some (find (is_no_file_in t.names c.args.dir.now) c.deref.result.now)) same
    (c.in-Ok-false.ensures.finds (c.in-Ok-Some.ensures.reads.told ∙ told) (subst WellFormed (sym same) formed)) in
    let bad = bad_names s.names c.args.dir.now c.in-Ok-Some.names.items c.in-Ok-false.field-0 (ap (λ o. option_map (λ n. n.items) o) (sym c.in-Ok-Some.field-0-is) ∙ listed)
    (subst (λ l. c.in-Ok-false.field-0 ≡ is_some (find (is_no_file_in s.names c.args.dir.now) l)) c.deref.ensures.value found) in
    subst (λ b. IsBadStatus s.names c.args.dir.now (if b then Some c.args.dir.now else None)) c.in-Ok-false.field-0-test bad

pub returns-in-Ok-Some-clause-reads : goal.returns-in-Ok-Some-clause-reads
returns-in-Ok-Some-clause-reads g c = reads_then _ _ _ None (unless_lack (Some c.in-Err-has_no_file.error)) tt c.in-Ok-Some.ensures.reads c.in-Err-has_no_file.ensures.reads
