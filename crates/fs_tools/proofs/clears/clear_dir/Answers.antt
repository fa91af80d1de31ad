use Rattle.std.proofs.Common.{◌≡◌, ◌∙◌, None, refl, sym, ap, subst}
use Rattle.std.specs.List.{AllByRecursion}
use Rattle.std.proofs.lemmas.Result.{on_ok_weaker}
use Rattle.fs_model.specs.Calls.{Lists, refusal, children}
use Rattle.fs_model.specs.Trail.{DecidedBy}
use Rattle.fs_model.proofs.Going.{goes_then}
use Rattle.fs_tools.specs.Children.{paths_in, IsIn}
use Rattle.fs_tools.specs.Cleared.{unlinked, AreFree, Clears}
use Rattle.fs_tools.proofs.Reruns.{unchanged_goes, list_may_fail}
use Rattle.fs_tools.proofs.Clearing.{names_in, names_free, unlinked_empty}
use Rattle.fs_tools.proofs.clears.clear_dir.Goals as goal

pub returns-in_err-paths-clause-calls : goal.returns-in_err-paths-clause-calls
returns-in_err-paths-clause-calls g c told =
    unchanged_goes (Clears c.args.at.now) (Lists c.args.at.now) (λ s. refl) (list_may_fail c.args.at.now) (g.F.Fs.trail c.args.fs.now) (g.F.Fs.trail c.list_paths.new.fs) (c.list_paths.ensures.reads.unchanged told)

pub returns-clause-calls : goal.returns-clause-calls
returns-clause-calls g c told =
    let s = (g.F.Fs.trail c.args.fs.now).present in
    let paths : c.deref.result.now ≡ paths_in s.names c.args.at.now = (let e = c.deref.ensures.value in let f = c.in_ok-paths.ensures.paths told in cc (e, f)) in
    goes_then (Clears c.args.at.now)
    (unchanged_goes (Clears c.args.at.now) (Lists c.args.at.now) (λ s. refl) (list_may_fail c.args.at.now) (g.F.Fs.trail c.args.fs.now) (g.F.Fs.trail c.list_paths.new.fs) (c.list_paths.ensures.reads.unchanged told))
    (c.unlink_all.ensures.calls (c.list_paths.ensures.reads.told ∙ told) c.args.at.now (subst (AllByRecursion (IsIn c.args.at.now)) (sym paths) (names_in s c.args.at.now)))

pub returns-clause-decided : goal.returns-clause-decided
returns-clause-decided g c told none =
    let s = (g.F.Fs.trail c.args.fs.now).present in
    let paths : c.deref.result.now ≡ paths_in s.names c.args.at.now = (let e = c.deref.ensures.value in let f = c.in_ok-paths.ensures.paths told in cc (e, f)) in
    let is_open : refusal s (Lists c.args.at.now) ≡ None = c.in_ok-paths.ensures.decided told in
    subst (λ refused. DecidedBy refused c.unlink_all.result) (sym is_open)
    (c.unlink_all.ensures.free (c.list_paths.ensures.reads.told ∙ told)
    (subst (λ t. AreFree t c.deref.result.now) (sym (c.list_paths.ensures.reads.unchanged told).present) (subst (AreFree s) (sym paths) (names_free s c.args.at.now is_open none))))

pub returns-clause-empty : goal.returns-clause-empty
returns-clause-empty g c told =
    let s = (g.F.Fs.trail c.args.fs.now).present in
    let paths : c.deref.result.now ≡ paths_in s.names c.args.at.now = (let e = c.deref.ensures.value in let f = c.in_ok-paths.ensures.paths told in cc (e, f)) in
    on_ok_weaker c.unlink_all.result
    (λ is. ap (λ t. children t.names c.args.at.now) (is ∙ (λ i. unlinked ((c.list_paths.ensures.reads.unchanged told).present i) (paths i))) ∙ unlinked_empty s c.args.at.now)
    (c.unlink_all.ensures.unlinked (c.list_paths.ensures.reads.told ∙ told))
