use Rattle.std.proofs.Common.{◌≡◌, ◌∙◌, ℕ, Bool, List, Option, Some, None, Result, Ok, Err, sym, ap, subst}
use Rattle.std.specs.Prelude.{IfOk}
use Rattle.std.specs.Option.{option_map}
use Rattle.std.specs.List.{find}
use Rattle.fs_model.specs.declared.error.FsError.{FsError}
use Rattle.fs_model.specs.Names.{Path}
use Rattle.fs_model.specs.State.{Names}
use Rattle.fs_tools.specs.Children.{child_of}
use Rattle.tree_checks.specs.Findings.{IsLeast}
use Rattle.tree_checks.specs.Looks.{names_at}
use Rattle.tree_checks.specs.NewDirs.{IsNameIn, is_in_way}
use Rattle.tree_checks.proofs.Looking.{listed_is, unlisted_is}
use Rattle.tree_checks.proofs.Leasts.{listed_least, none_least}
use Rattle.tree_checks.proofs.new_dirs.least_in.Goals as goal

found_least : (names : Names) (at : Path) (items : List (List ℕ)) (test : List ℕ → Bool) (result : Result (Option Path) FsError) → Some items ≡ names_at names at → IfOk result (λ found. found ≡ option_map (child_of at) (find test items)) → IfOk result (IsLeast (IsNameIn names at test))
found_least names at items test (Err error) listed is = tt
found_least names at items test (Ok found) listed is = subst (IsLeast (IsNameIn names at test)) (sym (is ∙ ap (λ l. option_map (child_of at) (find test l)) (listed_is names at items listed))) (listed_least names at test)

pub returns-in-Ok-Some-clause-finds : goal.returns-in-Ok-Some-clause-finds
returns-in-Ok-Some-clause-finds g c told formed =
    let names = (g.F.Fs.trail c.args.fs.now).present.names in
    let listed = c.in-Ok-Some.ensures.shows told formed in
    subst (λ at. IfOk c.first_in_way.result (IsLeast (IsNameIn names at (is_in_way c.args.dir)))) c.in-Ok.ensures
    (found_least names c.in-Ok.at c.in-Ok-Some.names.items (is_in_way c.args.dir) c.first_in_way.result (ap (λ o. option_map (λ n. n.items) o) (sym c.in-Ok-Some.field-0-is) ∙ listed) (subst (λ l. IfOk c.first_in_way.result (λ found. found ≡ option_map (child_of c.in-Ok.at) (find (is_in_way c.args.dir) l))) c.deref.ensures.value c.first_in_way.ensures.found))

pub returns-in-Ok-None-clause-finds : goal.returns-in-Ok-None-clause-finds
returns-in-Ok-None-clause-finds g c told formed =
    let names = (g.F.Fs.trail c.args.fs.now).present.names in
    let listed = c.in-Ok-None.ensures.shows told formed in
    subst (λ at. IsLeast (IsNameIn names at (is_in_way c.args.dir)) None) c.in-Ok.ensures
    (none_least names formed.tree c.in-Ok.at (is_in_way c.args.dir) (unlisted_is names c.in-Ok.at (ap (λ o. option_map (λ n. n.items) o) (sym c.in-Ok-None.field-0-is) ∙ listed)))
