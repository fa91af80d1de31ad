use Rattle.std.proofs.Common.{◌≡◌, ◌∙◌, inr, ℕ, List, Option, Some, None, Result, Ok, Err, sym, ap, subst}
use Rattle.std.specs.Prelude.{IfOk, not, if◌then◌else◌}
use Rattle.std.specs.Option.{option_map}
use Rattle.std.specs.List.{find}
use Rattle.fs_model.specs.declared.error.FsError.{FsError}
use Rattle.fs_model.specs.Names.{Path}
use Rattle.fs_model.specs.State.{Names, FsState}
use Rattle.crash_safety.specs.Places.{links_at}
use Rattle.fs_tools.specs.Children.{child_of}
use Rattle.tree_checks.specs.Findings.{IsLeast}
use Rattle.tree_checks.specs.Looks.{names_at}
use Rattle.tree_checks.specs.NewDirs.{IsNameIn}
use Rattle.tree_checks.specs.MissingDirs.{IsNoDir}
use Rattle.tree_checks.proofs.Looking.{listed_is, listed_dir}
use Rattle.tree_checks.proofs.Leasts.{listed_least}
use Rattle.catalog.specs.declared.owners.Tablespace.{Tablespace}
use Rattle.file_checks.specs.Tablespaces.{placed, is_no_link, IsStrayLink}
use Rattle.file_checks.proofs.tablespaces.stray_link.Goals as goal

-- of the directory of links, the least name that isn't that of a tablespace's link
stray_names : (names : Names) (old : Path) (ts : List Tablespace) (items : List (List ℕ)) (result : Result (Option Path) FsError) → Some items ≡ names_at names (links_at old)
    → IfOk result (λ found. found ≡ option_map (child_of (links_at old)) (find (is_no_link ts) items)) → IfOk result (IsStrayLink names old ts)
stray_names names old ts items (Err error) listed is = tt
stray_names names old ts items (Ok found) listed is =
    of found (subst (IsLeast (IsNameIn names (links_at old) (is_no_link ts))) (sym (is ∙ ap (λ l. option_map (child_of (links_at old)) (find (is_no_link ts) l)) (listed_is names (links_at old) items listed))) (listed_least names (links_at old) (is_no_link ts)))
  where
    stands : IsNoDir names (links_at old) None
    stands = ap (λ b. if not b then Some (links_at old) else None) (sym (listed_dir names (links_at old) items listed))

    of : (o : Option Path) → IsLeast (IsNameIn names (links_at old) (is_no_link ts)) o → IsStrayLink names old ts o
    of None least = (stands, least)
    of (Some path) least = inr (stands, least)

pub returns-in-Ok-Some-clause-finds : goal.returns-in-Ok-Some-clause-finds
returns-in-Ok-Some-clause-finds g c told formed =
    let s : FsState = (g.F.Fs.trail c.args.fs.now).present in
    let ts = placed c.args.catalog.now.tablespaces in
    let items = c.in-Ok-Some.names.items in
    let at : c.in-Ok-join.dir ≡ links_at c.args.old.now = c.in-Ok-join.ensures.path in
    let listed : Some items ≡ names_at s.names c.in-Ok-join.dir = ap (λ o. option_map (λ n. n.items) o) (sym c.in-Ok-Some.field-0-is) ∙ c.in-Ok-Some.ensures.shows told formed in
    let found = c.first_stray.ensures.found c.args.old.now c.args.catalog.now.tablespaces at c.in-Ok.ensures.links in
    stray_names s.names c.args.old.now ts items c.first_stray.result (listed ∙ ap (names_at s.names) at)
    (subst (λ (d : Path). IfOk c.first_stray.result (λ found. found ≡ option_map (child_of d) (find (is_no_link ts) items))) at
    (subst (λ l. IfOk c.first_stray.result (λ found. found ≡ option_map (child_of c.in-Ok-join.dir) (find (is_no_link ts) l))) c.deref.ensures.value found))
