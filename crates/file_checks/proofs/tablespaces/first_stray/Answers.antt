use Rattle.std.proofs.Common.{◌∙◌, Some, sym, ap}
use Rattle.std.specs.Prelude.{not, is_some}
use Rattle.std.specs.Option.{option_map}
use Rattle.std.specs.FinMap.{get}
use Rattle.fs_tools.specs.Children.{child_of}
use Rattle.tree_checks.proofs.Firsts.{find_on, find_here, find_ends}
use Rattle.file_checks.specs.Tablespaces.{placed, is_no_link}
use Rattle.file_checks.proofs.Locating.{copied_some}
use Rattle.file_checks.proofs.tablespaces.first_stray.Goals as goal

pub returns-then-is_none-clause-found : goal.returns-then-is_none-clause-found
returns-then-is_none-clause-found c old tablespaces at links =
    let name = c.name-item.result in
    let found = sym (links name) ∙ ap (λ d. is_some (get c.args.links.now (child_of d name))) (sym at) ∙ ap (λ p. is_some (get c.args.links.now p)) (sym c.in-Ok.ensures.path) ∙ ap is_some (sym c.get.ensures) ∙ copied_some c.get.result ∙ c.if-is_none.ensures in
    ap (λ p. Some p) c.in-Ok.ensures.path
    ∙ ap (option_map (child_of c.args.dir.now)) (sym (find_here c.args.names.now c.loop-name.name-index name c.loop-name-test.true c.name-item.is (is_no_link (placed tablespaces)) (ap not found) (c.loop-name.invariant old tablespaces at links)))

pub loop-name-preserved : goal.loop-name-preserved
loop-name-preserved c old tablespaces at links =
    let name = c.name-item.result in
    let found = sym (links name) ∙ ap (λ d. is_some (get c.args.links.now (child_of d name))) (sym at) ∙ ap (λ p. is_some (get c.args.links.now p)) (sym c.in-Ok.ensures.path) ∙ ap is_some (sym c.get.ensures) ∙ copied_some c.get.result ∙ c.if-is_none.ensures in
    find_on c.args.names.now c.loop-name.name-index name c.loop-name-test.true c.name-item.is (is_no_link (placed tablespaces)) (ap not found) (c.loop-name.invariant old tablespaces at links)

pub returns-clause-found : goal.returns-clause-found
returns-clause-found c old tablespaces at links =
    ap (option_map (child_of c.args.dir.now)) (sym (find_ends c.args.names.now c.loop-name.name-index c.loop-name-test.false (is_no_link (placed tablespaces)) (c.loop-name.invariant old tablespaces at links)))
