use Rattle.std.proofs.Common.{◌≡◌, ◌∙◌, true, false, sym, ap, subst}
use Rattle.std.specs.Prelude.{is_some}
use Rattle.std.specs.FinMap.{get, insert}
use Rattle.fs_model.specs.Names.{Path}
use Rattle.fs_tools.specs.Children.{child_of}
use Rattle.file_checks.proofs.Keeping.{kept_there, kept_new}
use Rattle.file_checks.proofs.Locating.{copied_some}
use Rattle.file_checks.proofs.files.keep_first.Goals as goal

pub returns-then-is_some-clause-same : goal.returns-then-is_some-clause-same
returns-then-is_some-clause-same c other =
    let key : c.in-Ok.at ≡ child_of c.args.dir.now c.args.number.now = c.in-Ok.ensures.path in
    let there : is_some (get c.args.bad.now c.in-Ok.at) ≡ true = ap is_some (sym c.get.ensures) ∙ copied_some c.get.result ∙ sym c.is_some.ensures ∙ c.if-is_some.true in
    kept_there c.args.bad.now (child_of c.args.dir.now c.args.number.now) c.args.path other (subst (λ (p : Path). is_some (get c.args.bad.now p) ≡ true) key there)

pub returns-in-Ok-insert-clause-same : goal.returns-in-Ok-insert-clause-same
returns-in-Ok-insert-clause-same c other =
    let key : c.in-Ok.at ≡ child_of c.args.dir.now c.args.number.now = c.in-Ok.ensures.path in
    let free : is_some (get c.args.bad.now c.in-Ok.at) ≡ false = ap is_some (sym c.get.ensures) ∙ copied_some c.get.result ∙ sym c.is_some.ensures ∙ c.if-is_some.false in
    kept_new c.args.bad.now c.insert.new.self (child_of c.args.dir.now c.args.number.now) c.args.path other (c.in-Ok-insert.ensures ∙ ap (λ (p : Path). insert c.args.bad.now p c.args.path) key) (subst (λ (p : Path). is_some (get c.args.bad.now p) ≡ false) key free)
