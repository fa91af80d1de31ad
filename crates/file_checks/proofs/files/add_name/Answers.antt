use Rattle.std.proofs.Common.{◌≡◌, ◌∙◌, ℕ, List, Bool, true, false, length, drop, sym, ap, subst}
use Rattle.std.specs.Prelude.{string_bytes, not}
use Rattle.fs_model.specs.State.{Names}
use Rattle.fs_tools.specs.Children.{child_of}
use Rattle.tree_checks.specs.Looks.{kind_at, is_file}
use Rattle.file_checks.specs.RelationFiles.{is_other_suffix}
use Rattle.file_checks.specs.Kept.{IsLeadingNumber, kept_at}
use Rattle.file_checks.proofs.Bad.{file_passed, other_passed, bad_added}
use Rattle.file_checks.proofs.Naming.{behind_number}
use Rattle.file_checks.proofs.Oks.{on_ok, not_found, was_found}
use Rattle.file_checks.proofs.files.add_name.Goals as goal

-- what was asked of a name tells of what stands behind its number
suffix_told : (number name lent text : List ℕ) (leads : IsLeadingNumber number name) (told : Bool) → told ≡ is_other_suffix (drop (length lent) text) → lent ≡ number → text ≡ name → told ≡ is_other_suffix leads.rest
suffix_told number name lent text leads told is same whole =
    is ∙ (λ i. is_other_suffix (drop (length (same i)) (whole i))) ∙ ap is_other_suffix (behind_number number name leads)

pub returns-then-not-is_other_name-clause-found : goal.returns-then-not-is_other_name-clause-found
returns-then-not-is_other_name-clause-found g c told formed items so_far =
    let names : Names = (g.F.Fs.trail c.args.fs.now).present.names in
    let whole : c.as_bytes-text.result.now ≡ c.args.name.now = c.as_bytes-text.ensures.value ∙ c.text.ensures.same in
    let leads : IsLeadingNumber (string_bytes c.in-Ok.number) c.args.name.now = subst (IsLeadingNumber (string_bytes c.in-Ok.number)) whole c.in-Ok.ensures in
    let fails : is_other_suffix leads.rest ≡ false =
    sym (suffix_told (string_bytes c.in-Ok.number) c.args.name.now c.deref.result.now c.as_bytes-text.result.now leads c.is_other_name.result c.is_other_name.ensures c.deref.ensures whole) ∙ c.if-not-is_other_name.true in
    other_passed names c.args.dir.now items c.args.name.now c.args.bad.now so_far (string_bytes c.in-Ok.number) leads fails

pub returns-in-Ok-None-clause-found : goal.returns-in-Ok-None-clause-found
returns-in-Ok-None-clause-found g c told formed items so_far =
    let names : Names = (g.F.Fs.trail c.args.fs.now).present.names in
    let found = sym c.in-Ok-None.field-0-is ∙ c.in-Ok-None.ensures.finds told formed in
    file_passed names c.args.dir.now items c.args.name.now c.args.bad.now so_far
    (ap (λ p. not (is_file (kind_at names p))) (sym c.in-Ok-child.ensures.path) ∙ not_found (not (is_file (kind_at names c.in-Ok-child.at))) c.in-Ok-child.at found)

pub returns-in-Ok-Some-clause-found : goal.returns-in-Ok-Some-clause-found
returns-in-Ok-Some-clause-found g c told formed items so_far =
    let names : Names = (g.F.Fs.trail c.args.fs.now).present.names in
    let number : List ℕ = string_bytes c.in-Ok.number in
    let whole : c.as_bytes-text.result.now ≡ c.args.name.now = c.as_bytes-text.ensures.value ∙ c.text.ensures.same in
    let leads : IsLeadingNumber number c.args.name.now = subst (IsLeadingNumber number) whole c.in-Ok.ensures in
    let other : is_other_suffix leads.rest ≡ true =
    sym (suffix_told number c.args.name.now c.deref.result.now c.as_bytes-text.result.now leads c.is_other_name.result c.is_other_name.ensures c.deref.ensures whole) ∙ c.if-not-is_other_name.false in
    let (none, same) = was_found (not (is_file (kind_at names c.in-Ok-child.at))) c.in-Ok-child.at c.in-Ok-Some.path (sym c.in-Ok-Some.field-0-is ∙ c.in-Ok-Some.ensures.finds told formed) in
    let at : c.in-Ok-Some.path ≡ child_of c.args.dir.now c.args.name.now = same ∙ c.in-Ok-child.ensures.path in
    on_ok c.keep_first.result c.keep_first.ensures.same (λ kept. bad_added names c.args.dir.now items c.args.name.now c.args.bad.now so_far number leads c.keep_first.new.bad other
    (ap (λ p. not (is_file (kind_at names p))) (sym c.in-Ok-child.ensures.path) ∙ none)
    (λ q. kept q ∙ (λ i. kept_at (child_of c.args.dir.now (c.deref-in-Ok-Some.ensures i)) (at i) c.args.bad.now q)))
