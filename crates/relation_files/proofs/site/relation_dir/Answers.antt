use Rattle.std.proofs.Common.{◌≡◌, ◌∙◌, ◌&&◌, ◌<◌, ◌^◌, true, false, List, ℕ, sym, ap, rules, arith, decimal}
use Rattle.fs_model.specs.Names.{is_name}
use Rattle.relation_files.proofs.FileNames.{number_alone_is_name}
use Rattle.relation_files.proofs.site.relation_dir.Goals as goal

pub returns-clause-never_bad : goal.returns-clause-never_bad
returns-clause-never_bad c h =
    let fits : c.args.relation.database < 2 ^ 32 = omega arith in
    let text : c.deref.result.now ≡ decimal c.args.relation.database = search rules in
    let good : is_name c.deref.result.now ≡ true = ap is_name text ∙ number_alone_is_name c.args.relation.database fits in
    let bad : (is_name c.deref.result.now && true) ≡ false = c.join.ensures.bad h in
    let both : true ≡ false = sym (ap (λ b. b && true) good) ∙ bad in
    absurd (cc both)
