use Rattle.std.proofs.Common.{◌≡◌, ◌∙◌, ◌&&◌, ◌<◌, ◌^◌, true, false, List, ℕ, sym, ap, rules, arith}
use Rattle.fs_model.specs.Names.{is_name}
use Rattle.relation_files.specs.Places.{file_name}
use Rattle.relation_files.proofs.FileNames.{segment_is_name}
use Rattle.relation_files.proofs.site.segment_path.Goals as goal

pub returns-clause-never_bad : goal.returns-clause-never_bad
returns-clause-never_bad c h =
    let fits : c.args.relation.file < 2 ^ 32 = omega arith in
    let text : c.deref.result.now ≡ file_name c.args.relation c.args.fork c.args.segment = search rules in
    let good : is_name c.deref.result.now ≡ true = ap is_name text ∙ segment_is_name c.args.relation.file c.args.fork c.args.segment fits (omega arith) in
    let bad : (is_name c.deref.result.now && true) ≡ false = c.join.ensures.bad h in
    let both : true ≡ false = sym (ap (λ b. b && true) good) ∙ bad in
    absurd (cc both)
