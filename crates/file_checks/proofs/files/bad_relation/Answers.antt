use Rattle.std.proofs.Common.{◌≡◌, ◌∙◌, ◌<◌, ◌^◌, true, sym, ap, arith}
use Rattle.fs_model.specs.State.{Names}
use Rattle.relation_files.specs.Sites.{site_at}
use Rattle.tree_checks.specs.Looks.{kind_at, is_file}
use Rattle.file_checks.proofs.Found.{relation_found}
use Rattle.file_checks.proofs.Oks.{if_ok}
use Rattle.file_checks.proofs.files.bad_relation.Goals as goal

pub returns-in-Ok-kind_at-clause-finds : goal.returns-in-Ok-kind_at-clause-finds
returns-in-Ok-kind_at-clause-finds g c told formed listings listed =
    let names : Names = (g.F.Fs.trail c.args.fs.now).present.names in
    let file : is_file (kind_at names c.in-Ok.first) ≡ true = ap is_file (sym (c.in-Ok-kind_at.ensures.shows told formed)) ∙ sym c.if-is_file.ensures in
    let small : c.args.relation.file < 2 ^ 32 = omega arith in
    if_ok c.listed_bad.result c.listed_bad.ensures.found (λ found is. relation_found names (site_at c.args.site.now) c.args.relation c.args.listings.now c.in-Ok.first found small c.in-Ok.ensures.path file listings listed is)
