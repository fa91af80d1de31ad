use Rattle.std.proofs.Common.{◌≤◌, take, length, sym, subst}
use Rattle.std.proofs.lemmas.List.{take_all}
use Rattle.file_checks.specs.Kept.{AreLinks}
use Rattle.file_checks.proofs.Lists.{taken_at}
use Rattle.file_checks.proofs.Locating.{no_links}
use Rattle.file_checks.proofs.tablespaces.links_in.Goals as goal

pub loop-i-init : goal.loop-i-init
loop-i-init c = no_links c.args.old.now c.new-links.result c.new-links.ensures

pub loop-i-preserved : goal.loop-i-preserved
loop-i-preserved c =
    subst (λ ts. AreLinks c.args.old.now ts c.add_link.new.links) (sym (taken_at c.args.catalog.now.tablespaces c.loop-i.i c.in-Some.tablespace.now (sym c.in-Some.ensures)))
    (c.in-Ok.ensures.links (take c.loop-i.i c.args.catalog.now.tablespaces) c.loop-i.invariant)

pub returns-clause-links : goal.returns-clause-links
returns-clause-links c =
    let all : length c.args.catalog.now.tablespaces ≤ c.loop-i.i = subst (λ n. n ≤ c.loop-i.i) c.tablespace_count-count.ensures c.loop-i-test.false in
    subst (λ ts. AreLinks c.args.old.now ts c.loop-i.links) (take_all c.loop-i.i c.args.catalog.now.tablespaces all) c.loop-i.invariant
