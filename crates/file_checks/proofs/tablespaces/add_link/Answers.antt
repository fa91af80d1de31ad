use Rattle.std.proofs.Common.{sym}
use Rattle.file_checks.proofs.Locating.{link_added, link_left_out}
use Rattle.file_checks.proofs.tablespaces.add_link.Goals as goal

pub returns-then-not-is_placed-clause-links : goal.returns-then-not-is_placed-clause-links
returns-then-not-is_placed-clause-links c before links = link_left_out c.args.old.now before c.args.tablespace.now c.args.links.now (sym c.if-not-is_placed.ensures) links

pub returns-in-Ok-insert-clause-links : goal.returns-in-Ok-insert-clause-links
returns-in-Ok-insert-clause-links c before links =
    link_added c.args.old.now before c.args.tablespace.now c.args.links.now c.insert.new.self c.in-Ok.link tt (sym c.if-not-is_placed.ensures) c.in-Ok.ensures.path c.in-Ok-insert.ensures links
