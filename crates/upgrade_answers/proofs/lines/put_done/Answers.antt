use Rattle.std.proofs.Common.{◌++◌, ◌∙◌, ℕ, List}
use Rattle.std.specs.Prelude.{codes}
use Rattle.upgrade_answers.specs.Lines.{counted_lines}
use Rattle.upgrade_answers.proofs.Pieces.{puts, failed, behind, put_behind, part_front, part_behind}
use Rattle.upgrade_answers.proofs.lines.put_done.Goals as goal

pub returns-in_err-put-clause-appended : goal.returns-in_err-put-clause-appended
returns-in_err-put-clause-appended g c told =
    let w = g.K.Sink.written c.args.out.now in
    let checked : List ℕ = codes "checks: ok\n" in
    let counted : List ℕ = counted_lines c.args.summary in
    let done : List ℕ = codes "upgrade: done\n" in
    failed _ _ _ _ _ c.from_residual.ensures.1 (part_front w (checked ++ counted) done _ (part_front w checked counted _ (c.put.ensures.part told)))

pub returns-in_err-put_counted-clause-appended : goal.returns-in_err-put_counted-clause-appended
returns-in_err-put_counted-clause-appended g c told =
    let w = g.K.Sink.written c.args.out.now in
    let checked : List ℕ = codes "checks: ok\n" in
    let counted : List ℕ = counted_lines c.args.summary in
    let done : List ℕ = codes "upgrade: done\n" in
    let told_1 = c.put.ensures.told ∙ told in
    failed _ _ _ _ _ c.from_residual-in_err-put_counted.ensures.1 (part_front w (checked ++ counted) done _ (part_behind w checked counted _ _ (c.in_ok-put.ensures.appended told) (c.in_err-put_counted.ensures.appended told_1)))

pub returns-clause-appended : goal.returns-clause-appended
returns-clause-appended g c told =
    let w = g.K.Sink.written c.args.out.now in
    let checked : List ℕ = codes "checks: ok\n" in
    let counted : List ℕ = counted_lines c.args.summary in
    let done : List ℕ = codes "upgrade: done\n" in
    let told_1 = c.put.ensures.told ∙ told in
    let told_2 = c.put_counted.ensures.told ∙ told_1 in
    let two = behind w checked counted _ _ (c.in_ok-put.ensures.appended told) (c.in_ok-put_counted.ensures.appended told_1) in
    put_behind _ w (checked ++ counted) done _ _ two (puts _ _ _ _ (c.put-2.ensures.appended told_2) (c.put-2.ensures.part told_2))
