use Rattle.std.proofs.Common.{◌≤◌, length, arith}
use Rattle.std.proofs.lemmas.Result.{err_from_is_err_and}
use Rattle.dump_read.specs.Form.{column_at}
use Rattle.dump_read.proofs.Listing.{mark_shorter, more_none, more_refused, more_on}
use Rattle.dump_read.proofs.ColumnReader.{column_item}
use Rattle.dump_read.proofs.columns.more_columns.Goals as goal

pub returns-in_err-column : goal.returns-in_err-column
returns-in_err-column c =
    let i = c.columns.invariant in
    let p = err_from_is_err_and c.from_residual.result c.from_residual.ensures.1 in
    rw (p.1, p.2) (λ unknown. more_refused column_at i.0 c.columns.words c.takes_mark.new.self c.columns.columns _ i.1 c.columns-test.ensures (c.in_err-column.ensures unknown) i.2)

pub columns-smaller : goal.columns-smaller
columns-smaller c =
    let less = mark_shorter 44 c.columns.words c.takes_mark.new.self c.columns-test.ensures in
    let shorter = (column_item.back c.takes_mark.new.self c.column.new.words _ c.in_ok-column.ensures).1.count in
    omega (arith, less, shorter)

pub columns-preserved : goal.columns-preserved
columns-preserved c =
    let i = c.columns.invariant in
    let shorter : length c.column.new.words ≤ length c.takes_mark.new.self = omega (arith, (column_item.back c.takes_mark.new.self c.column.new.words _ c.in_ok-column.ensures).1.count) in
    rw c.in_ok-columns.ensures (more_on column_at i.0 c.columns.words c.takes_mark.new.self c.column.new.words c.in_ok-column.field-0 c.columns.columns _ i.1 c.columns-test.ensures c.in_ok-column.ensures shorter i.2)

pub returns : goal.returns
returns c =
    let i = c.columns.invariant in
    rw c.columns-test.ensures.1 (more_none column_at i.0 c.columns.words c.columns.columns _ i.1 c.columns-test.ensures.0 i.2)
