use Rattle.std.proofs.Common.{◌≤◌, length, arith}
use Rattle.std.proofs.lemmas.Result.{err_from_is_err_and}
use Rattle.dump_read.specs.Takes.{one, column_number_in}
use Rattle.dump_read.proofs.Listing.{mark_shorter, more_none, more_refused, more_on}
use Rattle.dump_read.proofs.Readers.{column_number_reader}
use Rattle.dump_read.proofs.columns.more_keys.Goals as goal

pub returns-in_err-column_number : goal.returns-in_err-column_number
returns-in_err-column_number c =
    let i = c.keys.invariant in
    let p = err_from_is_err_and c.from_residual.result c.from_residual.ensures.1 in
    rw (p.1, p.2) (λ unknown. more_refused (one column_number_in) i.0 c.keys.words c.takes_mark.new.self c.keys.keys.items _ i.1 c.keys-test.ensures (c.in_err-column_number.ensures unknown) i.2)

pub keys-smaller : goal.keys-smaller
keys-smaller c =
    let less = mark_shorter 44 c.keys.words c.takes_mark.new.self c.keys-test.ensures in
    let shorter = (column_number_reader.back c.takes_mark.new.self c.column_number.new.self _ c.in_ok-column_number.ensures).1.count in
    omega (arith, less, shorter)

pub keys-preserved : goal.keys-preserved
keys-preserved c =
    let i = c.keys.invariant in
    let shorter : length c.column_number.new.self ≤ length c.takes_mark.new.self = omega (arith, (column_number_reader.back c.takes_mark.new.self c.column_number.new.self _ c.in_ok-column_number.ensures).1.count) in
    rw c.in_ok-push.ensures.items (more_on (one column_number_in) i.0 c.keys.words c.takes_mark.new.self c.column_number.new.self c.in_ok-column_number.field-0 c.keys.keys.items _ i.1 c.keys-test.ensures c.in_ok-column_number.ensures shorter i.2)

pub returns : goal.returns
returns c =
    let i = c.keys.invariant in
    rw c.keys-test.ensures.1 (more_none (one column_number_in) i.0 c.keys.words c.keys.keys.items _ i.1 c.keys-test.ensures.0 i.2)
