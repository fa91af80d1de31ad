use Rattle.std.proofs.Common.{◌<◌, ◌^◌, arith}
use Rattle.control_file.proofs.RecordBytes.{written-kept, written-number}
use Rattle.control_file.proofs.writing.write_u64_at.Goals as goal

pub returns-clause-value : goal.returns-clause-value
returns-clause-value c =
    let fits : c.args.value < 256 ^ 8 = omega arith in
    written-number c.args.place 8 c.args.value c.args.head.now c.write_u64.new.buf c.told-head c.requires fits c.write_u64.ensures

pub returns-clause-kept : goal.returns-clause-kept
returns-clause-kept c =
    written-kept c.args.place 8 c.args.value c.args.head.now c.write_u64.new.buf c.told-head c.requires c.write_u64.ensures
