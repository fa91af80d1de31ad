use Rattle.std.proofs.Common.{◌∙◌, arith}
use Rattle.control_file.specs.ControlRecord.{KeepsOutside, counters_of}
use Rattle.control_file.proofs.RecordBytes.{kept-both, number_at-before}
use Rattle.control_file.proofs.writing.write_checkpoint.Goals as goal

-- each write leaves what the earlier ones wrote
pub returns-clause-counters : goal.returns-clause-counters
unfolding counters_of
returns-clause-counters c =
    let from_oldest_multi_db : KeepsOutside 96 100 c.write_u32_at-6.new.head c.write_u32_at-7.new.head = c.write_u32_at-7.ensures.kept in
    let from_oldest_multi : KeepsOutside 92 100 c.write_u32_at-5.new.head c.write_u32_at-7.new.head =
    kept-both 92 96 100 c.write_u32_at-5.new.head c.write_u32_at-6.new.head c.write_u32_at-7.new.head (omega arith) (omega arith) c.write_u32_at-6.ensures.kept from_oldest_multi_db in
    let from_oldest_xid_db : KeepsOutside 88 100 c.write_u32_at-4.new.head c.write_u32_at-7.new.head =
    kept-both 88 92 100 c.write_u32_at-4.new.head c.write_u32_at-5.new.head c.write_u32_at-7.new.head (omega arith) (omega arith) c.write_u32_at-5.ensures.kept from_oldest_multi in
    let from_oldest_xid : KeepsOutside 84 100 c.write_u32_at-3.new.head c.write_u32_at-7.new.head =
    kept-both 84 88 100 c.write_u32_at-3.new.head c.write_u32_at-4.new.head c.write_u32_at-7.new.head (omega arith) (omega arith) c.write_u32_at-4.ensures.kept from_oldest_xid_db in
    let from_next_multi_offset : KeepsOutside 80 100 c.write_u32_at-2.new.head c.write_u32_at-7.new.head =
    kept-both 80 84 100 c.write_u32_at-2.new.head c.write_u32_at-3.new.head c.write_u32_at-7.new.head (omega arith) (omega arith) c.write_u32_at-3.ensures.kept from_oldest_xid in
    let from_next_multi : KeepsOutside 76 100 c.write_u32_at.new.head c.write_u32_at-7.new.head =
    kept-both 76 80 100 c.write_u32_at.new.head c.write_u32_at-2.new.head c.write_u32_at-7.new.head (omega arith) (omega arith) c.write_u32_at-2.ensures.kept from_next_multi_offset in
    let from_next_oid : KeepsOutside 72 100 c.write_u64_at.new.head c.write_u32_at-7.new.head =
    kept-both 72 76 100 c.write_u64_at.new.head c.write_u32_at.new.head c.write_u32_at-7.new.head (omega arith) (omega arith) c.write_u32_at.ensures.kept from_next_multi in
    let read_next_xid = number_at-before 64 8 72 100 c.write_u64_at.new.head c.write_u32_at-7.new.head (omega arith) from_next_oid ∙ c.write_u64_at.ensures.value in
    let read_next_oid = number_at-before 72 4 76 100 c.write_u32_at.new.head c.write_u32_at-7.new.head (omega arith) from_next_multi ∙ c.write_u32_at.ensures.value in
    let read_next_multi = number_at-before 76 4 80 100 c.write_u32_at-2.new.head c.write_u32_at-7.new.head (omega arith) from_next_multi_offset ∙ c.write_u32_at-2.ensures.value in
    let read_next_multi_offset = number_at-before 80 4 84 100 c.write_u32_at-3.new.head c.write_u32_at-7.new.head (omega arith) from_oldest_xid ∙ c.write_u32_at-3.ensures.value in
    let read_oldest_xid = number_at-before 84 4 88 100 c.write_u32_at-4.new.head c.write_u32_at-7.new.head (omega arith) from_oldest_xid_db ∙ c.write_u32_at-4.ensures.value in
    let read_oldest_xid_db = number_at-before 88 4 92 100 c.write_u32_at-5.new.head c.write_u32_at-7.new.head (omega arith) from_oldest_multi ∙ c.write_u32_at-5.ensures.value in
    let read_oldest_multi = number_at-before 92 4 96 100 c.write_u32_at-6.new.head c.write_u32_at-7.new.head (omega arith) from_oldest_multi_db ∙ c.write_u32_at-6.ensures.value in
    λ i. record {
      next_xid = read_next_xid i;
      next_oid = read_next_oid i;
      next_multi = read_next_multi i;
      next_multi_offset = read_next_multi_offset i;
      oldest_xid = read_oldest_xid i;
      oldest_xid_db = read_oldest_xid_db i;
      oldest_multi = read_oldest_multi i;
      oldest_multi_db = c.write_u32_at-7.ensures.value i;
    }
