use Rattle.std.proofs.Common.{ap, ◌∙◌, arith}
use Rattle.std.specs.Int.Bits.{and_mask}
use Rattle.control_file.specs.ControlRecord.{control_of, newest_commit_ts_xid, oldest_commit_ts_xid, right_crc}
use Rattle.control_file.proofs.RecordBytes.{number_at-before}
use Rattle.control_file.proofs.RecordFields.{control_of-changed, counters_of-after, kept-after, right_crc-written}
use Rattle.control_file.specs.declared.records.Control.{Control}
use Rattle.control_file.proofs.writing.write_counters.Goals as goal

pub returns-clause-counters : goal.returns-clause-counters
returns-clause-counters c =
    counters_of-after _ _ _ c.write_commit_ts_xids.ensures.kept c.write_u32_at.ensures.kept ∙ c.write_checkpoint.ensures.counters

pub returns-clause-oldest_commit_ts : goal.returns-clause-oldest_commit_ts
unfolding oldest_commit_ts_xid
returns-clause-oldest_commit_ts c =
    number_at-before 112 4 288 292 _ _ (omega arith) c.write_u32_at.ensures.kept
    ∙ c.write_commit_ts_xids.ensures.oldest
    ∙ and_mask c.args.counters.now.next_xid 32

pub returns-clause-newest_commit_ts : goal.returns-clause-newest_commit_ts
unfolding newest_commit_ts_xid
returns-clause-newest_commit_ts c =
    number_at-before 116 4 288 292 _ _ (omega arith) c.write_u32_at.ensures.kept
    ∙ c.write_commit_ts_xids.ensures.newest
    ∙ and_mask c.args.counters.now.next_xid 32

pub returns-clause-crc : goal.returns-clause-crc
unfolding control_of right_crc
returns-clause-crc c =
    c.write_u32_at.ensures.value
    ∙ c.crc32c-crc.ensures.value
    ∙ right_crc-written _ _ c.write_commit_ts_xids.array_long c.write_u32_at.array_long c.write_u32_at.ensures.kept

pub returns-clause-control : goal.returns-clause-control
unfolding right_crc
returns-clause-control c =
    control_of-changed c.args.head.now c.write_u32_at.new.head c.args.counters.now _
    (kept-after _ _ _ _ c.write_checkpoint.ensures.kept c.write_commit_ts_xids.ensures.kept c.write_u32_at.ensures.kept)
    (counters_of-after _ _ _ c.write_commit_ts_xids.ensures.kept c.write_u32_at.ensures.kept ∙ c.write_checkpoint.ensures.counters)
    (c.write_u32_at.ensures.value
    ∙ c.crc32c-crc.ensures.value
    ∙ right_crc-written _ _ c.write_commit_ts_xids.array_long c.write_u32_at.array_long c.write_u32_at.ensures.kept)

pub returns-clause-sound : goal.returns-clause-sound
returns-clause-sound c release sound = record {
  whole = omega (arith, c.write_u32_at.array_long);
  crc = returns-clause-crc c;
  control_version = ap (λ (x : Control). x.control_version) (returns-clause-control c) ∙ sound.control_version;
  catalog_version = ap (λ (x : Control). x.catalog_version) (returns-clause-control c) ∙ sound.catalog_version;
}
