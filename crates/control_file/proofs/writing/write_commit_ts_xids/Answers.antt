use Rattle.std.proofs.Common.{◌∙◌, arith}
use Rattle.control_file.specs.ControlRecord.{newest_commit_ts_xid, oldest_commit_ts_xid}
use Rattle.control_file.proofs.RecordBytes.{number_at-before}
use Rattle.control_file.proofs.writing.write_commit_ts_xids.Goals as goal

pub returns-clause-oldest : goal.returns-clause-oldest
unfolding oldest_commit_ts_xid
returns-clause-oldest c =
    number_at-before 112 4 116 120 _ _ (omega arith) c.write_u32_at-2.ensures.kept ∙ c.write_u32_at.ensures.value

pub returns-clause-newest : goal.returns-clause-newest
unfolding newest_commit_ts_xid
returns-clause-newest c = c.write_u32_at-2.ensures.value
