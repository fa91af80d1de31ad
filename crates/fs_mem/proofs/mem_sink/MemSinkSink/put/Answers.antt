use Rattle.fs_mem.proofs.Putting.{put_part, put_appended}
use Rattle.fs_mem.proofs.mem_sink.MemSinkSink.put.Goals as goal

pub returns-clause-appended : goal.returns-clause-appended
returns-clause-appended c = put_appended c.args.self.now c.append.new.self c.args.bytes.now c.append.result c.append.ensures.puts

pub returns-clause-part : goal.returns-clause-part
returns-clause-part c _ = put_part c.args.self.now c.append.new.self c.args.bytes.now c.append.result c.append.ensures.puts
