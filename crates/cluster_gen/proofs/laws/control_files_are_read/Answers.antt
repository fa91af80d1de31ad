use Rattle.std.proofs.Common.{refl}
use Rattle.control_file.specs.ControlRecord.{number_at, counters_of, right_crc, control_of, control_in}
use Rattle.control_file.specs.Crc.{bits, message_bits, times_x, register_after, crc_of}
use Rattle.cluster_gen.specs.Numbers.{zeros}
use Rattle.cluster_gen.specs.Control.{counter_bytes, checkpoint, settings, head, control_file}
use Rattle.cluster_gen.proofs.laws.control_files_are_read.Goals as goal

pub returns-clause-old : goal.returns-clause-old
unfolding number_at counters_of right_crc control_of control_in bits message_bits times_x register_after crc_of zeros counter_bytes checkpoint settings head control_file
returns-clause-old c = refl

pub returns-clause-new : goal.returns-clause-new
unfolding number_at counters_of right_crc control_of control_in bits message_bits times_x register_after crc_of zeros counter_bytes checkpoint settings head control_file
returns-clause-new c = refl
