use Rattle.std.proofs.Common.{◌≡◌, drop}
use Rattle.control_file.specs.Crc.{all_ones, message_bits, register_after}
use Rattle.control_file.proofs.crc.crc32c.Given as goal

abbrev pub invariant-loop-byte : goal.invariant-loop-byte
invariant-loop-byte l =
    register_after l.register (message_bits (drop l.byte-index l.bytes)) ≡ register_after all_ones (message_bits l.bytes)
