use Rattle.std.proofs.Common.{ap}
use Rattle.std.specs.Int.Bits.{bit_and, bit_xor}
use Rattle.control_file.proofs.CrcRegister.{register_after-looked_up}
use Rattle.control_file.proofs.crc.after_byte.Goals as goal

pub returns : goal.returns
returns c =
    register_after-looked_up c.args.register c.args.byte _ c.remainder_of.result c.ranges.byte.fits
    (ap (λ v. bit_and (bit_xor c.args.register v) 255) c.from.ensures)
    c.remainder_of.ensures
