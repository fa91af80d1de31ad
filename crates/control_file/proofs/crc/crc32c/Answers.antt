use Rattle.std.proofs.Common.{ap, subst, sym}
use Rattle.std.specs.Int.Bits.{bit_xor}
use Rattle.control_file.specs.Crc.{IsCrc, crc_of}
use Rattle.control_file.proofs.CrcPolynomial.{crc_of-IsCrc}
use Rattle.control_file.proofs.CrcRegister.{register_after-done, register_after-more}
use Rattle.control_file.proofs.crc.crc32c.Goals as goal

pub loop-byte-preserved : goal.loop-byte-preserved
loop-byte-preserved c =
    register_after-more c.loop-byte.register c.after_byte-register.result c.loop-byte.byte-index _ c.args.bytes.now
    c.loop-byte-test.true c.after_byte-register.ensures c.loop-byte.invariant

pub returns-clause-value : goal.returns-clause-value
unfolding crc_of
returns-clause-value c =
    ap (λ v. bit_xor v 4294967295)
    (register_after-done c.loop-byte.register c.loop-byte.byte-index _ c.args.bytes.now c.loop-byte-test.false c.loop-byte.invariant)

pub returns-clause-remainder : goal.returns-clause-remainder
unfolding crc_of
returns-clause-remainder c =
    subst (λ v. IsCrc c.args.bytes.now v)
    (sym (ap (λ v. bit_xor v 4294967295)
    (register_after-done c.loop-byte.register c.loop-byte.byte-index _ c.args.bytes.now c.loop-byte-test.false c.loop-byte.invariant)))
    (crc_of-IsCrc c.args.bytes.now)
