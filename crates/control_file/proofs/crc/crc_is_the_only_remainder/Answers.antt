use Rattle.control_file.proofs.CrcPolynomial.{IsCrc-crc_of}
use Rattle.control_file.proofs.crc.crc_is_the_only_remainder.Goals as goal

pub returns : goal.returns
returns c bytes crc = IsCrc-crc_of bytes crc
