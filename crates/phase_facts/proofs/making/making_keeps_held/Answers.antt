use Rattle.phase_facts.proofs.Holding.{goes_held}
use Rattle.phase_facts.proofs.Reading.{reads_held}
use Rattle.phase_facts.proofs.making.making_keeps_held.Goals as goal

pub returns-clause-makes : goal.returns-clause-makes
returns-clause-makes c job stage still opening a b held tops places goes = goes_held job stage opening a b held still tops places goes

pub returns-clause-reads : goal.returns-clause-reads
returns-clause-reads c job stage still opening a b held unchanged = reads_held job stage still opening a b held unchanged
