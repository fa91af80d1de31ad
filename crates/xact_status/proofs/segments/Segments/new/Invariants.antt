use Rattle.xact_status.proofs.Noted.{IsNoted}
use Rattle.xact_status.proofs.segments.Segments.new.Given as goal

abbrev pub invariant-loop-number : goal.invariant-loop-number
invariant-loop-number l = IsNoted l.yielded l.segments l.twice
