use Rattle.std.proofs.Common.{◌≡◌, take, Some}
use Rattle.command_words.specs.Words.{no_choice, texts}
use Rattle.command_words.specs.Reading.{ready, take_words}
use Rattle.command_words.proofs.Lacking.{Awaited}
use Rattle.command_words.proofs.reading.read_choices.Given as goal

abbrev pub invariant-loop-position : goal.invariant-loop-position
invariant-loop-position l = record {
  taken : take_words (ready no_choice) (take l.position (texts l.words)) ≡ Some l.reader;
  awaited : Awaited (texts l.words) l.position l.reader.awaits;
}
