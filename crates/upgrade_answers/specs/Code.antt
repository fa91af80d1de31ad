-- The exit statuses.
use Rattle.std.specs.Prelude.{ℕ}
use Rattle.upgrade_answers.specs.declared.answer.Answer.{Answer}
use Rattle.upgrade_answers.specs.declared.answer.Answer.TheVariants.{Done, Checked, Reported, Tested, TestFailed, Usage, Refused, FsFault, ServerFault, Moved, NoMemory}
use Rattle.upgrade_answers.specs.declared.answer.Printed.{Printed}
use Rattle.upgrade_answers.specs.declared.answer.Printed.TheVariants as printed

-- the status of an answer that reached what was asked for
abbrev pub printed_code : Printed → ℕ
printed_code printed.Whole = 0
printed_code printed.SinkFailed = 5
printed_code printed.NoMemory = 6

abbrev pub code_of : Answer → Printed → ℕ
code_of (Done summary) lines = printed_code lines
code_of Checked lines = printed_code lines
code_of (Reported verdict) lines = printed_code lines
code_of (Tested summary rows) lines = printed_code lines
code_of (Refused refusal) lines = 1
code_of (Usage position) lines = 2
code_of (FsFault phase) lines = 3
code_of (ServerFault phase) lines = 4
code_of (NoMemory phase) lines = 6
code_of (Moved root change) lines = 7
code_of TestFailed lines = 8
