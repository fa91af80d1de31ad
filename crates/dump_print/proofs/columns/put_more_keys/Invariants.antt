use Rattle.std.proofs.Common.{◌≡◌, ◌++◌, drop}
use Rattle.std.specs.Fmt.{decimal}
use Rattle.dump_print.specs.Parts.{more_text}
use Rattle.dump_print.proofs.columns.put_more_keys.Given as goal

abbrev pub invariant-loop-key : goal.invariant-loop-key
invariant-loop-key l = l.out.items ++ more_text decimal (drop l.key-index l.keys) ≡ l.fn.out.items ++ more_text decimal l.keys
