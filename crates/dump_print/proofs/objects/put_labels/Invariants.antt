use Rattle.std.proofs.Common.{◌≡◌, ◌++◌}
use Rattle.dump_grammar.specs.Canonical.{label_statements}
use Rattle.dump_print.proofs.Appends.{lines_from}
use Rattle.dump_print.proofs.objects.put_labels.Given as goal

abbrev pub invariant-loop-label : goal.invariant-loop-label
invariant-loop-label l = l.out.items ++ lines_from (label_statements l.kind) l.label-index l.kind.labels ≡ l.fn.out.items ++ lines_from (label_statements l.kind) 0 l.kind.labels
