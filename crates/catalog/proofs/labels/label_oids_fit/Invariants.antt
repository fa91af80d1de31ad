use Rattle.std.proofs.Common.{◌≡◌, true, take}
use Rattle.std.specs.List.{list_all}
use Rattle.catalog.specs.declared.enums.Label.{Label}
use Rattle.catalog.specs.Forms.{is_32_bits}
use Rattle.catalog.proofs.labels.label_oids_fit.Given as goal

abbrev pub invariant-loop-label : goal.invariant-loop-label
invariant-loop-label l = list_all (λ (x : Label). is_32_bits x.oid) (take l.label-index l.labels) ≡ true
