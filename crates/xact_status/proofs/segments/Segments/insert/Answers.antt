use Rattle.std.proofs.Common.{ap, sym, ◌∙◌, is_some}
use Rattle.std.specs.FinMap as map
use Rattle.std.specs.Cmp.{nat_cmp_total}
use Rattle.std.specs.FinMap.{nat_cmp-IsAntisymmetric}
use Rattle.xact_status.proofs.Entries.{inserted, get_lookup}
use Rattle.xact_status.proofs.segments.Segments.insert.Goals as goal

pub returns-clause-put : goal.returns-clause-put
returns-clause-put c =
    inserted nat_cmp_total nat_cmp-IsAntisymmetric c.self.inside.files.entries c.insert.new.self.entries c.args.number c.args.bytes c.in_ok-insert.ensures.updates.0
    ∙ ap (λ m. map.insert m c.args.number c.args.bytes) c.self.view_is

pub returns-clause-was : goal.returns-clause-was
returns-clause-was c =
    c.is_some.ensures
    ∙ ap is_some (c.in_ok-insert.ensures.old ∙ sym (get_lookup nat_cmp_total c.self.inside.files.entries c.args.number) ∙ ap (λ m. map.get m c.args.number) c.self.view_is)
