use Rattle.std.proofs.Common.{Some, ap, sym, ◌∙◌}
use Rattle.std.specs.Option.{option_copied}
use Rattle.std.specs.FinMap as map
use Rattle.std.specs.Cmp.{nat_cmp_total}
use Rattle.xact_status.proofs.Entries.{get_lookup}
use Rattle.xact_status.proofs.segments.Segments.bytes.Goals as goal

pub returns-in-Some : goal.returns-in-Some
returns-in-Some c =
    ap Some c.bytes.ensures ∙ ap option_copied (sym c.in-Some.is) ∙ c.get.ensures.value
    ∙ sym (get_lookup nat_cmp_total c.self.inside.files.entries c.args.number) ∙ ap (λ m. map.get m c.args.number) c.self.view_is

pub returns-in-None : goal.returns-in-None
returns-in-None c =
    ap option_copied (sym c.in-None.is) ∙ c.get.ensures.value
    ∙ sym (get_lookup nat_cmp_total c.self.inside.files.entries c.args.number) ∙ ap (λ m. map.get m c.args.number) c.self.view_is
