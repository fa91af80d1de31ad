use Rattle.std.proofs.Common.{sym, ap, ◌∙◌}
use Rattle.std.specs.Option.{option_copied}
use Rattle.std.specs.List.{list_any}
use Rattle.object_places.specs.Finds.{object_at}
use Rattle.object_places.proofs.FindsLemmas.{any_shown, any_absent}
use Rattle.catalog.specs.Known.{sequence_of_file}
use Rattle.catalog.proofs.KnownLists.{any_sequence_of_file}
use Rattle.catalog.proofs.sequences.Sequences.have_file.Goals as goal

pub returns-in-Some : goal.returns-in-Some
returns-in-Some c =
    c.sequence_has_file.ensures ∙ any_shown (sequence_of_file (record { tablespace = c.args.tablespace; number = c.args.number })) c.self.inside.items.items _ c.in-Some.sequence.now (any_sequence_of_file c.self.inside.items.items c.self.inside.places c.self.invariant (record { tablespace = c.args.tablespace; number = c.args.number }))
    (c.in-Some.ensures ∙ (λ i. object_at (c.deref.ensures.value i) (c.get.ensures i)))
    ∙ ap (list_any (sequence_of_file (record { tablespace = c.args.tablespace; number = c.args.number }))) c.self.view_is

pub returns-in-None : goal.returns-in-None
returns-in-None c =
    any_absent (sequence_of_file (record { tablespace = c.args.tablespace; number = c.args.number })) c.self.inside.items.items _ (any_sequence_of_file c.self.inside.items.items c.self.inside.places c.self.invariant (record { tablespace = c.args.tablespace; number = c.args.number }))
    (sym (ap option_copied c.in-None.is) ∙ c.object_at.ensures ∙ (λ i. object_at (c.deref.ensures.value i) (c.get.ensures i)))
    ∙ ap (list_any (sequence_of_file (record { tablespace = c.args.tablespace; number = c.args.number }))) c.self.view_is
