use Rattle.std.proofs.Common.{sym, ap, ◌∙◌}
use Rattle.std.specs.Option.{option_copied}
use Rattle.std.specs.List.{list_any}
use Rattle.object_places.specs.Finds.{object_at}
use Rattle.object_places.proofs.FindsLemmas.{any_shown, any_absent}
use Rattle.catalog.specs.Known.{sequence_of_oid}
use Rattle.catalog.proofs.KnownLists.{any_sequence_of_oid}
use Rattle.catalog.proofs.sequences.Sequences.have_oid.Goals as goal

pub returns-in-Some : goal.returns-in-Some
returns-in-Some c =
    any_shown (sequence_of_oid c.args.oid) c.self.inside.items.items _ c.in-Some.sequence.now (any_sequence_of_oid c.self.inside.items.items c.self.inside.places c.self.invariant c.args.oid)
    (c.in-Some.ensures ∙ (λ i. object_at (c.deref.ensures.value i) (c.get.ensures i)))
    ∙ ap (list_any (sequence_of_oid c.args.oid)) c.self.view_is

pub returns-in-None : goal.returns-in-None
returns-in-None c =
    any_absent (sequence_of_oid c.args.oid) c.self.inside.items.items _ (any_sequence_of_oid c.self.inside.items.items c.self.inside.places c.self.invariant c.args.oid)
    (sym (ap option_copied c.in-None.is) ∙ c.object_at.ensures ∙ (λ i. object_at (c.deref.ensures.value i) (c.get.ensures i)))
    ∙ ap (list_any (sequence_of_oid c.args.oid)) c.self.view_is
