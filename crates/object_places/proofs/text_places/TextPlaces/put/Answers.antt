use Rattle.std.proofs.Common.{◌≡◌, false, Some, ◌∙◌}
use Rattle.std.specs.Prelude.{bytes_eq}
use Rattle.std.specs.Cmp.Lexicographic.{nat_list_eq_equiv}
use Rattle.object_places.proofs.KeyLemmas.{text_kept}
use Rattle.object_places.proofs.text_places.TextPlaces.put.Goals as goal

pub returns-clause-others : goal.returns-clause-others
returns-clause-others c = λ q h.
    let here : bytes_eq q c.in_ok-key.key.items ≡ false = rw (c.in_ok-key.ensures.items, c.bytes.ensures) h in
    text_kept c.in_ok-key.key.items c.args.self.now.places c.insert.new.self (Some c.args.place) c.in_ok-insert.ensures.updates q (nat_list_eq_equiv.symm c.in_ok-key.key.items q ∙ here)
