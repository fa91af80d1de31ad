use Rattle.std.proofs.Common.{◌≡◌, ◌++◌, ◌∷◌, [], ◌∙◌, string_bytes, ap, sym, refl, append_assoc}
use Rattle.fs_model.specs.Names.{slash}
use Rattle.fs_model.proofs.Joins.{joined_next}
use Rattle.fs_real.proofs.disk.Disk.place.Goals as goal
use Rattle.fs_real.proofs.disk.Disk.place.Goals.{then-above-gt0+in_ok-pass, else-above-gt0}

pub loop-above-preserved : goal.loop-above-preserved
loop-above-preserved g c =
    let before = string_bytes c.if-above-gt0.place.text in
    let same : before ≡ string_bytes c.loop-above.place.text = elim c.if-above-gt0.branch [ then-above-gt0+in_ok-pass w ↦ ap (λ place. string_bytes place.text) w.place-is | else-above-gt0 w ↦ ap (λ place. string_bytes place.text) w.place-is ] in
    joined_next c.names-name-items.result.now c.loop-above.above c.name-item.result before (before ++ slash ∷ []) (string_bytes c.enter.new.self.text)
    c.loop-above-test.true c.name-item.is (same ∙ c.loop-above.invariant) refl (c.in_ok-enter.ensures ∙ sym (append_assoc before (slash ∷ []) c.name-item.result))
