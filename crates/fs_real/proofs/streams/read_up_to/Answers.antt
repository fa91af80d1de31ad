use Rattle.std.proofs.Common.{◌≡◌, ◌∙◌, ◌+◌, ◌-◌, ◌++◌, length, take, subst, ap, sym, arith, rules}
use Rattle.std.proofs.lemmas.Grind.{common_steps}
use Rattle.std.specs.Io.KnownBytes.{Consumes}
use Rattle.std.proofs.KnownBytes.{Consumes-trans, Consumes-kept}
use borrow.Rule.Slice.PartMut.{put_mid}
use Rattle.fs_real.proofs.Fills.{front_grows, front_stays}
use Rattle.fs_real.proofs.streams.read_up_to.Goals as goal
use Rattle.fs_real.proofs.streams.read_up_to.Goals.{in-Ok, in-Err+else-ne}

pub loop-preserved : goal.loop-preserved
loop-preserved g c =
    let from = c.loop.filled in
    let room = length c.loop.into - from in
    let within = c.loop.invariant.within in
    elim c.match-read.branch [
      | in-Ok w ↦
          let count = w.in-Ok.count in
          let grown : take from c.loop.into ++ take count c.read.new.buf ≡ take c.match-read.filled (put_mid from room c.loop.into c.read.new.buf) =
          front_grows from room count c.loop.into c.read.new.buf within w.in-Ok.ensures.bound.0 ∙ ap (λ n. take n (put_mid from room c.loop.into c.read.new.buf)) (sym w.filled-is) in
          record {
            same_room = grind (arith, common_steps);
            within = grind (arith, common_steps, w.filled-is, w.in-Ok.ensures.bound.0);
            given = subst (Consumes _ _) grown (Consumes-trans _ _ _ _ _ c.loop.invariant.given w.in-Ok.ensures.bytes.0);
          }
      | in-Err+else-ne w ↦
          let same : take from c.loop.into ≡ take c.match-read.filled (put_mid from room c.loop.into c.read.new.buf) =
          sym (front_stays from room c.loop.into c.read.new.buf within) ∙ ap (λ n. take n (put_mid from room c.loop.into c.read.new.buf)) (sym w.filled-is) in
          record {
            same_room = grind (arith, common_steps);
            within = grind (arith, common_steps, w.filled-is);
            given = subst (Consumes _ _) same (Consumes-kept _ _ _ _ c.loop.invariant.given w.in-Err.ensures.bytes);
          }
    ]
