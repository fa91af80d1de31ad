use Rattle.std.proofs.Common.{ℕ, [], ◌∷◌, ◌++◌, ap, ◌∙◌}
use Rattle.std.specs.List.{flat_map}
use Rattle.control_file.specs.Version.{catalog_version_of}
use Rattle.cluster_gen.specs.Numbers.{four_bytes, zeros}
use Rattle.cluster_gen.specs.Control.{counter_bytes, checkpoint}
use Rattle.cluster_gen.proofs.Ranges.{joined}
use Rattle.cluster_gen.proofs.control.put_checkpoint.Goals as goal

pub returns : goal.returns
unfolding checkpoint
returns c =
    let counters = counter_bytes c.args.counters.now in
    let versions = flat_map four_bytes (1300 ∷ catalog_version_of c.args.release ∷ 1 ∷ []) in
    let last = c.put_counters.new.out.items in
    joined {A = ℕ} c.args.out.now.items (zeros 8) c.put_zeros.new.out.items (versions ++ (zeros 44 ++ counters)) last c.in_ok-put_zeros.ensures
    (joined {A = ℕ} c.put_zeros.new.out.items versions c.put_u32s.new.out.items (zeros 44 ++ counters) last
    (c.in_ok-put_u32s.ensures ∙ ap (λ (v : ℕ). c.put_zeros.new.out.items ++ flat_map four_bytes (1300 ∷ v ∷ 1 ∷ [])) c.catalog_version.ensures)
    (joined {A = ℕ} c.put_u32s.new.out.items (zeros 44) c.put_zeros-2.new.out.items counters last c.in_ok-put_zeros-2.ensures c.in_ok-put_counters.ensures))
