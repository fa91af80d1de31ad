use Rattle.std.proofs.Common.{◌≡◌, ◌∙◌, ◌-◌, ◌==◌, ◌++◌, ◌≤◌, [], List, ℕ, take, flat_map, if◌then◌else◌, refl, sym, ap, subst, arith}
use Rattle.std.specs.List.{AllByRecursion}
use Rattle.cluster_meaning.specs.Blocks.{numbered}
use Rattle.fs_model.specs.Reading.{file_bytes}
use Rattle.fork_read.specs.declared.extents.Extent.{Extent}
use Rattle.fork_read.specs.Extents.{IsBacked, extent_blocks}
use Rattle.fork_read.proofs.Taken.{extent_added, extent_backed, all_push}
use Rattle.fork_read.proofs.extents.add_extent.Goals as goal

pub returns-clause-told : goal.returns-clause-told
returns-clause-told c s relseg_size behind full size =
    let extent : Extent = record { path = c.args.path; first = 4294967295 - c.args.extents.now.room; blocks = c.min-blocks.result } in
    let old = c.args.extents.now in
    let fits : old.room ≤ 4294967295 = omega arith in
    ap (λ (l : List Extent). flat_map (extent_blocks s) l ++ numbered (4294967295 - (old.room - c.min-blocks.result)) (take (old.room - c.min-blocks.result) (if c.in-Some.size == c.args.full then behind else []))) c.in_ok-push.ensures.items
    ∙ extent_added s old.items.items extent old.room c.in-Some.size c.args.full relseg_size behind (file_bytes s c.args.path) fits refl refl (sym c.in-Some.is ∙ size) full c.min-blocks.ensures

pub returns-clause-backed : goal.returns-clause-backed
returns-clause-backed c s size all =
    let extent : Extent = record { path = c.args.path; first = 4294967295 - c.args.extents.now.room; blocks = c.min-blocks.result } in
    let old = c.args.extents.now in
    let fits : old.room ≤ 4294967295 = omega arith in
    subst (λ l. AllByRecursion (IsBacked s) l) (sym c.in_ok-push.ensures.items)
    (all_push (IsBacked s) old.items.items extent all (extent_backed s extent old.room c.in-Some.size (file_bytes s c.args.path) fits refl refl (sym c.in-Some.is ∙ size) c.min-blocks.ensures))
