-- The walk over the segments of a fork.
use Rattle.std.proofs.Common.{◌≡◌, ◌∙◌, ℕ, suc, ◌+◌, ◌-◌, ◌^◌, ◌<◌, ◌≤◌, Bool, true, false, List, [], ◌∷◌, ◌++◌, take, Option, Some, None, Result, Ok, Err, IfOk, if◌then◌else◌, flat_map, refl, ap, sym, subst, arith, append-nil}
use Rattle.std.proofs.lemmas.Grind.{common_steps}
use Rattle.fs_model.specs.State.{FsState}
use Rattle.xact_status.specs.Files.{SegmentFiles}
use Rattle.cluster_meaning.specs.Blocks.{blocks_of, blocks_from, blocks_then, most_segments, most_blocks, numbered}
use Rattle.fork_read.specs.declared.extents.Extents.{Extents}
use Rattle.fork_read.specs.Extents.{extents_told, extent_blocks}

pub most_segments_is : most_segments ≡ 2 ^ 32 - 1
unfolding most_segments
most_segments_is = refl

pub most_blocks_is : most_blocks ≡ 2 ^ 32 - 1
unfolding most_blocks
most_blocks_is = refl

pub at_start : (relseg_size : ℕ) (files : SegmentFiles) (room : ℕ) → room ≡ 2 ^ 32 - 1 → take room (blocks_from relseg_size files 0 (most_segments - 0)) ≡ blocks_of relseg_size files
unfolding blocks_of
at_start relseg_size files room is =
    let all : room ≡ most_blocks = is ∙ sym most_blocks_is in
    let from : most_segments - 0 ≡ most_segments = omega arith in
    λ i. take (all i) (blocks_from relseg_size files 0 (from i))

pub at_segment : (relseg_size : ℕ) (files : SegmentFiles) (segment : ℕ) → segment < 2 ^ 32 - 1
    → blocks_from relseg_size files segment (most_segments - segment) ≡ blocks_then relseg_size (files segment) (blocks_from relseg_size files (segment + 1) (most_segments - (segment + 1)))
at_segment relseg_size files segment lt =
    let most : ℕ = most_segments in
    let is : most ≡ 2 ^ 32 - 1 = most_segments_is in
    let more : most - segment ≡ suc (most - (segment + 1)) = omega arith in
    ap (blocks_from relseg_size files segment) more

pub at_end : (relseg_size : ℕ) (files : SegmentFiles) (segment : ℕ) → 2 ^ 32 - 1 ≤ segment → blocks_from relseg_size files segment (most_segments - segment) ≡ []
at_end relseg_size files segment le =
    let most : ℕ = most_segments in
    let is : most ≡ 2 ^ 32 - 1 = most_segments_is in
    let none : most - segment ≡ 0 = omega arith in
    ap (blocks_from relseg_size files segment) none

take_none : (n : ℕ) (none : List (List ℕ)) → none ≡ [] → take n none ≡ []
take_none n none is = grind (arith, common_steps)

-- nothing is left behind
pub none_behind : (s : FsState) (extents : Extents) (all : List (ℕ × List ℕ)) → extents_told s extents [] ≡ all → flat_map (extent_blocks s) extents.items.items ≡ all
none_behind s extents all is =
    let front : List (ℕ × List ℕ) = flat_map (extent_blocks s) extents.items.items in
    sym (append-nil front) ∙ ap (λ l. front ++ numbered (4294967295 - extents.room) l) (sym (take_none extents.room [] refl)) ∙ is
