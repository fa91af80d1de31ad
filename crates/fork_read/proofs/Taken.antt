-- The first elements of two lists.
use Rattle.std.proofs.Common.{◌≡◌, ◌∙◌, ℕ, ◌+◌, ◌-◌, ◌/◌, ◌<◌, ◌≤◌, ◌*◌, Bool, List, [], ◌∷◌, ◌++◌, length, take, min, Option, Some, None, flat_map, if◌then◌else◌, refl, ap, sym, subst, arith, append_assoc, append-nil, inl, inr}
use Rattle.std.specs.Option.{unwrap_or}
use Rattle.std.proofs.Math.Seq.{take-append-add}
use Rattle.std.proofs.lemmas.List.{take-append-le, take_all, length-take-le}
use Rattle.std.proofs.lemmas.List.FromFn.{length-map-range_with_len}
use Rattle.std.proofs.lemmas.Grind.{flat_map-append}
use Rattle.std.proofs.lemmas.Bool.Decides.{leb_tells}
use Rattle.heap_page.specs.declared.layout.TheConstants.{PAGE_SIZE}
use Rattle.std.specs.List.{slice_range}
use Rattle.fs_model.specs.State.{FsState}
use Rattle.fs_model.specs.Reading.{file_bytes}
use Rattle.std.proofs.Common.{option_map, ◌==◌}
use Rattle.cluster_meaning.specs.Blocks.{blocks_in, blocks_then, is_full}
use Rattle.fork_read.specs.declared.extents.Extent.{Extent}
use Rattle.std.specs.List.{AllByRecursion}
use Rattle.cluster_meaning.specs.Blocks.{numbered}
use Rattle.fork_read.specs.Extents.{IsBacked, extent_blocks, file_blocks}
use Rattle.fork_read.proofs.Numbered.{numbered-append}

short : {X : Type 0} (room : ℕ) (xs ys : List X) → room ≤ length xs → take (min (length xs) room) xs ++ take (room - min (length xs) room) ys ≡ take room (xs ++ ys)
short room xs ys le =
    let is : min (length xs) room ≡ room = omega arith in
    let none : room - min (length xs) room ≡ 0 = omega arith in
    (λ i. take (is i) xs ++ take (none i) ys) ∙ append-nil (take room xs) ∙ sym (take-append-le room xs ys le)

long : {X : Type 0} (room : ℕ) (xs ys : List X) → length xs < room → take (min (length xs) room) xs ++ take (room - min (length xs) room) ys ≡ take room (xs ++ ys)
long room xs ys lt =
    let is : min (length xs) room ≡ length xs = omega arith in
    let left : room - min (length xs) room ≡ room - length xs = omega arith in
    let same : length xs ≤ length xs = omega arith in
    let whole : room ≡ length xs + (room - length xs) = omega arith in
    (λ i. take (is i) xs ++ take (left i) ys) ∙ ap (λ l. l ++ take (room - length xs) ys) (take_all (length xs) xs same)
    ∙ sym (take-append-add xs ys (room - length xs)) ∙ ap (λ n. take n (xs ++ ys)) (sym whole)

pub taken : {X : Type 0} (room : ℕ) (xs ys : List X) → take (min (length xs) room) xs ++ take (room - min (length xs) room) ys ≡ take room (xs ++ ys)
taken room xs ys = elim (leb_tells room (length xs)) [ inl le ↦ short room xs ys le.1 | inr lt ↦ long room xs ys lt.1 ]

pub blocks_count : (bytes : List ℕ) → length (blocks_in bytes) ≡ length bytes / PAGE_SIZE
blocks_count bytes = length-map-range_with_len (λ n. slice_range bytes (PAGE_SIZE * n) (PAGE_SIZE * n + PAGE_SIZE)) 0 (length bytes / PAGE_SIZE)

-- the blocks of a segment and those behind it, with their numbers
numbers_on : (first room : ℕ) (xs behind : List (List ℕ)) (count : ℕ) → room ≤ 4294967295 → first ≡ 4294967295 - room → count ≡ min (length xs) room
    → numbered first (take count xs) ++ numbered (4294967295 - (room - count)) (take (room - count) behind) ≡ numbered first (take room (xs ++ behind))
numbers_on first room xs behind count fits begins counted =
    let le : count ≤ length xs = omega arith in
    let size : length (take count xs) ≡ count = length-take-le count xs le in
    let next : 4294967295 - (room - count) ≡ first + length (take count xs) = omega arith in
    let back : List (List ℕ) = take (room - count) behind in
    ap (λ n. numbered first (take count xs) ++ numbered n back) next
    ∙ sym (numbered-append first (take count xs) back)
    ∙ ap (numbered first) ((λ i. take (counted i) xs ++ take (room - counted i) behind) ∙ taken room xs behind)

-- a segment more
pub extent_more : (s : FsState) (items : List Extent) (extent : Extent) (room : ℕ) (bytes : List ℕ) (behind : List (List ℕ)) → room ≤ 4294967295 → extent.first ≡ 4294967295 - room
    → file_bytes s extent.path ≡ Some bytes → extent.blocks ≡ min (length bytes / PAGE_SIZE) room
    → flat_map (extent_blocks s) (items ++ extent ∷ []) ++ numbered (4294967295 - (room - extent.blocks)) (take (room - extent.blocks) behind)
    ≡ flat_map (extent_blocks s) items ++ numbered (4294967295 - room) (take room (blocks_in bytes ++ behind))
extent_more s items extent room bytes behind fits begins file count =
    let xs : List (List ℕ) = blocks_in bytes in
    let blocks : file_blocks s extent.path ≡ xs = ap (λ o. blocks_in (unwrap_or o [])) file in
    let counted : extent.blocks ≡ min (length xs) room = count ∙ ap (λ n. min n room) (sym (blocks_count bytes)) in
    let front : List (ℕ × List ℕ) = flat_map (extent_blocks s) items in
    let back : List (ℕ × List ℕ) = numbered (4294967295 - (room - extent.blocks)) (take (room - extent.blocks) behind) in
    ap (λ (l : List (ℕ × List ℕ)). l ++ back) (flat_map-append (extent_blocks s) items (extent ∷ []) ∙ ap (λ l. front ++ l) (append-nil (extent_blocks s extent)))
    ∙ append_assoc front (extent_blocks s extent) back
    ∙ ap (λ l. front ++ l) (ap (λ b. numbered extent.first (take extent.blocks b) ++ back) blocks ∙ numbers_on extent.first room xs behind extent.blocks fits begins counted
    ∙ ap (λ n. numbered n (take room (xs ++ behind))) begins)

-- a segment that was found
pub extent_added : (s : FsState) (items : List Extent) (extent : Extent) (room size full relseg_size : ℕ) (behind : List (List ℕ)) (file : Option (List ℕ)) → room ≤ 4294967295 → extent.first ≡ 4294967295 - room
    → file_bytes s extent.path ≡ file → Some size ≡ option_map length file → full ≡ relseg_size * PAGE_SIZE → extent.blocks ≡ min (size / PAGE_SIZE) room
    → flat_map (extent_blocks s) (items ++ extent ∷ []) ++ numbered (4294967295 - (room - extent.blocks)) (take (room - extent.blocks) (if size == full then behind else []))
    ≡ flat_map (extent_blocks s) items ++ numbered (4294967295 - room) (take room (blocks_then relseg_size file behind))
extent_added s items extent room size full relseg_size behind None fits begins found of_size full_is count = absurd (cc of_size)
extent_added s items extent room size full relseg_size behind (Some bytes) fits begins found of_size full_is count =
    let size_is : size ≡ length bytes = cc of_size in
    let test : (size == full) ≡ is_full relseg_size bytes = λ i. size_is i == full_is i in
    extent_more s items extent room bytes (if size == full then behind else []) fits begins found (count ∙ ap (λ n. min (n / PAGE_SIZE) room) size_is)
    ∙ ap (λ t. flat_map (extent_blocks s) items ++ numbered (4294967295 - room) (take room (blocks_in bytes ++ (if t then behind else [])))) test

-- ---- backed

pub all_push : (P : Extent → Type 0) (xs : List Extent) (x : Extent) → AllByRecursion P xs → P x → AllByRecursion P (xs ++ x ∷ [])
all_push P [] x all has = (has, tt)
all_push P (y ∷ ys) x all has = (all.0, all_push P ys x all.1 has)

pub extent_backed : (s : FsState) (extent : Extent) (room size : ℕ) (file : Option (List ℕ)) → room ≤ 4294967295 → extent.first ≡ 4294967295 - room → file_bytes s extent.path ≡ file → Some size ≡ option_map length file
    → extent.blocks ≡ min (size / PAGE_SIZE) room → IsBacked s extent
extent_backed s extent room size None fits begins found of_size count = absurd (cc of_size)
extent_backed s extent room size (Some bytes) fits begins found of_size count =
    let size_is : size ≡ length bytes = cc of_size in
    let same : length (file_blocks s extent.path) ≡ length bytes / PAGE_SIZE = ap (λ o. length (blocks_in (unwrap_or o []))) found ∙ blocks_count bytes in
    let most : size / PAGE_SIZE ≡ length bytes / PAGE_SIZE = ap (λ n. n / PAGE_SIZE) size_is in
    record { stand = omega arith; numbers = omega arith }
