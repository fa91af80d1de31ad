-- The blocks of a part of a file's bytes.
use Rattle.std.proofs.Common.{◌≡◌, ◌∙◌, ℕ, zero, suc, ◌+◌, ◌-◌, ◌*◌, ◌/◌, ◌<◌, ◌≤◌, List, ◌∷◌, length, map as mapped, take, drop, min, Option, Some, None, IfSome, slice_get, slice_range, refl, ap, sym, arith, add-zero}
use Rattle.std.specs.List.{range_with_len}
use Rattle.std.proofs.lemmas.List.{drop-take, drop-drop, take-take, length-take-le, length-drop}
use Rattle.cluster_meaning.specs.Blocks.{blocks_in}

-- ---- lists by numbers

weaker : {A : Type 0} (P Q : A → Type 0) (o : Option A) → IfSome o P → ((x : A) → P x → Q x) → IfSome o Q
weaker P Q None holds goes = tt
weaker P Q (Some x) holds goes = goes x holds

-- an element of a list by numbers
by_number : {X : Type 0} (f : ℕ → X) (a k n : ℕ) → IfSome (slice_get (mapped f (range_with_len a k)) n) (λ x. f (a + n) ≡ x)
by_number f a zero n = tt
by_number f a (suc k) zero = ap f (add-zero a)
by_number f a (suc k) (suc n) =
    let same : a + suc n ≡ a + 1 + n = omega arith in
    weaker (λ x. f (a + 1 + n) ≡ x) (λ x. f (a + suc n) ≡ x) (slice_get (mapped f (range_with_len (a + 1) k)) n) (by_number f (a + 1) k n) (λ x has. ap f same ∙ has)

same_by_number : {X : Type 0} (f g : ℕ → X) (a b k : ℕ) → ((i : ℕ) → i < k → f (a + i) ≡ g (b + i)) → mapped f (range_with_len a k) ≡ mapped g (range_with_len b k)
same_by_number f g a b zero same = refl
same_by_number f g a b (suc k) same =
    let head : f a ≡ g b = ap f (sym (add-zero a)) ∙ same 0 (omega arith) ∙ ap g (add-zero b) in
    let next : (i : ℕ) → i < k → f (a + 1 + i) ≡ g (b + 1 + i) =
    λ i lt.
    (let left : a + 1 + i ≡ a + suc i = omega arith in
    let right : b + suc i ≡ b + 1 + i = omega arith in
    ap f left ∙ same (suc i) (omega (arith, lt)) ∙ ap g right) in
    let rest : mapped f (range_with_len (a + 1) k) ≡ mapped g (range_with_len (b + 1) k) = same_by_number f g (a + 1) (b + 1) k next in
    λ i. head i ∷ rest i

drop_by_number : {X : Type 0} (f : ℕ → X) (n a k : ℕ) → drop n (mapped f (range_with_len a k)) ≡ mapped f (range_with_len (a + n) (k - n))
drop_by_number f zero a k =
    let from : a ≡ a + 0 = omega arith in
    let all : k ≡ k - 0 = omega arith in
    λ i. mapped f (range_with_len (from i) (all i))
drop_by_number f (suc n) a zero =
    let none : 0 ≡ 0 - suc n = omega arith in
    ap (λ k. mapped f (range_with_len (a + suc n) k)) none
drop_by_number f (suc n) a (suc k) =
    let from : a + 1 + n ≡ a + suc n = omega arith in
    let left : k - n ≡ suc k - suc n = omega arith in
    drop_by_number f n (a + 1) k ∙ (λ i. mapped f (range_with_len (from i) (left i)))

take_by_number : {X : Type 0} (f : ℕ → X) (m a k : ℕ) → take m (mapped f (range_with_len a k)) ≡ mapped f (range_with_len a (min m k))
take_by_number f zero a k =
    let none : 0 ≡ min 0 k = omega arith in
    ap (λ j. mapped f (range_with_len a j)) none
take_by_number f (suc m) a zero =
    let none : 0 ≡ min (suc m) 0 = omega arith in
    ap (λ j. mapped f (range_with_len a j)) none
take_by_number f (suc m) a (suc k) =
    let more : suc (min m k) ≡ min (suc m) (suc k) = omega arith in
    ap (λ l. f a ∷ l) (take_by_number f m (a + 1) k) ∙ ap (λ j. mapped f (range_with_len a j)) more

-- ---- blocks

-- a block of bytes is the part that stands at its number
pub block_at : (bytes : List ℕ) (n : ℕ) → IfSome (slice_get (blocks_in bytes) n) (λ block. slice_range bytes (8192 * n) (8192 * n + 8192) ≡ block)
block_at bytes n =
    let from : n ≡ 0 + n = omega arith in
    let f : ℕ → List ℕ = λ k. slice_range bytes (8192 * k) (8192 * k + 8192) in
    weaker (λ block. f (0 + n) ≡ block) (λ block. f n ≡ block) (slice_get (blocks_in bytes) n) (by_number f 0 (length bytes / 8192) n) (λ block has. ap f from ∙ has)

-- a part of a part
part_of : (bytes : List ℕ) (from count a width : ℕ) → a + width ≤ count → take width (drop a (take count (drop from bytes))) ≡ take width (drop (from + a) bytes)
part_of bytes from count a width within =
    let whole : count ≡ a + (count - a) = omega arith in
    let le : width ≤ count - a = omega arith in
    ap (λ c. take width (drop a (take c (drop from bytes)))) whole
    ∙ ap (take width) (drop-take a (count - a) (drop from bytes))
    ∙ take-take width (count - a) (drop a (drop from bytes)) le
    ∙ ap (take width) (drop-drop a from bytes)

-- the blocks of the bytes from a block on
pub piece_is : (bytes : List ℕ) (n count : ℕ) → count ≡ min 1048576 (length bytes - n * 8192) → blocks_in (take count (drop (n * 8192) bytes)) ≡ take 128 (drop n (blocks_in bytes))
piece_is bytes n count is =
    let got : List ℕ = take count (drop (n * 8192) bytes) in
    let f : ℕ → List ℕ = λ k. slice_range bytes (8192 * k) (8192 * k + 8192) in
    let h : ℕ → List ℕ = λ k. slice_range got (8192 * k) (8192 * k + 8192) in
    let behind : length (drop (n * 8192) bytes) ≡ length bytes - n * 8192 = length-drop (n * 8192) bytes in
    let le : count ≤ length (drop (n * 8192) bytes) = omega arith in
    let size : length got ≡ count = length-take-le count (drop (n * 8192) bytes) le in
    let many : length got / 8192 ≡ min 128 (length bytes / 8192 - n) = omega arith in
    let same : (i : ℕ) → i < min 128 (length bytes / 8192 - n) → h (0 + i) ≡ f (0 + n + i) =
    λ i lt.
    (let within : 8192 * (0 + i) + (8192 * (0 + i) + 8192 - 8192 * (0 + i)) ≤ count = omega (arith, lt, is) in
    let width : 8192 * (0 + i) + 8192 - 8192 * (0 + i) ≡ 8192 * (0 + n + i) + 8192 - 8192 * (0 + n + i) = omega arith in
    let from : n * 8192 + 8192 * (0 + i) ≡ 8192 * (0 + n + i) = omega arith in
    part_of bytes (n * 8192) count (8192 * (0 + i)) (8192 * (0 + i) + 8192 - 8192 * (0 + i)) within ∙ (λ j. take (width j) (drop (from j) bytes))) in
    ap (λ k. mapped h (range_with_len 0 k)) many
    ∙ same_by_number h f 0 (0 + n) (min 128 (length bytes / 8192 - n)) same
    ∙ sym (ap (take 128) (drop_by_number f n 0 (length bytes / 8192)) ∙ take_by_number f 128 (0 + n) (length bytes / 8192 - n))
