-- One block more, and one segment more.
use Rattle.std.proofs.Common.{◌≡◌, ◌∙◌, ℕ, zero, suc, ◌+◌, ◌<◌, ◌≤◌, List, [], ◌∷◌, ◌++◌, length, take, Option, Some, None, Result, Ok, Err, IfOk, IfSome, slice_get, get_or, flat_map, refl, ap, sym, subst, append_assoc, arith}
use Rattle.std.proofs.Common.{◌-◌, ◌*◌, drop, min}
use Rattle.std.specs.Int.{div_ceil}
use Rattle.std.proofs.Math.Seq.{take-add}
use Rattle.std.proofs.lemmas.List.{take_more, append-nil, length-take-le, length-take, length-drop, drop-take, take_all}
use Rattle.std.specs.List.{AllByRecursion}
use Rattle.std.proofs.lemmas.Option.{slice_get-get_or}
use Rattle.std.proofs.lemmas.Grind.{flat_map-append}
use Rattle.std.specs.Prelude.{IsErrAnd}
use Rattle.std.proofs.lemmas.Result.{err_from_is_err_and}
use Rattle.fs_model.specs.declared.error.FsError.{FsError}
use Rattle.fs_model.specs.declared.error.FsError.TheVariants.{OutOfMemory}
use Rattle.fs_model.specs.Trail.{DecidedBy, error_of, unless_lack}
use Rattle.toast_read.specs.declared.chunk.Chunk.{Chunk}
use Rattle.cluster_meaning.specs.Blocks.{numbered}
use Rattle.cluster_meaning.specs.Chunks.{chunks_in}
use Rattle.fork_scan.specs.Scans.{chunks_at}
use Rattle.visibility.specs.Taken.{Taken}
use Rattle.cluster_meaning.specs.Meaning.{Reading}
use Rattle.block_rows.specs.declared.rows.Rows.{Rows}
use Rattle.block_rows.specs.Rows.{AddsRows}
use Rattle.block_rows.proofs.Adding.{adds_then}
use Rattle.fs_model.specs.Observed.{Observed, OnlyReads}
use Rattle.fork_read.proofs.Numbered.{numbered-append}
use Rattle.fs_model.proofs.Observing.{reads_then, reads_unless_lack}

-- a call whose answer is given on, behind a run
pub reads_on : {T : Type 0} (a b c : Observed) (error : FsError) (answer : Result T FsError) → answer ≡ Err error → OnlyReads a b None → OnlyReads b c (error_of answer) → OnlyReads a c (unless_lack (Some error))
reads_on a b c error answer is front back = reads_unless_lack a c (Some error) (reads_then a b c None (Some error) tt front (subst (λ r. OnlyReads b c (error_of r)) is back))

-- a call that answered well, behind a run
pub reads_more : {T : Type 0} (a b c : Observed) (value : T) (answer : Result T FsError) → answer ≡ Ok value → OnlyReads a b None → OnlyReads b c (error_of answer) → OnlyReads a c None
reads_more a b c value answer is front back = reads_then a b c None None tt front (subst (λ r. OnlyReads b c (error_of r)) is back)

-- the first blocks with one more, and their numbers
pub block_more : (first n : ℕ) (blocks : List (List ℕ)) (got : List ℕ) → n < length blocks → IfSome (slice_get blocks n) (λ block. got ≡ block)
    → numbered first (take (n + 1) blocks) ≡ numbered first (take n blocks) ++ (first + n, got) ∷ []
block_more first n blocks got lt read =
    let stands : slice_get blocks n ≡ Some (get_or blocks n got) = slice_get-get_or blocks n got lt in
    let same : got ≡ get_or blocks n got = subst (λ o. IfSome o (λ block. got ≡ block)) stands read in
    let back : get_or blocks n got ≡ got = sym same in
    let le : n ≤ length blocks = omega arith in
    let size : length (take n blocks) ≡ n = length-take-le n blocks le in
    ap (numbered first) (take_more blocks n got lt) ∙ numbered-append first (take n blocks) (get_or blocks n got ∷ [])
    ∙ (λ i. numbered first (take n blocks) ++ (first + size i, back i) ∷ [])

-- the first elements of the first elements
take_twice : {X : Type 0} (m k : ℕ) (xs : List X) → take m (take k xs) ≡ take (min m k) xs
take_twice {X} zero k xs =
    let none : 0 ≡ min 0 k = omega arith in
    ap (λ j. take j xs) none
take_twice {X} (suc m) zero xs =
    let none : 0 ≡ min (suc m) 0 = omega arith in
    ap (λ j. take j xs) none
take_twice {X} (suc m) (suc k) [] =
    let more : suc (min m k) ≡ min (suc m) (suc k) = omega arith in
    let nothing : List X = [] in
    ap (λ j. take j nothing) more
take_twice {X} (suc m) (suc k) (x ∷ xs) =
    let more : suc (min m k) ≡ min (suc m) (suc k) = omega arith in
    ap (λ l. x ∷ l) (take_twice m k xs) ∙ ap (λ j. take j (x ∷ xs)) more

-- the first blocks of a segment with those of a piece more, and their numbers
pub piece_more : (first blocks n : ℕ) (file piece : List (List ℕ)) → n < blocks → blocks ≤ length file → piece ≡ take 128 (drop n file)
    → numbered first (take (n + 128) (take blocks file)) ≡ numbered first (take n (take blocks file)) ++ numbered (first + n) (take (min 128 (blocks - n)) piece)
piece_more first blocks n file piece lt stand is =
    let xs : List (List ℕ) = take blocks file in
    let all : blocks ≡ n + (blocks - n) = omega arith in
    let long : length xs ≡ blocks = length-take-le blocks file stand in
    let le : n ≤ length xs = omega arith in
    let size : length (take n xs) ≡ n = length-take-le n xs le in
    let few : min 128 (blocks - n) ≡ min (min 128 (blocks - n)) 128 = omega arith in
    let behind : drop n xs ≡ take (blocks - n) (drop n file) = ap (λ k. drop n (take k file)) all ∙ drop-take n (blocks - n) file in
    let more : take 128 (drop n xs) ≡ take (min 128 (blocks - n)) piece =
    ap (take 128) behind ∙ take_twice 128 (blocks - n) (drop n file) ∙ ap (λ k. take k (drop n file)) few ∙ sym (take_twice (min 128 (blocks - n)) 128 (drop n file))
    ∙ ap (take (min 128 (blocks - n))) (sym is) in
    ap (numbered first) (take-add n 128 xs) ∙ numbered-append first (take n xs) (take 128 (drop n xs))
    ∙ (λ i. numbered first (take n xs) ++ numbered (first + size i) (more i))

-- a piece begins before the last block of its segment
pub piece_before : (piece pieces blocks : ℕ) → piece < pieces → pieces ≡ div_ceil blocks 128 → piece * 128 < blocks
piece_before piece pieces blocks lt is = omega (arith, lt, is)

-- the blocks of a piece that count are there
pub piece_length : (blocks n : ℕ) (file piece : List (List ℕ)) → n < blocks → blocks ≤ length file → piece ≡ take 128 (drop n file) → min 128 (blocks - n) ≤ length piece
piece_length blocks n file piece lt stand is =
    let behind : length (drop n file) ≡ length file - n = length-drop n file in
    let size : length piece ≡ min 128 (length (drop n file)) = ap length is ∙ length-take 128 (drop n file) in
    omega arith

-- all blocks of a segment were read
pub pieces_all : (pieces blocks : ℕ) (file : List (List ℕ)) → div_ceil blocks 128 ≤ pieces → blocks ≤ length file → take (pieces * 128) (take blocks file) ≡ take blocks file
pieces_all pieces blocks file le stand =
    let long : length (take blocks file) ≡ blocks = length-take-le blocks file stand in
    let enough : length (take blocks file) ≤ pieces * 128 = omega arith in
    take_all (pieces * 128) (take blocks file) enough

-- want of memory of a function's own
pub lacked : {T : Type 0} (before after : Observed) (result : Result T FsError) → IsErrAnd result (λ e. e ≡ OutOfMemory) → OnlyReads before after None → OnlyReads before after (unless_lack (error_of result))
lacked before after result is reads =
    let p = err_from_is_err_and result is in
    subst (λ answer. OnlyReads before after (unless_lack answer)) (sym (ap error_of p.1 ∙ ap (λ e. Some e) p.2)) reads

-- ---- segments

-- a function that answered well, behind a run
pub runs_more : {T : Type 0} (a b c : Observed) (value : T) (answer : Result T FsError) → answer ≡ Ok value → OnlyReads a b None → OnlyReads b c (unless_lack (error_of answer)) → OnlyReads a c None
runs_more a b c value answer is front back = reads_then a b c None None tt front (subst (λ r. OnlyReads b c (unless_lack (error_of r))) is back)

-- a function whose answer is given on, behind a run
pub runs_on : {T : Type 0} (a b c : Observed) (error : FsError) (answer : Result T FsError) → answer ≡ Err error → OnlyReads a b None → OnlyReads b c (unless_lack (error_of answer)) → OnlyReads a c (unless_lack (Some error))
runs_on a b c error answer is front back = reads_then a b c None (unless_lack (Some error)) tt front (subst (λ r. OnlyReads b c (unless_lack (error_of r))) is back)

-- what holds of each element holds of one
pub all_at : {X : Type 0} (P : X → Type 0) (xs : List X) (i : ℕ) (x : X) → AllByRecursion P xs → i < length xs → P (get_or xs i x)
all_at P [] i x all lt = absurd (omega (arith, lt))
all_at P (y ∷ ys) zero x all lt = all.0
all_at P (y ∷ ys) (suc i) x all lt = all_at P ys i x all.1 (omega (arith, lt))

-- one element more
pub over_more : {X Y : Type 0} (f : X → List Y) (xs : List X) (i : ℕ) (x : X) → i < length xs → x ≡ get_or xs i x → flat_map f (take (i + 1) xs) ≡ flat_map f (take i xs) ++ f x
over_more f xs i x lt is =
    ap (flat_map f) (take_more xs i x lt ∙ ap (λ y. take i xs ++ y ∷ []) (sym is))
    ∙ flat_map-append f (take i xs) (x ∷ [])
    ∙ ap (λ l. flat_map f (take i xs) ++ l) (append-nil (f x))

-- what stands behind what was gathered
pub gathered : {X Y : Type 0} (f : X → List Y) (before old new : List Y) (xs ys : List X) → old ≡ before ++ flat_map f xs → new ≡ old ++ flat_map f ys → new ≡ before ++ flat_map f (xs ++ ys)
gathered f before old new xs ys so_far more =
    more ∙ ap (λ l. l ++ flat_map f ys) so_far ∙ append_assoc before (flat_map f xs) (flat_map f ys) ∙ ap (λ l. before ++ l) (sym (flat_map-append f xs ys))

-- the numbers of blocks tell nothing of their chunks
pub chunks_of_numbered : (n : ℕ) (blocks : List (List ℕ)) → flat_map chunks_at (numbered n blocks) ≡ flat_map chunks_in blocks
chunks_of_numbered n [] = refl
chunks_of_numbered n (block ∷ blocks) = ap (λ l. chunks_in block ++ l) (chunks_of_numbered (n + 1) blocks)

-- a piece's chunks behind those that were gathered
pub chunks_then : (before old new : List Chunk) (xs more : List (ℕ × List ℕ)) (n : ℕ) (piece : List (List ℕ)) → more ≡ xs ++ numbered n piece → old ≡ before ++ flat_map chunks_at xs → new ≡ old ++ flat_map chunks_in piece
    → new ≡ before ++ flat_map chunks_at more
chunks_then before old new xs more n piece all so_far is =
    gathered chunks_at before old new xs (numbered n piece) so_far (is ∙ ap (λ l. old ++ l) (sym (chunks_of_numbered n piece))) ∙ ap (λ l. before ++ flat_map chunks_at l) (sym all)

-- one block more in a piece
pub in_piece_more : {X : Type 0} (f : List ℕ → List X) (blocks : List (List ℕ)) (n : ℕ) (got : List ℕ) (before old new : List X) → n < length blocks → IfSome (slice_get blocks n) (λ block. got ≡ block)
    → old ≡ before ++ flat_map f (take n blocks) → new ≡ old ++ f got → new ≡ before ++ flat_map f (take (n + 1) blocks)
in_piece_more f blocks n got before old new lt read so_far is =
    let stands : slice_get blocks n ≡ Some (get_or blocks n got) = slice_get-get_or blocks n got lt in
    let same : got ≡ get_or blocks n got = subst (λ o. IfSome o (λ block. got ≡ block)) stands read in
    is ∙ ap (λ l. l ++ f got) so_far ∙ append_assoc before (flat_map f (take n blocks)) (f got)
    ∙ ap (λ l. before ++ l) (sym (over_more f blocks n got lt same))

-- ---- answers

-- want of memory is decided by nothing
pub lack_free : {T : Type 0} (refused : Option FsError) (result : Result T FsError) → IsErrAnd result (λ e. e ≡ OutOfMemory) → DecidedBy refused result
lack_free refused result is =
    let p = err_from_is_err_and result is in
    subst (DecidedBy refused) (sym (p.1 ∙ ap (λ e. Err e) p.2)) tt
