-- What is written as a field is read as that field.
use Rattle.std.proofs.Common.{◌≡◌, ℕ, zero, suc, ◌+◌, ◌-◌, ◌*◌, ◌/◌, ◌%◌, ◌^◌, ◌<◌, ◌≤◌, Bool, true, false, cond, eqb, ltb, leb, not, ◌&&◌, List, [], ◌∷◌, ◌++◌, length, slice_index, replicate, Ok, refl, sym, ap, ◌∙◌, subst, inl, inr, ◌⊎◌, add-zero, append_assoc, length-append, arith}
use Rattle.std.specs.List.{slice_range}
use Rattle.std.proofs.lemmas.Bool.{le-ltb, lt-leb}
use Rattle.std.proofs.lemmas.Bool.Decides.{nat_tests}
use Rattle.std.proofs.lemmas.List.{length-replicate}
use Rattle.std.proofs.Math.Seq.{drop-append_seam, take-append_seam, get_or-append_seam}
use Rattle.byteorder.specs.Endian.{little_bytes, little_from}
use Rattle.byteorder.specs.Numbers.{little_number-reads_back}
use Rattle.heap_tuple.specs.declared.shape.Align.{Align}
use Rattle.heap_tuple.specs.declared.shape.Shape.{Shape}
use Rattle.heap_tuple.specs.declared.field.ToastPointer.{ToastPointer}
use Rattle.heap_tuple.specs.Numbers.{u32_at}
use Rattle.heap_tuple.specs.Field.{FieldValue, bytes, compressed, pointer}
use Rattle.heap_tuple.specs.Column.{ending, field_in, is_varlena, long_field, pointer_at, pointer_field, raised, short_field, start_of, varlena_field}
use Rattle.heap_tuple.specs.Written.{fixed, varlena, padding, short_bytes, long_bytes, pointer_bytes}
use Rattle.heap_tuple.proofs.NumberLemmas.{little_from-drop}
use Rattle.heap_tuple.proofs.ExtentLemmas.{le-raised}

-- ---- what stands behind a front

number_behind : (front tail : List ℕ) (n : ℕ) → little_from (length front) n (front ++ tail) ≡ little_from 0 n tail
number_behind front tail n =
    sym (little_from-drop 0 n (length front) (front ++ tail) ∙ ap (λ (p : ℕ). little_from p n (front ++ tail)) (add-zero (length front)))
    ∙ ap (little_from 0 n) (drop-append_seam front tail)

u32_behind : (front tail : List ℕ) (place x : ℕ) → place ≡ length front → x < 2 ^ 32 → u32_at (front ++ (little_bytes 4 x ++ tail)) place ≡ x
unfolding u32_at
u32_behind front tail place x at fits =
    ap (λ (p : ℕ). little_from p 4 (front ++ (little_bytes 4 x ++ tail))) at
    ∙ number_behind front (little_bytes 4 x ++ tail) 4
    ∙ little_number-reads_back 4 x tail fits

part_behind : (front part tail : List ℕ) (from end : ℕ) → from ≡ length front → end ≡ length front + length part → slice_range (front ++ (part ++ tail)) from end ≡ part
part_behind front part tail from end at ends =
    let size : end - from ≡ length part = omega arith in
    rw (size, at, drop-append_seam front (part ++ tail)) (take-append_seam part tail)

byte_behind : (front tail : List ℕ) (place b : ℕ) → place ≡ length front → slice_index (front ++ (b ∷ tail)) place ≡ b
byte_behind front tail place b at = rw at (get_or-append_seam front b tail 0)

length_behind : (front part tail : List ℕ) (end : ℕ) → end ≡ length front + length part → end ≤ length (front ++ (part ++ tail))
length_behind front part tail end ends =
    omega (arith, length-append front (part ++ tail), length-append part tail)

-- ---- padding

length-padded : (before : List ℕ) (align : Align) → length (before ++ padding (length before) align) ≡ raised (length before) align
length-padded before align =
    let pad = raised (length before) align - length before in
    omega (arith, length-append before (replicate pad 0), length-replicate {A = ℕ} pad 0, le-raised (length before) align)

padded : (before tail : List ℕ) (k : ℕ) → (slice_index (before ++ replicate k 0 ++ tail) (length before) ≡ 0) ⊎ (k ≡ 0)
padded before tail zero = inr refl
padded before tail (suc k) =
    inl (rw (append_assoc before (replicate (suc k) 0) tail) (byte_behind before (replicate k 0 ++ tail) (length before) 0 refl))

same_or : (test : Bool) (place other : ℕ) → other ≡ place → cond test place other ≡ other
same_or true place other h = sym h
same_or false place other h = refl

tested_not : (test : Bool) (place other : ℕ) → cond (test && not (eqb 0 0)) place other ≡ other
tested_not true place other = refl
tested_not false place other = refl

unaligned_not : (area : List ℕ) (shape : Shape) (place : ℕ) → slice_index area place ≡ 0 → start_of area shape place ≡ raised place shape.align
unaligned_not area shape place empty =
    rw empty (tested_not (is_varlena shape.length) place (raised place shape.align))

-- behind padding, or where none is needed, a field that is aligned begins
starts_aligned : (before tail : List ℕ) (shape : Shape) → start_of (before ++ padding (length before) shape.align ++ tail) shape (length before) ≡ raised (length before) shape.align
starts_aligned before tail shape =
    let place = length before in
    let there = raised place shape.align in
    let area = before ++ padding place shape.align ++ tail in
    elim (padded before tail (there - place)) [
      | inl zero_there ↦ unaligned_not area shape place zero_there
      | inr none ↦ same_or _ place there (omega (arith, le-raised place shape.align))
    ]

-- ---- one field

ends_so : (area : List ℕ) (end last : ℕ) (read value : FieldValue) → end ≤ length area → read ≡ value → end ≡ last → ending area end read ≡ Ok (value, last)
ends_so area end last read value within same at =
    let fits : ltb (length area) end ≡ false = le-ltb (length area) end within in
    rw (fits, same, at) refl

pub written_fixed : (before value rest : List ℕ) (align : Align) → field_in (before ++ padding (length before) align ++ value ++ rest) (fixed (length value) align) (length before) ≡ Ok (bytes value, raised (length before) align + length value)
unfolding field_in
written_fixed before value rest align =
    let front = before ++ padding (length before) align in
    let start = raised (length before) align in
    let end = start + length value in
    let at : start ≡ length front = sym (length-padded before align) in
    let regroup : front ++ value ++ rest ≡ front ++ (value ++ rest) = append_assoc front value rest in
    let ends : end ≡ length front + length value = omega arith in
    let part : slice_range (front ++ value ++ rest) start end ≡ value = rw regroup (part_behind front value rest start end at ends) in
    let within : end ≤ length (front ++ value ++ rest) = rw regroup (length_behind front value rest end ends) in
    ends_so (front ++ value ++ rest) end end (bytes (slice_range (front ++ value ++ rest) start end)) (bytes value) within (ap bytes part) refl

starts_at_once : (area : List ℕ) (align : Align) (place b : ℕ) → slice_index area place ≡ b → eqb b 0 ≡ false → start_of area (varlena align) place ≡ place
starts_at_once area align place b first some = rw (first, some) refl

-- the header of one byte
odd_size : (n : ℕ) → (2 * (n + 1) + 1) / 2 ≡ n + 1
odd_size n = omega arith

reads_short : (area : List ℕ) (start b : ℕ) → start < length area → slice_index area start ≡ b → eqb b 1 ≡ false → eqb (b % 2) 1 ≡ true → varlena_field area start ≡ short_field area start
unfolding varlena_field
reads_short area start b within first some odd =
    let there : leb (length area) start ≡ false = lt-leb (length area) start within in
    let one : eqb (slice_index area start) 1 ≡ false = rw first some in
    let two : eqb (slice_index area start % 2) 1 ≡ true = rw first odd in
    rw (there, one, two) refl

pub written_short : (before value rest : List ℕ) (align : Align) → field_in (before ++ short_bytes value ++ rest) (varlena align) (length before) ≡ Ok (bytes value, length before + (length value + 1))
unfolding field_in
written_short before value rest align =
    let header = 2 * (length value + 1) + 1 in
    let place = length before in
    let area = before ++ short_bytes value ++ rest in
    let regroup : area ≡ before ++ (header ∷ (value ++ rest)) = append_assoc before (header ∷ value) rest in
    let first : slice_index area place ≡ header = rw regroup (byte_behind before (value ++ rest) place header refl) in
    let size : slice_index area place / 2 ≡ length value + 1 = rw first (odd_size (length value)) in
    let front = before ++ (header ∷ []) in
    let again : area ≡ front ++ (value ++ rest) = regroup ∙ sym (append_assoc before (header ∷ []) (value ++ rest)) in
    let ahead : length front ≡ place + 1 = length-append before (header ∷ []) in
    let end = place + slice_index area place / 2 in
    let ends : end ≡ length front + length value = omega arith in
    let part : slice_range area (place + 1) end ≡ value = ap (λ (a : List ℕ). slice_range a (place + 1) end) again ∙ part_behind front value rest (place + 1) end (sym ahead) ends in
    let within : end ≤ length area = subst (λ (a : List ℕ). end ≤ length a) (sym again) (length_behind front value rest end ends) in
    let some : eqb header 0 ≡ false = grind (arith, nat_tests) in
    let other : eqb header 1 ≡ false = grind (arith, nat_tests) in
    let odd : eqb (header % 2) 1 ≡ true = grind (arith, nat_tests) in
    let begun : place < length area = omega arith in
    ap (varlena_field area) (starts_at_once area align place header first some)
    ∙ reads_short area place header begun first other odd
    ∙ ends_so area end (place + (length value + 1)) (bytes (slice_range area (place + 1) end)) (bytes value) within (ap bytes part) (omega arith)

-- the header of four bytes
long_so : (make : List ℕ → FieldValue) (least : ℕ) (area : List ℕ) (start : ℕ) → start + 4 ≤ length area → least ≤ u32_at area start / 4 → long_field make least area start ≡ ending area (start + u32_at area start / 4) (make (slice_range area (start + 4) (start + u32_at area start / 4)))
long_so make least area start header enough =
    let there : ltb (length area) (start + 4) ≡ false = le-ltb (length area) (start + 4) header in
    let room : ltb (u32_at area start / 4) least ≡ false = le-ltb (u32_at area start / 4) least enough in
    rw (there, room) refl

whole_size : (n kind : ℕ) → kind < 4 → (4 * (n + 4) + kind) / 4 ≡ n + 4
whole_size n kind h = omega arith

written_long : (make : List ℕ → FieldValue) (least kind : ℕ) (before value rest : List ℕ) (align : Align) → kind < 4 → 4 * (length value + 4) + kind < 2 ^ 32 → least ≤ length value + 4 → ((area : List ℕ) (start : ℕ) → start < length area → slice_index area start ≡ (4 * (length value + 4) + kind) % 256 → varlena_field area start ≡ long_field make least area start) → field_in (before ++ padding (length before) align ++ long_bytes kind value ++ rest) (varlena align) (length before) ≡ Ok (make value, raised (length before) align + (length value + 4))
unfolding field_in
written_long make least kind before value rest align small fits enough reads =
    let front = before ++ padding (length before) align in
    let start = raised (length before) align in
    let number = 4 * (length value + 4) + kind in
    let head = little_bytes 4 number in
    let area = front ++ long_bytes kind value ++ rest in
    let at : start ≡ length front = sym (length-padded before align) in
    let regroup : area ≡ front ++ (head ++ (value ++ rest)) = append_assoc front (head ++ value) rest in
    let size : u32_at area start ≡ number = ap (λ (a : List ℕ). u32_at a start) regroup ∙ u32_behind front (value ++ rest) start number at fits in
    let total : u32_at area start / 4 ≡ length value + 4 = ap (λ (n : ℕ). n / 4) size ∙ whole_size (length value) kind small in
    let first : slice_index area start ≡ number % 256 = ap (λ (a : List ℕ). slice_index a start) regroup ∙ byte_behind front _ start (number % 256) at in
    let ahead : length (front ++ head) ≡ length front + 4 = length-append front head in
    let again : area ≡ front ++ head ++ (value ++ rest) = regroup ∙ sym (append_assoc front head (value ++ rest)) in
    let end = start + u32_at area start / 4 in
    let ends : end ≡ length (front ++ head) + length value = omega arith in
    let part : slice_range area (start + 4) end ≡ value = ap (λ (a : List ℕ). slice_range a (start + 4) end) again ∙ part_behind (front ++ head) value rest (start + 4) end (omega arith) ends in
    let within : end ≤ length area = subst (λ (a : List ℕ). end ≤ length a) (sym again) (length_behind (front ++ head) value rest end ends) in
    let begun : start < length area = omega arith in
    ap (varlena_field area) (ap (λ (a : List ℕ). start_of a (varlena align) (length before)) (append_assoc front (head ++ value) rest) ∙ starts_aligned before (long_bytes kind value ++ rest) (varlena align))
    ∙ reads area start begun first
    ∙ long_so make least area start (omega arith) (omega arith)
    ∙ ends_so area end (start + (length value + 4)) (make (slice_range area (start + 4) end)) (make value) within (ap make part) (omega arith)

aligned_bytes : (n kind : ℕ) → (4 * n + kind) % 256 % 4 ≡ kind % 4
aligned_bytes n kind = omega arith

reads_long : (area : List ℕ) (start b : ℕ) → start < length area → slice_index area start ≡ b → b % 4 ≡ 0 → varlena_field area start ≡ long_field bytes 4 area start
unfolding varlena_field
reads_long area start b within first low =
    let there : leb (length area) start ≡ false = lt-leb (length area) start within in
    let one : eqb (slice_index area start) 1 ≡ false = rw first (grind (arith, nat_tests)) in
    let two : eqb (slice_index area start % 2) 1 ≡ false = rw first (grind (arith, nat_tests)) in
    let four : eqb (slice_index area start % 4) 0 ≡ true = rw first (grind (arith, nat_tests)) in
    rw (there, one, two, four) refl

reads_compressed : (area : List ℕ) (start b : ℕ) → start < length area → slice_index area start ≡ b → b % 4 ≡ 2 → varlena_field area start ≡ long_field compressed 8 area start
unfolding varlena_field
reads_compressed area start b within first low =
    let there : leb (length area) start ≡ false = lt-leb (length area) start within in
    let one : eqb (slice_index area start) 1 ≡ false = rw first (grind (arith, nat_tests)) in
    let two : eqb (slice_index area start % 2) 1 ≡ false = rw first (grind (arith, nat_tests)) in
    let four : eqb (slice_index area start % 4) 0 ≡ false = rw first (grind (arith, nat_tests)) in
    rw (there, one, two, four) refl

pub written_whole : (before value rest : List ℕ) (align : Align) → length value + 4 < 2 ^ 30 → field_in (before ++ padding (length before) align ++ long_bytes 0 value ++ rest) (varlena align) (length before) ≡ Ok (bytes value, raised (length before) align + (length value + 4))
written_whole before value rest align fits =
    written_long bytes 4 0 before value rest align (omega arith) (omega arith) (omega arith) (λ area start begun first. reads_long area start _ begun first (aligned_bytes (length value + 4) 0))

pub written_compressed : (before value rest : List ℕ) (align : Align) → 4 ≤ length value → length value + 4 < 2 ^ 30 → field_in (before ++ padding (length before) align ++ long_bytes 2 value ++ rest) (varlena align) (length before) ≡ Ok (compressed value, raised (length before) align + (length value + 4))
written_compressed before value rest align least fits =
    written_long compressed 8 2 before value rest align (omega arith) (omega arith) (omega arith) (λ area start begun first. reads_compressed area start _ begun first (aligned_bytes (length value + 4) 2))

-- ---- a pointer

reads_pointer : (area : List ℕ) (start : ℕ) → start < length area → slice_index area start ≡ 1 → varlena_field area start ≡ pointer_field area start
unfolding varlena_field
reads_pointer area start within first =
    let there : leb (length area) start ≡ false = lt-leb (length area) start within in
    rw (there, first) refl

pointer_so : (area : List ℕ) (start : ℕ) (to : ToastPointer) → start + 18 ≤ length area → slice_index area (start + 1) ≡ 18 → pointer_at area start ≡ to → pointer_field area start ≡ Ok (pointer to, start + 18)
pointer_so area start to within tag same =
    let there : ltb (length area) (start + 2) ≡ false = le-ltb (length area) (start + 2) (omega arith) in
    let whole : ltb (length area) (start + 18) ≡ false = le-ltb (length area) (start + 18) within in
    rw (there, tag, whole) (ap (λ (t : ToastPointer). Ok (pointer t, start + 18)) same)

size_bits : (size method : ℕ) → size < 2 ^ 30 → (size + 2 ^ 30 * method) % 2 ^ 30 ≡ size
size_bits size method h = omega arith

method_bits : (size method : ℕ) → size < 2 ^ 30 → (size + 2 ^ 30 * method) / 2 ^ 30 ≡ method
method_bits size method h = omega arith

-- a number of four bytes, some bytes behind the place
number_at : (area before cells tail : List ℕ) (back x : ℕ) → area ≡ before ++ (cells ++ (little_bytes 4 x ++ tail)) → length cells ≡ back → x < 2 ^ 32 → u32_at area (length before + back) ≡ x
number_at area before cells tail back x same size fits =
    ap (λ (a : List ℕ). u32_at a (length before + back)) (same ∙ sym (append_assoc before cells (little_bytes 4 x ++ tail)))
    ∙ u32_behind (before ++ cells) tail (length before + back) x (omega (arith, length-append before cells)) fits

same_pointer : (area : List ℕ) (start : ℕ) (to : ToastPointer) → u32_at area (start + 2) ≡ to.rawsize → u32_at area (start + 6) % 2 ^ 30 ≡ to.size → u32_at area (start + 6) / 2 ^ 30 ≡ to.method → u32_at area (start + 10) ≡ to.value → u32_at area (start + 14) ≡ to.relation → pointer_at area start ≡ to
same_pointer area start to raw size method value relation = rw (raw, size, method, value, relation) refl

pub written_pointer : (before rest : List ℕ) (align : Align) (to : ToastPointer) → to.rawsize < 2 ^ 32 → to.size < 2 ^ 30 → to.method < 4 → to.value < 2 ^ 32 → to.relation < 2 ^ 32 → field_in (before ++ pointer_bytes to ++ rest) (varlena align) (length before) ≡ Ok (pointer to, length before + 18)
unfolding field_in
written_pointer before rest align to raw size two value relation =
    let place = length before in
    let extinfo = to.size + 2 ^ 30 * to.method in
    let a = little_bytes 4 to.rawsize in
    let b = little_bytes 4 extinfo in
    let c = little_bytes 4 to.value in
    let d = little_bytes 4 to.relation in
    let area = before ++ pointer_bytes to ++ rest in
    let whole : area ≡ before ++ (1 ∷ 18 ∷ (a ++ (b ++ (c ++ (d ++ rest))))) = append_assoc before (pointer_bytes to) rest in
    let same : pointer_at area place ≡ to = same_pointer area place to
    (number_at area before (1 ∷ 18 ∷ []) (b ++ (c ++ (d ++ rest))) 2 to.rawsize whole refl raw)
    (ap (λ (n : ℕ). n % 2 ^ 30) (number_at area before (1 ∷ 18 ∷ a) (c ++ (d ++ rest)) 6 extinfo whole refl (omega arith)) ∙ size_bits to.size to.method size)
    (ap (λ (n : ℕ). n / 2 ^ 30) (number_at area before (1 ∷ 18 ∷ a) (c ++ (d ++ rest)) 6 extinfo whole refl (omega arith)) ∙ method_bits to.size to.method size)
    (number_at area before (1 ∷ 18 ∷ (a ++ b)) (d ++ rest) 10 to.value whole refl value)
    (number_at area before (1 ∷ 18 ∷ (a ++ (b ++ c))) rest 14 to.relation whole refl relation) in
    let first : slice_index area place ≡ 1 = ap (λ (x : List ℕ). slice_index x place) whole ∙ byte_behind before _ place 1 refl in
    let tag : slice_index area (place + 1) ≡ 18 = ap (λ (x : List ℕ). slice_index x (place + 1)) (whole ∙ sym (append_assoc before (1 ∷ []) (18 ∷ (a ++ (b ++ (c ++ (d ++ rest))))))) ∙ byte_behind (before ++ (1 ∷ [])) _ (place + 1) 18 (sym (length-append before (1 ∷ []))) in
    let within : place + 18 ≤ length area = omega (arith, length-append (before ++ pointer_bytes to) rest, length-append before (pointer_bytes to)) in
    ap (varlena_field area) (starts_at_once area align place 1 first refl)
    ∙ reads_pointer area place (omega arith) first
    ∙ pointer_so area place to within tag same
