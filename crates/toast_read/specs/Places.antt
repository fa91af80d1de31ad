-- What is noted of the chunks of one value.
use Rattle.std.specs.Prelude.{◌≡◌, ℕ, List, option_and_then, slice_get, is_some, take, Option, Some, None}
use Rattle.std.specs.List.{list_any, find}
use Rattle.toast_read.specs.declared.chunk.Chunk.{Chunk}
use Rattle.toast_read.specs.declared.join.Numbers.{Numbers}
use Rattle.toast_read.specs.Chunks.{has_seq, is_twice}
use Rattle.std.specs.BTreeMap.{get}
use Rattle.std.specs.Ordering.{nat_cmp}

-- the first of the two that there is
abbrev pub or_else : {X : Type 0} → Option X → Option X → Option X
or_else None later = later
or_else (Some x) later = Some x

-- of the first n chunks: which numbers there are, where a chunk of each stands, which is the first, and which come twice
pub record TellsFirst (parts : List Chunk) (n : ℕ) (numbers : Numbers) : Type 0 where
  pub present : (seq : ℕ) → is_some (get nat_cmp numbers.places seq) ≡ list_any (has_seq seq) (take n parts)
  pub places : (seq : ℕ) → option_and_then (λ place. slice_get parts place) (get nat_cmp numbers.places seq) ≡ find (has_seq seq) (take n parts)
  pub twice : (seq : ℕ) → is_some (get nat_cmp numbers.twice seq) ≡ is_twice (take n parts) seq

-- which numbers there are, where a chunk of each stands, which is the first, and which numbers come twice
pub record TellsPlaces (parts : List Chunk) (numbers : Numbers) : Type 0 where
  pub present : (seq : ℕ) → is_some (get nat_cmp numbers.places seq) ≡ list_any (has_seq seq) parts
  pub places : (seq : ℕ) → option_and_then (λ place. slice_get parts place) (get nat_cmp numbers.places seq) ≡ find (has_seq seq) parts
  pub twice : (seq : ℕ) → is_some (get nat_cmp numbers.twice seq) ≡ is_twice parts seq
