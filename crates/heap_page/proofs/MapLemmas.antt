-- What the byte at a block's place in the map says.
use Rattle.std.proofs.Common.{◌≡◌, ℕ, ◌/◌, ◌^◌, ◌<◌, List, length, get_or, Some, refl, sym, ap, ◌∙◌, bit_and}
use Rattle.std.specs.Prelude.{slice_get}
use Rattle.std.proofs.lemmas.Nat.{and_mask}
use Rattle.std.proofs.lemmas.Option.{slice_get-get_or}
use Rattle.heap_page.specs.Map.{bits_of, map_byte, map_shift}

pub bits_of-at : (vm : List ℕ) (block place bits : ℕ) → place ≡ map_byte block → place < length vm → bits ≡ get_or vm place bits → Some (bit_and (bits / 2 ^ map_shift block) 3) ≡ bits_of vm block
bits_of-at vm block place bits same inside at =
    let found : slice_get vm (map_byte block) ≡ Some bits = rw (← same) (slice_get-get_or vm place bits inside ∙ ap Some (sym at)) in
    rw (found, and_mask (bits / 2 ^ map_shift block) 2) refl
