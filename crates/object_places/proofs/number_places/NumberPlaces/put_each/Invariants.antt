use Rattle.std.proofs.Common.{◌≡◌, ℕ, true, false, take, Some}
use Rattle.std.specs.Prelude.{nat_eq}
use Rattle.std.specs.List.{list_any}
use Rattle.object_places.specs.Places.{number_place}
use Rattle.object_places.proofs.number_places.NumberPlaces.put_each.Given as goal

abbrev pub invariant-loop-number : goal.invariant-loop-number
invariant-loop-number l =
    record {
      others : (q : ℕ) → list_any (nat_eq q) (take l.number-index l.numbers) ≡ false → number_place l.self q ≡ number_place l.fn.self q;
      placed : (q : ℕ) → list_any (nat_eq q) (take l.number-index l.numbers) ≡ true → number_place l.self q ≡ Some l.place;
    }
