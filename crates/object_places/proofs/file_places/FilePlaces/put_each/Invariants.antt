use Rattle.std.proofs.Common.{◌≡◌, ℕ, true, false, take, Some}
use Rattle.std.specs.Prelude.{◌&&◌, nat_eq}
use Rattle.std.specs.List.{list_any}
use Rattle.object_places.specs.Places.{file_place}
use Rattle.object_places.proofs.file_places.FilePlaces.put_each.Given as goal

abbrev pub invariant-loop-number : goal.invariant-loop-number
invariant-loop-number l =
    record {
      others : (t q : ℕ) → (nat_eq t l.tablespace && list_any (nat_eq q) (take l.number-index l.numbers)) ≡ false → file_place l.self t q ≡ file_place l.fn.self t q;
      placed : (t q : ℕ) → (nat_eq t l.tablespace && list_any (nat_eq q) (take l.number-index l.numbers)) ≡ true → file_place l.self t q ≡ Some l.place;
    }
