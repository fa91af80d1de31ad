use Rattle.std.proofs.Common.{◌≡◌, ℕ, true, false, take, Some}
use Rattle.std.specs.Prelude.{nat_eq}
use Rattle.std.specs.List.{list_any}
use Rattle.object_places.specs.Places.{number_place}
use Rattle.catalog.specs.declared.enums.Label.{Label}
use Rattle.catalog.proofs.enum_places.put_labels.Given as goal

abbrev pub invariant-loop-label : goal.invariant-loop-label
invariant-loop-label l =
    record {
      others : (k : ℕ) → list_any (λ (x : Label). nat_eq k x.oid) (take l.label-index l.labels) ≡ false → number_place l.places k ≡ number_place l.fn.places k;
      placed : (k : ℕ) → list_any (λ (x : Label). nat_eq k x.oid) (take l.label-index l.labels) ≡ true → number_place l.places k ≡ Some l.place;
    }
