-- How the look-ups of enums stay right where a label is written behind those of one.
use Rattle.std.proofs.Common.{◌≡◌, ℕ, zero, suc, true, List, [], ◌∷◌, ◌++◌, Some, set, sym, ap, subst, ◌∙◌}
use Rattle.std.specs.Prelude.{nat_eq, slice_get}
use Rattle.object_places.specs.Places.{number_place}
use Rattle.catalog.specs.declared.enums.Label.{Label}
use Rattle.catalog.specs.declared.enums.EnumType.{EnumType}
use Rattle.catalog.specs.declared.enum_places.EnumPlaces.{EnumPlaces}
use Rattle.catalog.specs.Known.{EnumsKnown}
use Rattle.catalog.proofs.KnownLists.{enum_labelled}

-- what stands at a place is written there again
set_same : {A : Type 0} (xs : List A) (i : ℕ) (x : A) → slice_get xs i ≡ Some x → set xs i x ≡ xs
set_same [] i x h = cc
set_same (y ∷ xs) zero x h = let same : y ≡ x = cc in ap (λ z. z ∷ xs) (sym same)
set_same (y ∷ xs) (suc i) x h = ap (λ zs. y ∷ zs) (set_same xs i x h)

-- its labels are the same, since memory lacked
pub labels_kept : (xs : List EnumType) (i : ℕ) (x : EnumType) (labels : List Label) (p : EnumPlaces) → EnumsKnown xs p → slice_get xs i ≡ Some x → labels ≡ x.labels → EnumsKnown (set xs i (record x { labels = labels })) p
labels_kept xs i x labels p known at same =
    subst (λ (ks : List EnumType). EnumsKnown ks p) (sym (ap (λ (ls : List Label). set xs i (let k : EnumType = record x { labels = ls } in k)) same ∙ set_same xs i x at)) known

-- they have the new one at the end
pub labels_joined : (xs : List EnumType) (i : ℕ) (x : EnumType) (label : Label) (labels : List Label) (p : EnumPlaces) → EnumsKnown xs p → slice_get xs i ≡ Some x → labels ≡ x.labels ++ label ∷ []
    → ((k : ℕ) → nat_eq k label.oid ≡ true → number_place p.labels k ≡ Some i) → EnumsKnown (set xs i (record x { labels = labels })) p
labels_joined xs i x label labels p known at same placed =
    subst (λ (ls : List Label). EnumsKnown (set xs i (let k : EnumType = record x { labels = ls } in k)) p) (sym same) (enum_labelled xs i x label p known at placed)
