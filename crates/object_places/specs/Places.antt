-- What each kind of places answers for a key.
use Rattle.std.specs.Prelude.{ℕ, List, Option, Some, None}
use Rattle.std.specs.declared.cmp.Ordering.{Ordering}
use Rattle.std.specs.Ordering.{nat_cmp, ordering_then}
use Rattle.std.specs.Cmp.Lexicographic.{slice_cmp}
use Rattle.std.specs.BTreeMap.{BTreeMap, get, get_by}
use Rattle.std.specs.declared.vec.Vec.{Vec}
use Rattle.std.specs.declared.alloc.Global.{Global}
use Rattle.object_places.specs.declared.number_places.NumberPlaces.{NumberPlaces}
use Rattle.object_places.specs.declared.file_places.FilePlaces.{FilePlaces}
use Rattle.object_places.specs.declared.text_places.TextPlaces.{TextPlaces}
use Rattle.object_places.specs.declared.name_places.NamePlaces.{NamePlaces}

abbrev pub number_place : NumberPlaces → ℕ → Option ℕ
number_place p number = get nat_cmp p.places number

-- by tablespace, and then by file number
abbrev pub file_cmp : ℕ × ℕ → ℕ × ℕ → Ordering
file_cmp a b = ordering_then (nat_cmp a.0 b.0) (nat_cmp a.1 b.1)

abbrev pub file_place : FilePlaces → ℕ → ℕ → Option ℕ
file_place p tablespace number = get file_cmp p.places (tablespace, number)

abbrev pub place_among : List ℕ → Option (BTreeMap (Vec ℕ Global) ℕ) → Option ℕ
place_among name None = None
place_among name (Some names) = get_by (λ k. slice_cmp nat_cmp name k.items) names

abbrev pub name_place : NamePlaces → List ℕ → List ℕ → Option ℕ
name_place p schema name = place_among name (get_by (λ k. slice_cmp nat_cmp schema k.items) p.schemas)

abbrev pub text_place : TextPlaces → List ℕ → Option ℕ
text_place p text = get_by (λ k. slice_cmp nat_cmp text k.items) p.places
