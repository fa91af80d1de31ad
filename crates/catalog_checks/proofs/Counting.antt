-- How many relations there are, and how long a path's text is.
use Rattle.std.proofs.Common.{◌≡◌, ◌∙◌, ℕ, ◌+◌, ◌-◌, ◌^◌, ◌≤◌, min, List, [], ◌∷◌, ◌++◌, length, drop, map, Option, Some, None, Bool, false, ◌==◌, length-append, refl, ap, sym, arith, flat_map}
use Rattle.std.specs.Prelude.{slice_get}
use Rattle.std.proofs.lemmas.List.{length-map}
use Rattle.fs_model.specs.PathText.{joined, text_of}
use Rattle.catalog.specs.declared.relations.Index.{Index}
use Rattle.catalog.specs.declared.relations.Sequence.{Sequence}
use Rattle.catalog.specs.Cluster.{DatabaseObjects}
use Rattle.catalog.specs.Spaces.{relation_oids, table_oids}
use Rattle.catalog_checks.proofs.Searching.{at_place}

pub relation_count : (d : DatabaseObjects) → length (relation_oids d) ≡ length (flat_map table_oids d.tables) + (length d.indexes + length d.sequences)
unfolding relation_oids
relation_count d =
    length-append (flat_map table_oids d.tables) (map (λ (i : Index). i.oid) d.indexes ++ map (λ (s : Sequence). s.oid) d.sequences)
    ∙ ap (λ n. length (flat_map table_oids d.tables) + n)
    (length-append (map (λ (i : Index). i.oid) d.indexes) (map (λ (s : Sequence). s.oid) d.sequences)
    ∙ (λ i. length-map d.indexes (λ (x : Index). x.oid) i + length-map d.sequences (λ (s : Sequence). s.oid) i))

-- the parts of one more object are counted
pub counted_more : {A : Type 0} (f : A → List ℕ) (xs : List A) (i : ℕ) (x : A) (before n after total : ℕ) → slice_get xs i ≡ Some x → min n (2 ^ 64 - 1) ≡ min (length (f x)) (2 ^ 64 - 1) → after ≡ min (before + n) (2 ^ 64 - 1)
    → min (before + length (flat_map f (drop i xs))) (2 ^ 64 - 1) ≡ total → min (after + length (flat_map f (drop (i + 1) xs))) (2 ^ 64 - 1) ≡ total
counted_more f xs i x before n after total at part more so_far =
    let rest : ℕ = length (flat_map f (drop (i + 1) xs)) in
    let parts : length (flat_map f (drop i xs)) ≡ length (f x) + rest = ap (λ l. length (flat_map f l)) (at_place xs i x at) ∙ length-append (f x) (flat_map f (drop (i + 1) xs)) in
    omega arith

pub counted_all : {A : Type 0} (f : A → List ℕ) (xs : List A) (i counted total : ℕ) → counted ≤ 2 ^ 64 - 1 → drop i xs ≡ [] → min (counted + length (flat_map f (drop i xs))) (2 ^ 64 - 1) ≡ total → counted ≡ total
counted_all f xs i counted total fits none so_far =
    let nothing : length (flat_map f (drop i xs)) ≡ 0 = ap (λ l. length (flat_map f l)) none in
    omega arith

-- the text of a path that has names
pub text_of_names : (path : List (List ℕ)) → (length path == 0) ≡ false → text_of path ≡ joined path
text_of_names [] some = absurd (cc some)
text_of_names (name ∷ names) some = refl

pub names_all : (names : List (List ℕ)) (i counted total : ℕ) → counted ≤ 2 ^ 64 - 1 → drop i names ≡ [] → min (counted + length (joined (drop i names))) (2 ^ 64 - 1) ≡ total → counted ≡ total
names_all names i counted total fits none so_far =
    let nothing : length (joined (drop i names)) ≡ 0 = ap (λ l. length (joined l)) none in
    omega arith
