-- The locations of a catalog's tablespaces, gone through place by place.
use Rattle.std.proofs.Common.{◌≡◌, ◌∙◌, ℕ, ◌+◌, true, false, List, [], ◌∷◌, ◌++◌, map, drop, Some, refl, sym, ap, append_assoc, nat_eq}
use Rattle.std.specs.Prelude.{slice_get, if◌then◌else◌}
use Rattle.std.proofs.lemmas.List.{map-append}
use Rattle.fs_model.specs.Names.{Path}
use Rattle.catalog.specs.declared.owners.Tablespace.{Tablespace}
use Rattle.catalog.specs.Cluster.{default_tablespace}
use Rattle.phase_facts.specs.Places.{locations_of}
use Rattle.relation_map.proofs.Lists.{split_at}

one_more : (t : Tablespace) (ts : List Tablespace) → locations_of (t ∷ ts) ≡ locations_of (t ∷ []) ++ locations_of ts
one_more t ts = elim (nat_eq t.oid default_tablespace) as (λ b. (if b then locations_of ts else t.location ∷ locations_of ts) ≡ (if b then [] else t.location ∷ []) ++ locations_of ts) [ true ↦ refl | false ↦ refl ]

module _ (ts : List Tablespace) (i : ℕ) (t : Tablespace) (found : slice_get ts i ≡ Some t) where
  left : locations_of (drop i ts) ≡ locations_of (t ∷ []) ++ locations_of (drop (i + 1) ts)
  left = ap locations_of (split_at ts i t found) ∙ one_more t (drop (i + 1) ts)

  pub adding_holder : (out next total : List Path) → next ≡ out ++ locations_of (t ∷ []) → out ++ locations_of (drop i ts) ≡ total → next ++ locations_of (drop (i + 1) ts) ≡ total
  adding_holder out next total is so_far =
      ap (λ l. l ++ locations_of (drop (i + 1) ts)) is ∙ append_assoc out (locations_of (t ∷ [])) (locations_of (drop (i + 1) ts)) ∙ ap (λ l. out ++ l) (sym left) ∙ so_far

  pub adding_top : (f : Path → Path) (out next total : List Path) → next ≡ out ++ map f (locations_of (t ∷ [])) → out ++ map f (locations_of (drop i ts)) ≡ total → next ++ map f (locations_of (drop (i + 1) ts)) ≡ total
  adding_top f out next total is so_far =
      ap (λ l. l ++ map f (locations_of (drop (i + 1) ts))) is ∙ append_assoc out (map f (locations_of (t ∷ []))) (map f (locations_of (drop (i + 1) ts)))
      ∙ ap (λ l. out ++ l) (sym (map-append f (locations_of (t ∷ [])) (locations_of (drop (i + 1) ts))) ∙ ap (map f) (sym left)) ∙ so_far
