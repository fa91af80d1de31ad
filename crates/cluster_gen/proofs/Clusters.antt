-- The catalog and the parts of each cluster, step by step.
use Rattle.std.proofs.Common.{◌≡◌, ℕ, ◌+◌, List, [], ◌∷◌, ◌++◌, Option, Some, None, Result, Ok, Err, true, map, codes, sym, ap, ◌∙◌, arith}
use Rattle.std.specs.List.{flat_map, range_with_len}
use Rattle.std.proofs.lemmas.List.FromFn.{map-range_with_len_more}
use Rattle.catalog.specs.declared.error.CatalogError.{CatalogError}
use Rattle.catalog.specs.declared.relations.Table.{Table}
use Rattle.catalog.specs.Cluster.{Cluster as Catalog, first_databases, fresh_database, bootstrap_role}
use Rattle.catalog.specs.Changes.{unless, with_database, with_table}
use Rattle.cluster_gen.specs.declared.parts.Part.{Part}
use Rattle.cluster_gen.specs.declared.fixed.Cluster.{Cluster}
use Rattle.cluster_gen.specs.declared.fixed.Content.TheVariants.{Directory, Version}
use Rattle.cluster_gen.specs.Catalogs.{app_name, table_numbered, new_catalog, old_catalog}
use Rattle.cluster_gen.specs.Parts.{part_at, parts_at, table_parts, app_parts, first_places, later_places, new_cluster, old_cluster, new_parts, old_parts}
use Rattle.cluster_gen.proofs.Ranges.{joined}

abbrev made_or : Catalog → Result Catalog CatalogError → Catalog
made_or other (Ok made) = made
made_or other (Err error) = other

-- what isn't refused is made
not_refused : (refusal : Option CatalogError) (made new : Catalog) → unless refusal made ≡ Ok new → new ≡ made
not_refused None made new e = sym (ap (made_or new) e)
not_refused (Some error) made new e = cc

pub app_added : (c new : Catalog) → c ≡ new_catalog → with_database c (fresh_database 16384 app_name 10 true) ≡ Ok new → new ≡ old_catalog 0
unfolding old_catalog
app_added c new e h = not_refused _ _ new (ap (λ (c : Catalog). with_database c (fresh_database 16384 app_name 10 true)) (sym e) ∙ h)

-- the old catalog with these tables
with_tables : List Table → Catalog
with_tables tables = record new_catalog { databases = first_databases ++ record (fresh_database 16384 app_name bootstrap_role true) { tables = tables } ∷ [] }

pub table_added : (i : ℕ) (c new : Catalog) → c ≡ old_catalog i → with_table c 16384 (table_numbered i) ≡ Ok new → new ≡ old_catalog (i + 1)
unfolding old_catalog with_tables
table_added i c new e h =
    not_refused _ (with_tables (map table_numbered (range_with_len 0 i) ++ table_numbered i ∷ [])) new (ap (λ (c : Catalog). with_table c 16384 (table_numbered i)) (sym e) ∙ h)
    ∙ ap with_tables (sym (map-range_with_len_more table_numbered 0 i i (omega arith)))

-- ---- parts

pub app_joined : (cluster : Cluster) (tables table : ℕ) (old first app last : List Part) → table ≡ tables → first ≡ old ++ part_at cluster (codes "base" ∷ codes "16384" ∷ [], Directory) ∷ [] → app ≡ first ++ flat_map (table_parts cluster.root) (range_with_len 0 table) → last ≡ app ++ part_at cluster (codes "base" ∷ codes "16384" ∷ codes "PG_VERSION" ∷ [], Version) ∷ [] → last ≡ old ++ app_parts cluster tables
unfolding app_parts
app_joined cluster tables table old first app last done e f g =
    let dir = part_at cluster (codes "base" ∷ codes "16384" ∷ [], Directory) in
    let version = part_at cluster (codes "base" ∷ codes "16384" ∷ codes "PG_VERSION" ∷ [], Version) in
    let files = flat_map (table_parts cluster.root) (range_with_len 0 table) in
    joined old (dir ∷ []) first (files ++ version ∷ []) last e (joined first files app (version ∷ []) last f g)
    ∙ ap (λ (n : ℕ). old ++ (dir ∷ (flat_map (table_parts cluster.root) (range_with_len 0 n) ++ version ∷ []))) done

pub new_joined : (cluster : Cluster) (old first last : List Part) → cluster ≡ new_cluster → first ≡ old ++ parts_at cluster first_places → last ≡ first ++ parts_at cluster later_places → last ≡ old ++ new_parts
unfolding new_parts
new_joined cluster old first last e f g =
    joined old (parts_at cluster first_places) first (parts_at cluster later_places) last f g
    ∙ ap (λ (cluster : Cluster). old ++ (parts_at cluster first_places ++ parts_at cluster later_places)) e

pub old_joined : (tables : ℕ) (cluster : Cluster) (old first app last : List Part) → cluster ≡ old_cluster tables → first ≡ old ++ parts_at cluster first_places → app ≡ first ++ app_parts cluster tables → last ≡ app ++ parts_at cluster later_places → last ≡ old ++ old_parts tables
unfolding old_parts
old_joined tables cluster old first app last e f g h =
    joined old (parts_at cluster first_places) first (app_parts cluster tables ++ parts_at cluster later_places) last f
    (joined first (app_parts cluster tables) app (parts_at cluster later_places) last g h)
    ∙ ap (λ (cluster : Cluster). old ++ (parts_at cluster first_places ++ (app_parts cluster tables ++ parts_at cluster later_places))) e
