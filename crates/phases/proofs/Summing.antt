-- The tables of databases, summed up one by one.
use Rattle.std.proofs.Common.{◌≡◌, ◌∙◌, ℕ, ◌+◌, ◌≤◌, min, List, drop, length, Some, sym, ap, arith}
use Rattle.std.specs.Prelude.{slice_get}
use Rattle.std.proofs.Math.ListN.{drop_of_length-le}
use Rattle.catalog.specs.Cluster.{DatabaseObjects}
use Rattle.relation_map.proofs.Lists.{split_at}
use Rattle.phases.specs.Summing.{tables_in}

saturated : (t x r most : ℕ) → min (min (t + x) most + r) most ≡ min (t + (x + r)) most
saturated t x r most = omega arith

pub adding_tables : (ds : List DatabaseObjects) (i : ℕ) (d : DatabaseObjects) (tables next total most : ℕ) → slice_get ds i ≡ Some d → next ≡ min (tables + length d.tables) most → min (tables + tables_in (drop i ds)) most ≡ total → min (next + tables_in (drop (i + 1) ds)) most ≡ total
adding_tables ds i d tables next total most found is so_far =
    ap (λ n. min (n + tables_in (drop (i + 1) ds)) most) is ∙ saturated tables (length d.tables) (tables_in (drop (i + 1) ds)) most
    ∙ ap (λ left. min (tables + tables_in left) most) (sym (split_at ds i d found)) ∙ so_far

pub all_tables : (ds : List DatabaseObjects) (i tables most : ℕ) → length ds ≤ i → tables ≤ most → min (tables + tables_in (drop i ds)) most ≡ min (tables_in ds) most → tables ≡ min (tables_in ds) most
all_tables ds i tables most past small so_far =
    let whole : tables ≡ min (tables + 0) most = omega arith in
    whole ∙ ap (λ left. min (tables + tables_in left) most) (sym (drop_of_length-le ds past)) ∙ so_far
