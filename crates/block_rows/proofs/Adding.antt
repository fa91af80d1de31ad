-- What is added block after block.
use Rattle.std.proofs.Common.{◌≡◌, ◌∙◌, ℕ, ◌+◌, ◌-◌, ◌^◌, ◌≤◌, min, cond, List, [], ◌∷◌, ◌++◌, count_by, refl, ap, sym, arith, append_assoc}
use Rattle.std.proofs.lemmas.List.{append-nil}
use Rattle.std.proofs.lemmas.Grind.{flat_map-append}
use Rattle.std.proofs.lemmas.List.Sums.{sum_by-cons}
use Rattle.heap_page.specs.Page.{page_error}
use Rattle.visibility.specs.declared.seen.Seen.{Seen}
use Rattle.visibility.specs.declared.seen.Seen.TheVariants.{Yes, No, Unknown}
use Rattle.visibility.specs.Taken.{Taken}
use Rattle.cluster_meaning.specs.Blocks.{numbered}
use Rattle.cluster_meaning.specs.Chunks.{readable_items}
use Rattle.cluster_meaning.specs.Meaning.{Reading}
use Rattle.block_rows.specs.declared.rows.Rows.{Rows}
use Rattle.block_rows.specs.Rows.{block_rows, block_unread, block_counted, is_unknown, counted, counted_all, item_seen, rows_in, unread_in, items_in, AddsRows, TellsRows}

-- ---- the count

counted_all-append : (seen : ℕ × List ℕ → Seen) (xs ys : List (ℕ × List ℕ)) (count : ℕ) → counted_all seen (xs ++ ys) count ≡ counted_all seen ys (counted_all seen xs count)
counted_all-append seen [] ys count = refl
counted_all-append seen (x ∷ xs) ys count = counted_all-append seen xs ys (counted (seen x) count)

one_counted : (seen : Seen) (count rest : ℕ) → count ≤ 2 ^ 64 - 1 → (counted seen count ≤ 2 ^ 64 - 1) × (min (counted seen count + rest) (2 ^ 64 - 1) ≡ min (count + (cond (is_unknown seen) 1 0 + rest)) (2 ^ 64 - 1))
one_counted Yes count rest le = (le, omega arith)
one_counted No count rest le = (le, omega arith)
one_counted Unknown count rest le = (omega arith, omega arith)

-- the count is that of the unknown ones, as far as its type goes
counted_is : (seen : ℕ × List ℕ → Seen) (items : List (ℕ × List ℕ)) (count : ℕ) → count ≤ 2 ^ 64 - 1 → counted_all seen items count ≡ min (count + count_by (λ item. is_unknown (seen item)) items) (2 ^ 64 - 1)
counted_is seen [] count le = omega arith
counted_is seen (x ∷ xs) count le =
    let one = one_counted (seen x) count (count_by (λ item. is_unknown (seen item)) xs) le in
    counted_is seen xs (counted (seen x) count) one.0 ∙ one.1
    ∙ ap (λ k. min (count + k) (2 ^ 64 - 1)) (sym (sum_by-cons (λ item. cond (is_unknown (seen item)) 1 0) x xs))

-- ---- rows

module _ (reading : Reading) (snapshot : Taken) where
  pub adds_none : (rows : Rows) → AddsRows reading snapshot [] rows rows
  adds_none rows = record { rows = sym (append-nil rows.rows.items); unread = sym (append-nil rows.unread.items); unknown = refl }

  pub adds_block : (n : ℕ) (block : List ℕ) (old new : Rows) → new.rows.items ≡ old.rows.items ++ block_rows reading snapshot n block
      → new.unread.items ≡ old.unread.items ++ block_unread n (page_error block)
      → new.unknown ≡ block_counted reading snapshot block old.unknown → AddsRows reading snapshot ((n, block) ∷ []) old new
  adds_block n block old new rows unread unknown = record {
    rows = rows ∙ ap (λ l. old.rows.items ++ l) (sym (append-nil (block_rows reading snapshot n block)));
    unread = unread ∙ ap (λ l. old.unread.items ++ l) (sym (append-nil (block_unread n (page_error block))));
    unknown = unknown ∙ ap (λ l. counted_all (item_seen reading snapshot) l old.unknown) (sym (append-nil (readable_items block)));
  }

  pub adds_then : (xs ys : List (ℕ × List ℕ)) (a b c : Rows) → AddsRows reading snapshot xs a b → AddsRows reading snapshot ys b c → AddsRows reading snapshot (xs ++ ys) a c
  adds_then xs ys a b c first later = record {
    rows = later.rows ∙ ap (λ l. l ++ rows_in reading snapshot ys) first.rows ∙ append_assoc a.rows.items (rows_in reading snapshot xs) (rows_in reading snapshot ys)
        ∙ ap (λ l. a.rows.items ++ l) (sym (flat_map-append (λ (one : ℕ × List ℕ). block_rows reading snapshot one.0 one.1) xs ys));
    unread = later.unread ∙ ap (λ l. l ++ unread_in ys) first.unread ∙ append_assoc a.unread.items (unread_in xs) (unread_in ys)
        ∙ ap (λ l. a.unread.items ++ l) (sym (flat_map-append (λ (one : ℕ × List ℕ). block_unread one.0 (page_error one.1)) xs ys));
    unknown = later.unknown ∙ ap (counted_all (item_seen reading snapshot) (items_in ys)) first.unknown
        ∙ sym (counted_all-append (item_seen reading snapshot) (items_in xs) (items_in ys) a.unknown)
        ∙ ap (λ l. counted_all (item_seen reading snapshot) l a.unknown) (sym (flat_map-append (λ (one : ℕ × List ℕ). readable_items one.1) xs ys));
  }

  -- all that was added to nothing
  pub tells_rows : (blocks : List (List ℕ)) (none rows : Rows) → none.rows.items ≡ [] → none.unread.items ≡ [] → none.unknown ≡ 0
      → AddsRows reading snapshot (numbered 0 blocks) none rows → TellsRows reading snapshot blocks rows
  tells_rows blocks none rows no_rows no_unread no_unknown added = record {
    rows_are = added.rows ∙ ap (λ l. l ++ rows_in reading snapshot (numbered 0 blocks)) no_rows;
    unread_are = added.unread ∙ ap (λ l. l ++ unread_in (numbered 0 blocks)) no_unread;
    unknown_is = added.unknown ∙ ap (counted_all (item_seen reading snapshot) (items_in (numbered 0 blocks))) no_unknown
        ∙ counted_is (item_seen reading snapshot) (items_in (numbered 0 blocks)) 0 (omega arith)
        ∙ ap (λ k. min k (2 ^ 64 - 1)) (zero_plus (count_by (λ item. is_unknown (item_seen reading snapshot item)) (items_in (numbered 0 blocks))));
  }
    where
      zero_plus : (n : ℕ) → 0 + n ≡ n
      zero_plus n = omega arith
