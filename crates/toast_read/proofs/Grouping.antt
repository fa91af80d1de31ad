-- Chunks by their values.
use Rattle.std.proofs.Common.{◌≡◌, ◌≢◌, ◌∙◌, ℕ, Bool, true, false, cond, List, [], ◌∷◌, ◌++◌, refl, ap, sym}
use Rattle.std.specs.Option.{unwrap_or}
use Rattle.std.specs.Ordering.{nat_cmp, is_eq}
use Rattle.std.proofs.lemmas.List.{append-nil}
use Rattle.std.specs.declared.cmp.Ordering.TheVariants.{Less, Equal, Greater}
use Rattle.std.specs.Map.{lookup}
use Rattle.std.specs.BTreeMap.{is_at}
use Rattle.std.specs.FinMap as map
use Rattle.std.specs.FinMap.{nat_cmp-IsAntisymmetric}
use Rattle.std.specs.Cmp.{nat_cmp_total}
use Rattle.std.proofs.lemmas.Bool.Decides.{eqb_tells}
use Rattle.std.proofs.Common.{inl, inr}
use Rattle.toast_read.specs.declared.chunk.Chunk.{Chunk}
use Rattle.heap_tuple.specs.declared.field.ToastPointer.{ToastPointer}
use Rattle.toast_read.specs.Chunks.{is_of, chunks_of, joined_of_size, fetched}
use Rattle.toast_read.specs.Index.{chunks_at, IsIndexOf, fetched_from}
use Rattle.toast_read.proofs.Entries.{get_lookup}

pub at_entries : (es : List (ℕ × List Chunk)) (value : ℕ) → chunks_at (map.from_entries es) value ≡ unwrap_or (lookup (is_at (nat_cmp value)) es) []
at_entries es value = ap (λ o. unwrap_or o []) (get_lookup nat_cmp_total es value)

-- two numbers that differ don't compare as equal
pub apart_at : (k q : ℕ) → q ≢ k → is_at (nat_cmp k) q ≡ false
apart_at k q apart = elim (nat_cmp k q) as (λ r. nat_cmp k q ≡ r → is_eq r ≡ false) [ Less ↦ λ _. refl | Equal ↦ λ e. absurd (apart (sym (nat_cmp-IsAntisymmetric k q e))) | Greater ↦ λ _. refl ] refl

filter-push : (value : ℕ) (chunks : List Chunk) (chunk : Chunk) → chunks_of value (chunks ++ chunk ∷ []) ≡ chunks_of value chunks ++ cond (is_of value chunk) (chunk ∷ []) []
filter-push value [] chunk = refl
filter-push value (c ∷ cs) chunk = by (is_of value c) (filter-push value cs chunk)
  where
    by : (test : Bool) → chunks_of value (cs ++ chunk ∷ []) ≡ chunks_of value cs ++ cond (is_of value chunk) (chunk ∷ []) []
        → cond test (c ∷ chunks_of value (cs ++ chunk ∷ [])) (chunks_of value (cs ++ chunk ∷ [])) ≡ cond test (c ∷ chunks_of value cs) (chunks_of value cs) ++ cond (is_of value chunk) (chunk ∷ []) []
    by true rest = ap (λ l. c ∷ l) rest
    by false rest = rest

-- a chunk more stands behind those of its value
pub grouped_more : (old new : map.FinMap nat_cmp (List Chunk)) (chunks : List Chunk) (chunk : Chunk) → IsIndexOf old chunks → chunks_at new chunk.value ≡ chunks_at old chunk.value ++ chunk ∷ []
    → ((other : ℕ) → other ≢ chunk.value → chunks_at new other ≡ chunks_at old other) → IsIndexOf new (chunks ++ chunk ∷ [])
grouped_more old new chunks chunk index added others value =
    elim (eqb_tells chunk.value value) [
      | inl same ↦ ap (chunks_at new) (sym same.1) ∙ added ∙ ap (λ l. l ++ chunk ∷ []) (index chunk.value) ∙ ap (λ v. chunks_of v chunks ++ chunk ∷ []) same.1
          ∙ ap (λ test. chunks_of value chunks ++ cond test (chunk ∷ []) []) (sym same.0) ∙ sym (filter-push value chunks chunk)
      | inr apart ↦ others value (λ e. apart.1 (sym e)) ∙ index value ∙ sym (append-nil (chunks_of value chunks))
          ∙ ap (λ test. chunks_of value chunks ++ cond test (chunk ∷ []) []) (sym apart.0) ∙ sym (filter-push value chunks chunk)
    ]

-- an index leads each pointer to what its chunks do
pub fetched_same : (index : map.FinMap nat_cmp (List Chunk)) (chunks : List Chunk) (to : ToastPointer) → IsIndexOf index chunks → fetched_from index to ≡ fetched chunks to
unfolding fetched
fetched_same index chunks to is = ap (joined_of_size to.size) (is to.value)
