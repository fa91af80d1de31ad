use Rattle.std.proofs.Common.{◌≡◌, ℕ, true, false, Option, Some, None, refl, sym, ap, subst, ◌∙◌}
use Rattle.std.specs.Prelude.{◌&&◌, bytes_eq, IsSome}
use Rattle.std.specs.Ordering.{nat_cmp}
use Rattle.std.specs.Cmp.Lexicographic.{slice_cmp, nat_list_eq_equiv}
use Rattle.std.specs.BTreeMap as tree
use Rattle.std.specs.BTreeMap.{is_at}
use Rattle.std.specs.Map.{lookup}
use Rattle.std.specs.declared.vec.Vec.{Vec}
use Rattle.std.specs.declared.alloc.Global.{Global}
use Rattle.object_places.specs.Places.{place_among}
use Rattle.object_places.proofs.KeyLemmas.{text_kept, other_names, name_put}
use Rattle.object_places.proofs.name_places.NamePlaces.put.Goals as goal

some : {A : Type 0} (x : A) (o : Option A) → Some x ≡ o → IsSome o
some x o e = subst IsSome e refl

pub returns-in_err-insert-clause-others : goal.returns-in_err-insert-clause-others
returns-in_err-insert-clause-others c = λ s q h.
    let at = c.in-Some.ensures.value in
    let updates = (c.get_mut.follows.holds c.insert.new.self).3 (some _ _ at) in
    let here : (bytes_eq s c.bytes-2.result.now && bytes_eq q c.in_ok-key.key.items) ≡ false = rw (c.bytes-2.ensures, c.in_ok-key.ensures.items, c.bytes.ensures) h in
    other_names c.bytes-2.result.now c.in_ok-key.key.items c.args.self.now.schemas (c.get_mut.follows.lender c.insert.new.self) c.insert.new.self updates
    (λ r k. ap (lookup (is_at (λ (k : Vec ℕ Global). slice_cmp nat_cmp r k.items))) c.in_err-insert.ensures.err ∙ ap (place_among r) at) s q here

pub returns-in-Some-clause-others : goal.returns-in-Some-clause-others
returns-in-Some-clause-others c = λ s q h.
    let at = c.in-Some.ensures.value in
    let updates = (c.get_mut.follows.holds c.insert.new.self).3 (some _ _ at) in
    let here : (bytes_eq s c.bytes-2.result.now && bytes_eq q c.in_ok-key.key.items) ≡ false = rw (c.bytes-2.ensures, c.in_ok-key.ensures.items, c.bytes.ensures) h in
    other_names c.bytes-2.result.now c.in_ok-key.key.items c.args.self.now.schemas (c.get_mut.follows.lender c.insert.new.self) c.insert.new.self updates
    (λ r k. text_kept c.in_ok-key.key.items c.in-Some.names.now c.insert.new.self (Some c.args.place) c.in_ok-insert.ensures.updates r (nat_list_eq_equiv.symm c.in_ok-key.key.items r ∙ k) ∙ ap (place_among r) at) s q here

pub returns-in-Some-clause-placed : goal.returns-in-Some-clause-placed
returns-in-Some-clause-placed c = λ s q h.
    let at = c.in-Some.ensures.value in
    let updates = (c.get_mut.follows.holds c.insert.new.self).3 (some _ _ at) in
    let here : (bytes_eq s c.bytes-2.result.now && bytes_eq q c.in_ok-key.key.items) ≡ true = rw (c.bytes-2.ensures, c.in_ok-key.ensures.items, c.bytes.ensures) h in
    name_put c.bytes-2.result.now c.in_ok-key.key.items c.args.self.now.schemas (c.get_mut.follows.lender c.insert.new.self) c.insert.new.self c.args.place updates c.in_ok-insert.ensures.updates.1 s q here

pub returns-clause-others : goal.returns-clause-others
returns-clause-others c = λ s q h.
    let at : None ≡ tree.get_by (λ (k : Vec ℕ Global). slice_cmp nat_cmp c.bytes-2.result.now k.items) c.args.self.now.schemas = c.in_default.ensures.value in
    let none : tree.get_by (λ (k : Vec ℕ Global). slice_cmp nat_cmp c.in_ok-schema.schema.items k.items) c.get_mut.follows.lender-at-none ≡ None = rw (c.in_ok-schema.ensures.items, c.bytes-3.ensures, ← c.bytes-2.ensures, c.get_mut.follows.holds-at-none) (sym at) in
    let here : (bytes_eq s c.in_ok-schema.schema.items && bytes_eq q c.in_ok-key.key.items) ≡ false = rw (c.in_ok-schema.ensures.items, c.bytes-3.ensures, c.in_ok-key.ensures.items, c.bytes.ensures) h in
    other_names c.in_ok-schema.schema.items c.in_ok-key.key.items c.get_mut.follows.lender-at-none c.insert-3.new.self c.insert-2.new.self c.in_ok-insert-3.ensures.updates
    (λ r k. text_kept c.in_ok-key.key.items c.new-names.result c.insert-2.new.self (Some c.args.place) c.in_ok-insert-2.ensures.updates r (nat_list_eq_equiv.symm c.in_ok-key.key.items r ∙ k) ∙ ap (lookup (is_at (λ (k : Vec ℕ Global). slice_cmp nat_cmp r k.items))) c.new-names.ensures.empty ∙ ap (place_among r) (sym none)) s q here
    ∙ ap (λ m. place_among q (tree.get_by (λ (k : Vec ℕ Global). slice_cmp nat_cmp s k.items) m)) c.get_mut.follows.holds-at-none
