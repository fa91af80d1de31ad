use Rattle.std.proofs.Common.{◌+◌, ◌-◌, ◌++◌, length, take, drop, replicate, get_or, Fits, w8, List, rules, lit<}
use Rattle.std.specs.Prelude.{◌<◌, ℕ}
use Rattle.std.proofs.lemmas.Grind.{get_or_default_zero}
use Rattle.std.proofs.lemmas.List.Elements.{All-append, All-take, All-drop, All-replicate}
use Rattle.fs_model.specs.Calls.{AreBytes}
use Rattle.fs_state.proofs.changing.test_bytes.Goals as goal

are_bytes : (items : List ℕ) → ((i : ℕ) → Fits w8 (get_or items i 0)) → AreBytes items
are_bytes items fit k d within = rw (get_or_default_zero items k d within) (search (rules, fit k))

pub returns : goal.returns
returns c =
    let old = c.args.old.now in
    let new = c.args.bytes.now in
    let from = c.args.from in
    let P : ℕ → Type 0 = λ b. b < 256 in
    let old_bytes : AreBytes old = are_bytes old c.type_inv.old in
    let new_bytes : AreBytes new = are_bytes new c.type_inv.bytes in
    All-append P (take from old ++ replicate (from - length old) 0 ++ new) (drop (from + length new) old)
    (All-append P (take from old ++ replicate (from - length old) 0) new
    (All-append P (take from old) (replicate (from - length old) 0) (All-take P from old old_bytes) (All-replicate P (from - length old) 0 (lit< tt)))
    new_bytes)
    (All-drop P (from + length new) old old_bytes)
