use Rattle.std.proofs.Common.{◌≡◌, ◌∙◌, ◌+◌, ◌<◌, ◌++◌, ◌∷◌, [], ℕ, true, take, drop, get_or, refl, sym, ap, arith, add-one, append-nil}
use Rattle.std.specs.Prelude.{not, nat_le}
use Rattle.std.specs.List.{list_all}
use Rattle.std.proofs.Math.Seq.{take-suc}
use Rattle.std.proofs.lemmas.List.{take-append-drop, drop_more, take_all}
use Rattle.std.proofs.lemmas.List.Folds.{list_all-append}
use Rattle.std.proofs.lemmas.Bool.{and_parts, and_from, leb-true}
use Rattle.tree_checks.specs.NewDirs.{is_digit}
use Rattle.file_checks.specs.Kept.{is_plain}
use Rattle.file_checks.proofs.files.leading_number.Goals as goal

pub returns-then-not-is_digit : goal.returns-then-not-is_digit
returns-then-not-is_digit c =
    let i = c.loop-byte.byte-index in
    let name = c.args.name.now in
    record {
      rest = drop i name;
      name_is = sym (take-append-drop i name) ∙ ap (λ l. l ++ drop i name) (sym c.loop-byte.invariant.taken);
      digits = ap (list_all is_digit) c.loop-byte.invariant.taken ∙ c.loop-byte.invariant.digits;
      plain = ap is_plain (drop_more name i 0 c.loop-byte-test.true) ∙ ap not (sym c.if-not-is_digit.ensures);
    }

pub loop-byte-preserved : goal.loop-byte-preserved
loop-byte-preserved c =
    let i = c.loop-byte.byte-index in
    let name = c.args.name.now in
    let byte : ℕ = get_or name i 0 in
    let digit : is_digit byte ≡ true = sym c.if-not-is_digit.ensures in
    let small : byte < 128 = let high = leb-true byte 57 (and_parts (nat_le 48 byte) (nat_le byte 57) digit).1 in omega (arith, high) in
    let next : take (i + 1) name ≡ take i name ++ byte ∷ [] = ap (λ n. take n name) (add-one i) ∙ take-suc name i 0 c.loop-byte-test.true in
    record {
      taken = c.in_ok-push.ensures.bytes ∙ (λ k. c.loop-byte.invariant.taken k ++ c.in_ok-push.ensures.ascii small k) ∙ sym next;
      digits = ap (list_all is_digit) next ∙ list_all-append is_digit (take i name) (byte ∷ []) ∙ and_from _ _ c.loop-byte.invariant.digits (and_from (is_digit byte) true digit refl);
    }

pub returns : goal.returns
returns c =
    let i = c.loop-byte.byte-index in
    let name = c.args.name.now in
    record {
      rest = [];
      name_is = sym (append-nil name) ∙ ap (λ l. l ++ []) (sym (c.loop-byte.invariant.taken ∙ take_all i name c.loop-byte-test.false));
      digits = ap (list_all is_digit) c.loop-byte.invariant.taken ∙ c.loop-byte.invariant.digits;
      plain = refl;
    }
