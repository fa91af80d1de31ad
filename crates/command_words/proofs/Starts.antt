-- What stands in a word behind its beginning.
use Rattle.std.proofs.Common.{◌≡◌, ◌≢◌, ◌++◌, ◌∷◌, ◌∙◌, [], ℕ, Bool, true, false, cond, ◌==◌, List, drop, Option, Some, None, MatchOption, Bor, refl, sym, ap}
use Rattle.std.proofs.lemmas.Bool.Decides.{Decides-eqb}
use Rattle.std.specs.Option.{option_copied}
use Rattle.std.specs.Str.Pattern.{FindsTextPrefix, StripsPrefix}
use Rattle.command_words.specs.Reading.{after}

pub after_made : (start rest : List ℕ) → after start (start ++ rest) ≡ Some rest
after_made [] rest = refl
after_made (byte ∷ start) rest = ap (λ b. cond b (after start (start ++ rest)) None) ((Decides-eqb byte byte).1 refl) ∙ after_made start rest

pub after_front : (start word rest : List ℕ) → after start word ≡ Some rest → word ≡ start ++ rest
after_front [] word rest is = cc is
after_front (byte ∷ start) [] rest is = absurd (cc is)
after_front (byte ∷ start) (first ∷ word) rest is = by (byte == first) refl is (after_front start word rest)
  where
    by : (b : Bool) → (byte == first) ≡ b → cond b (after start word) None ≡ Some rest → (after start word ≡ Some rest → word ≡ start ++ rest) → first ∷ word ≡ (byte ∷ start) ++ rest
    by true same found later = (let e = (Decides-eqb byte first).0 same in let t = later found in cc (e, t))
    by false other found later = absurd (cc found)

pub after_none : (start word : List ℕ) → ((rest : List ℕ) → word ≢ start ++ rest) → after start word ≡ None
after_none start word none = by (after start word) refl
  where
    by : (found : Option (List ℕ)) → after start word ≡ found → after start word ≡ None
    by None is = is
    by (Some rest) is = absurd (none rest (after_front start word rest is))

pub rest_is : (start word : List ℕ) (found : Option (Bor (List ℕ))) → MatchOption found (FindsTextPrefix start word None) (λ x. StripsPrefix (FindsTextPrefix start) word x.now) → option_copied found ≡ after start word
rest_is start word None none = sym (after_none start word none)
rest_is start word (Some x) (n, (here, split, cut), is, len) = ap (λ rest. Some rest) is ∙ sym (ap (after start) split ∙ after_made start (drop n word))
