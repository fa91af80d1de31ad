use Rattle.std.proofs.Common.{◌≡◌, ◌∙◌, ◌<◌, ◌^◌, ℕ, List, true, false, Some, None, Ok, Err, refl, sym, ap, subst, string_bytes, arith}
use Rattle.std.specs.Prelude.{bytes_eq}
use Rattle.std.proofs.lemmas.Slice.Eq.{bytes_eq-Decides}
use Rattle.cluster_meaning.specs.Status.{segment_name}
use Rattle.status_read.specs.Segments.{segment_number}
use Rattle.status_read.proofs.SegmentNames.{named, name_of, read_is, none_unless}
use Rattle.status_read.proofs.segments.segment_number.Goals as goal

pub returns-in_default : goal.returns-in_default
returns-in_default c =
    sym (none_unless (segment_number c.args.name.now) (λ n is.
    let r = read_is c.args.name.now c.from_str_radix.result n c.from_str_radix.ensures.value is in
    let err = c.in_default.is in
    absurd (cc (r, err))))

pub returns-then-eq : goal.returns-then-eq
returns-then-eq c =
    let told = c.in-Ok.ensures.value in
    let lt : c.in-Ok.number < 2 ^ 32 = omega (arith, told.1, told.0.1) in
    let text : c.as_str.result.now ≡ segment_name c.in-Ok.number = c.as_str.ensures.value ∙ c.in_ok-canonical.ensures in
    let same : bytes_eq c.as_str.result.now c.args.name.now ≡ true = sym c.if-eq.ensures in
    sym (named c.in-Ok.number c.args.name.now lt (sym text ∙ (bytes_eq-Decides c.as_str.result.now c.args.name.now).0 same))

pub returns : goal.returns
returns c =
    sym (none_unless (segment_number c.args.name.now) (λ n is.
    let r = read_is c.args.name.now c.from_str_radix.result n c.from_str_radix.ensures.value is in
    let got = c.in-Ok.is in
    let number : c.in-Ok.number ≡ n = (let both = sym got ∙ r in cc both) in
    let spelled : segment_name n ≡ c.args.name.now = (name_of n c.args.name.now is).1 in
    let text : c.as_str.result.now ≡ c.args.name.now = c.as_str.ensures.value ∙ c.in_ok-canonical.ensures ∙ ap segment_name number ∙ spelled in
    let yes_same : bytes_eq c.as_str.result.now c.args.name.now ≡ true = (bytes_eq-Decides c.as_str.result.now c.args.name.now).1 text in
    let not_same : false ≡ bytes_eq c.as_str.result.now c.args.name.now = c.if-eq.ensures in
    absurd (cc (not_same, yes_same))))
