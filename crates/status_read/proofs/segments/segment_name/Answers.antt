use Rattle.std.proofs.Common.{◌≡◌, ◌∙◌, ◌^◌, ◌-◌, [], ℕ, List, true, false, Option, Some, IfOk, IfSome, ap, subst, string_bytes}
use Rattle.std.specs.Option.{option_map}
use Rattle.std.specs.Fmt.{digits, padded_integral, format_spec, styled_digits_output}
use Rattle.cluster_meaning.specs.Status.{segment_name}
use Rattle.status_read.proofs.SegmentNames.{name_written}
use Rattle.status_read.proofs.segments.segment_name.Goals as goal

pub returns : goal.returns
returns c =
    let n : ℕ = c.args.number in
    let out : styled_digits_output c.in_radix.result c.laid_out.result ≡ Some (segment_name n) =
    ap (styled_digits_output c.in_radix.result) c.laid_out.ensures
    ∙ ap (λ (o : Option (List ℕ)). option_map (padded_integral (format_spec 32 0 4 4 (2 ^ 64 - 1)) false []) o) c.in_radix.ensures
    ∙ ap (λ l. Some l) (name_written n) in
    subst (λ (o : Option (List ℕ)). IfOk c.format.result (λ name. IfSome o (λ bs. string_bytes name ≡ bs))) out c.format.ensures.ok
