use Rattle.std.proofs.Common.{◌≡◌, ◌∙◌, ap, length, take, min}
use Rattle.std.proofs.lemmas.List.{take_min}
use Rattle.fs_model.specs.Names.{same_path, path_cmp}
use Rattle.std.specs.Ordering.{is_eq}
use Rattle.fs_model.proofs.Prefixes.{under}
use Rattle.fs_model.proofs.path.Path.is_under.Goals as goal

pub returns-clause-exact : goal.returns-clause-exact
returns-clause-exact c =
    let top : c.as_slice.result.now ≡ c.args.top.now = c.as_slice.ensures.value ∙ c.top.view_is in
    let path : c.deref.result.now ≡ c.args.self.now = c.deref.ensures.value ∙ c.self.view_is in
    let top_len : c.len.result ≡ length c.args.top.now = c.len.ensures ∙ c.top.inside.names.ok.0 ∙ ap length c.top.view_is in
    let path_len : c.len-2.result ≡ length c.args.self.now = c.len-2.ensures ∙ c.self.inside.names.ok.0 ∙ ap length c.self.view_is in
    under c.args.top.now c.args.self.now c.min-len.result c.is_eq.result (c.min-len.ensures ∙ (λ i. min (top_len i) (path_len i)))
    (c.is_eq.ensures ∙ ap is_eq (c.cmp.ensures ∙ (λ i. path_cmp (take c.min-len.result (path i)) (top i))))

pub returns-clause-test : goal.returns-clause-test
returns-clause-test c =
    let top : c.as_slice.result.now ≡ c.args.top.now = c.as_slice.ensures.value ∙ c.top.view_is in
    let path : c.deref.result.now ≡ c.args.self.now = c.deref.ensures.value ∙ c.self.view_is in
    let top_len : c.len.result ≡ length c.args.top.now = c.len.ensures ∙ c.top.inside.names.ok.0 ∙ ap length c.top.view_is in
    let path_len : c.len-2.result ≡ length c.args.self.now = c.len-2.ensures ∙ c.self.inside.names.ok.0 ∙ ap length c.self.view_is in
    let front : take c.min-len.result c.args.self.now ≡ take (length c.args.top.now) c.args.self.now =
    ap (λ n. take n c.args.self.now) (c.min-len.ensures ∙ (λ i. min (top_len i) (path_len i))) ∙ take_min (length c.args.top.now) c.args.self.now in
    c.is_eq.ensures ∙ ap is_eq (c.cmp.ensures ∙ (λ i. path_cmp (take c.min-len.result (path i)) (top i))) ∙ ap (λ p. same_path p c.args.top.now) front
