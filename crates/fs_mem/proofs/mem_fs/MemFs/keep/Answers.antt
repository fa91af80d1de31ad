use Rattle.std.proofs.Common.{◌≡◌, ◌++◌, List, [], ◌∷◌, ap, sym, ◌∙◌, subst}
use Rattle.fs_model.specs.Effects.{apply}
use Rattle.fs_model.specs.WellFormed.{WellFormed}
use Rattle.fs_state.specs.Actions.{effect_in}
use Rattle.fs_mem.specs.History.{Done, state_after, one_done, StaysWellFormed}
use Rattle.fs_mem.specs.Records.{done_in, told_from}
use Rattle.fs_mem.proofs.Replay.{state_after_push, stays_push}
use Rattle.fs_mem.proofs.Told.{told_push}
use Rattle.fs_mem.proofs.mem_fs.MemFs.keep.Goals as goal

pub invariant_of-self-2 : goal.invariant_of-self-2
invariant_of-self-2 c =
    let opening = c.self.inside.opening in
    let done = told_from opening c.self.inside.done.items in
    let last = state_after opening done in
    let r = c.args.r in
    let at : c.args.state ≡ last = c.requires.present ∙ ap (λ v. state_after v.opening v.done) (sym c.self.view_is) in
    let more : told_from opening c.push.new.self.items ≡ done ++ done_in last r ∷ [] =
    ap (told_from opening) c.in_ok-push.ensures.items ∙ told_push opening c.self.inside.done.items r in
    let next : apply c.args.state (effect_in c.args.state r.action) ≡ apply last (effect_in last r.action) = ap (λ s. apply s (effect_in s r.action)) at in
    let is : apply c.args.state (effect_in c.args.state r.action) ≡ state_after opening (told_from opening c.push.new.self.items) =
    next ∙ sym (state_after_push opening done (done_in last r)) ∙ ap (state_after opening) (sym more) in
    let stays = subst (StaysWellFormed opening) (sym more)
    (stays_push opening done (done_in last r) c.self.invariant.stays (subst WellFormed next c.requires.well_formed)) in
    record { present_is = c.in_ok-apply.ensures ∙ is; well_formed = subst WellFormed is c.requires.well_formed; stays = stays }

pub returns-clause-ok : goal.returns-clause-ok
returns-clause-ok c =
    let opening = c.self.inside.opening in
    let done = told_from opening c.self.inside.done.items in
    let r = c.args.r in
    let at : c.args.state ≡ state_after opening done = c.requires.present ∙ ap (λ v. state_after v.opening v.done) (sym c.self.view_is) in
    let more : told_from opening c.push.new.self.items ≡ done ++ done_in c.args.state r ∷ [] =
    ap (told_from opening) c.in_ok-push.ensures.items ∙ told_push opening c.self.inside.done.items r ∙ ap (λ s. done ++ done_in s r ∷ []) (sym at) in
    ap (λ (done : List Done). record { opening = opening; done = done; lacks = c.self.inside.lacks; failing = c.self.inside.failing.items }) more
    ∙ ap (λ h. one_done h (effect_in c.args.state r.action) r.answer) c.self.view_is
