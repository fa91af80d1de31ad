use Rattle.std.proofs.Common.{◌∙◌, ◌∷◌, [], ℕ, Err, None, subst}
use Rattle.fs_model.specs.Calls.{or_else}
use Rattle.fs_model.specs.Trail.{DecidedBy}
use Rattle.fs_model.proofs.Going.{goes_weaker}
use Rattle.fs_tools.specs.Copied.{Copies, CopiesFile}
use Rattle.fs_tools.proofs.Answering.{decided_on, decides}
use Rattle.transfer_plan.specs.Changed.{Removes}
use Rattle.copy_transfer.specs.CopiedFiles.{CopiesTo}
use Rattle.copy_transfer.proofs.Carrying.{removes_copy, copies_copy, copies_joined}
use Rattle.copy_transfer.proofs.copying.copy_item.Goals as goal

pub returns-in_err-remove_replaced-clause-calls : goal.returns-in_err-remove_replaced-clause-calls
returns-in_err-remove_replaced-clause-calls g c told =
    let start = (g.F.Fs.trail c.args.fs.now).present in
    let to = c.args.item.now.to in
    goes_weaker (Removes to) (CopiesTo (to ∷ []) start) (removes_copy to start) (c.remove_replaced.ensures.calls told)

pub returns-in_err-remove_replaced-clause-unrefused : goal.returns-in_err-remove_replaced-clause-unrefused
returns-in_err-remove_replaced-clause-unrefused g c told can other =
    decided_on None c.from_residual.result c.in_err-remove_replaced.field-0.0 c.from_residual.ensures.1
    (decides {T = Unit {0}} None (Err c.in_err-remove_replaced.field-0.0) (c.in_err-remove_replaced.ensures.unrefused told can))

pub returns-in_err-copy_file-clause-calls : goal.returns-in_err-copy_file-clause-calls
returns-in_err-copy_file-clause-calls g c told =
    let start = g.F.Fs.trail c.args.fs.now in
    let mid = g.F.Fs.trail c.remove_replaced.new.fs in
    let to = c.args.item.now.to in
    copies_joined (to ∷ []) (to ∷ []) (λ path within. within) start mid (g.F.Fs.trail c.copy_file.new.fs)
    (goes_weaker (Removes to) (CopiesTo (to ∷ []) start.present) (removes_copy to start.present) (c.remove_replaced.ensures.calls told))
    (goes_weaker (Copies c.args.item.now.from to mid.present) (CopiesTo (to ∷ []) mid.present) (copies_copy c.args.item.now.from to mid.present) (c.copy_file.ensures.calls (c.remove_replaced.ensures.told ∙ told)))

pub returns-in_err-copy_file-clause-unrefused : goal.returns-in_err-copy_file-clause-unrefused
returns-in_err-copy_file-clause-unrefused g c told can other =
    let free = c.in_ok-remove_replaced.ensures.free told can other in
    let error = c.in_err-copy_file.field-0.0 in
    decided_on None c.from_residual-in_err-copy_file.result error c.from_residual-in_err-copy_file.ensures.1
    (decides {T = ℕ} None (Err error) (subst (λ refused. DecidedBy {T = ℕ} refused (Err error)) (λ i. or_else (free.0 i) (free.1 i)) (c.in_err-copy_file.ensures.decided (c.remove_replaced.ensures.told ∙ told))))

pub returns-clause-calls : goal.returns-clause-calls
returns-clause-calls g c told =
    let start = g.F.Fs.trail c.args.fs.now in
    let mid = g.F.Fs.trail c.remove_replaced.new.fs in
    let to = c.args.item.now.to in
    copies_joined (to ∷ []) (to ∷ []) (λ path within. within) start mid (g.F.Fs.trail c.copy_file.new.fs)
    (goes_weaker (Removes to) (CopiesTo (to ∷ []) start.present) (removes_copy to start.present) (c.remove_replaced.ensures.calls told))
    (goes_weaker (Copies c.args.item.now.from to mid.present) (CopiesTo (to ∷ []) mid.present) (copies_copy c.args.item.now.from to mid.present) (c.copy_file.ensures.calls (c.remove_replaced.ensures.told ∙ told)))

pub returns-clause-copied : goal.returns-clause-copied
returns-clause-copied g c told =
    let new = (g.F.Fs.trail c.copy_file.new.fs).present in
    (c.in_ok-copy_file.field-0, subst (λ s. CopiesFile s c.args.item.now.from c.args.item.now.to c.in_ok-copy_file.field-0 new) (c.in_ok-remove_replaced.ensures.removed told) (c.in_ok-copy_file.ensures.copied (c.remove_replaced.ensures.told ∙ told)))
