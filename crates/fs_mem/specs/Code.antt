-- By what a proof tells histories apart.
use Rattle.std.specs.Prelude.{ℕ, List, Option, refl}
use Rattle.std.specs.Coded.{Coded, code_by, coded×, coded_ℕ, coded_list, coded_option}
use Rattle.fs_model.specs.declared.effect.Effect.{Effect}
use Rattle.fs_model.specs.contracts.effect.Effect as effect
use Rattle.fs_model.specs.declared.error.FsError.{FsError}
use Rattle.fs_model.specs.contracts.error.FsError as error
use Rattle.fs_model.specs.State.{FsState}
use Rattle.fs_model.specs.Codes.{state_code}
use Rattle.fs_mem.specs.declared.history.Failing.{Failing}
use Rattle.fs_mem.specs.contracts.history.Failing as failing
use Rattle.fs_mem.specs.History.{Done, History}

abbrev pub done_code : Coded Done
done_code = code_by (Effect × Option FsError) (coded× effect.the_row.coded (coded_option error.the_row.coded)) (λ d. (d.effect, d.answer)) (λ p. record { effect = p.0; answer = p.1 }) (λ _. refl)

abbrev pub history_code : Coded History
history_code =
    code_by (FsState × (List Done × (ℕ × List Failing)))
    (coded× state_code (coded× (coded_list done_code) (coded× coded_ℕ (coded_list failing.the_row.coded))))
    (λ h. (h.opening, (h.done, (h.lacks, h.failing))))
    (λ p. record { opening = p.0; done = p.1.0; lacks = p.1.1.0; failing = p.1.1.1 })
    (λ _. refl)
