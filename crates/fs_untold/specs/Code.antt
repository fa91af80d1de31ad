-- By what a proof tells such file systems apart.
use Rattle.std.specs.Prelude.{ℕ, refl}
use Rattle.std.specs.Coded.{Coded, code_by, coded×, coded_ℕ}
use Rattle.fs_mem.specs.History.{History}
use Rattle.fs_mem.specs.Code.{history_code}
use Rattle.fs_untold.specs.Losing.{Losing}

abbrev pub losing_code : Coded Losing
losing_code =
    code_by (History × (ℕ × (ℕ × ℕ))) (coded× history_code (coded× coded_ℕ (coded× coded_ℕ coded_ℕ)))
    (λ u. (u.inner, (u.lose, (u.calls, u.losses))))
    (λ p. record { inner = p.0; lose = p.1.0; calls = p.1.1.0; losses = p.1.1.1 })
    (λ _. refl)
