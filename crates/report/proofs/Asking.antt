-- Which file a form asks for.
use Rattle.std.proofs.Common.{◌≡◌, ◌≢◌, ◌⊎◌, ⊎_elim, ℕ, List, sym, ap, ◌∙◌}
use Rattle.cmdline.specs.Forms.{Asked, run, table, threads, check, usage}
use Rattle.report.specs.Programs.{file_asked}

pub asked_file : (a : Asked) (name : List ℕ) → (a ≡ run name) ⊎ ((a ≡ table name) ⊎ ((a ≡ threads name) ⊎ (a ≡ check name))) → (a ≢ usage) × (file_asked a ≡ name)
asked_file a name is =
    ⊎_elim
    (λ e. (λ u. (let both : run name ≡ usage = sym e ∙ u in cc both), ap file_asked e))
    (⊎_elim
    (λ e. (λ u. (let both : table name ≡ usage = sym e ∙ u in cc both), ap file_asked e))
    (⊎_elim (λ e. (λ u. (let both : threads name ≡ usage = sym e ∙ u in cc both), ap file_asked e)) (λ e. (λ u. (let both : check name ≡ usage = sym e ∙ u in cc both), ap file_asked e))))
    is
