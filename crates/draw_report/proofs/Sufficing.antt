-- A script's names are as many as a trace that is drawn with them names.
use Rattle.std.proofs.Common.{◌≡◌, Bool, true, false, length, refl, ◌∙◌}
use Rattle.std.specs.Prelude.{◌==◌, ◌&&◌}
use Rattle.std.proofs.lemmas.Bool.{eqb-true}
use Rattle.std.proofs.lemmas.List.{length-map}
use Rattle.draw_report.specs.Sufficing.{NamesSuffice}

both : (a b : Bool) → (a && b) ≡ true → (a ≡ true) × (b ≡ true)
both true true h = (refl, refl)
both true false h = absurd cc
both false b h = absurd cc

pub names_suffice : NamesSuffice
names_suffice s h like =
    let last = both (length s.threads == h.threads && length s.mutexes == h.mutexes) (length s.conditions == h.conditions) like in
    let first = both (length s.threads == h.threads) (length s.mutexes == h.mutexes) last.0 in
    record {
      threads = eqb-true (length s.threads) h.threads first.0;
      mutexes = eqb-true (length s.mutexes) h.mutexes first.1;
      conditions = length-map s.conditions (λ x. x.0) ∙ eqb-true (length s.conditions) h.conditions last.1;
    }
