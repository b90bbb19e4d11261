-- A trim, where somebody sleeps and where nobody does.
use Rattle.std.proofs.Common.{◌≡◌, ◌≢◌, ℕ, ◌+◌, ◌==◌, Bool, true, false, List, [], refl, sym, subst, arith}
use Rattle.std.specs.Prelude.{if◌then◌else◌}
use Rattle.std.proofs.lemmas.Bool.Decides.{nat_tests}
use Rattle.stepprograms.specs.Accesses.{Trims}
use Rattle.ruledwords.specs.declared.pass.Card.{Card}
use Rattle.threadbench.specs.Sections.{TrimsNobodys, TrimsThere}

-- a trim of the word n, on which nobody sleeps
trims_here : (n : ℕ) (b : Bool) → (n == 0x8000_0000) ≡ b → Trims n [] (if b then 0 else n) b
trims_here n true is = grind (arith, nat_tests)
trims_here n false is = grind (arith, nat_tests)

pub trimmed_there : (queue : List ℕ) (c d : Card) (cleared : Bool) → queue ≡ [] → cleared ≡ (d.last == 0x8000_0000) → d.trims ≡ c.trims + 1 → TrimsThere queue c d cleared
trimmed_there queue c d cleared empty told once = subst (λ (q : List ℕ). TrimsThere q c d cleared) (sym empty) record { means = (if cleared then 0 else d.last, trims_here d.last cleared (sym told)); made = λ e. once; still = λ some. absurd (some refl) }

-- where somebody sleeps
pub left_there : (queue : List ℕ) (c : Card) → queue ≢ [] → TrimsThere queue c c false
left_there queue c some = record { means = (c.last, grind (arith, nat_tests)); made = λ e. absurd (some e); still = λ e. refl }

-- the same in fewer words
found_waiters : (n : ℕ) (b : Bool) → b ≡ (n == 0x8000_0000) → b ≡ true → n ≡ 0x8000_0000
found_waiters n true is told = grind (arith, nat_tests)
found_waiters n false is told = absurd (cc told)

pub trimmed_nobodys : (queue : List ℕ) (c d : Card) (told : Bool) → queue ≡ [] → told ≡ (d.last == 0x8000_0000) → TrimsNobodys queue c d told
trimmed_nobodys queue c d told empty is = record { cleared = λ yes. (empty, found_waiters d.last told is yes); spared = λ some. absurd (some empty) }

pub left_nobodys : (queue : List ℕ) (c : Card) → TrimsNobodys queue c c false
left_nobodys queue c = record { cleared = λ yes. absurd (cc yes); spared = λ some. refl }
