-- What phases of one thread each leave open.
use Rattle.std.proofs.Common.{◌≡◌, ℕ, ◌+◌, ◌<◌, Bool, true, false, Option, List, [], ◌∷◌, refl, sym, ap, ◌∙◌}
use Rattle.std.specs.Prelude.{◌||◌}
use mathlib.Core.Logic.{dite}
use native.Mathlib.Decide.{ℕ_discrete}
use Rattle.lockword.specs.declared.reply.Reply.{Reply}
use Rattle.posixmutex.specs.declared.object.Object.{Object}
use Rattle.memorymap.specs.Layouts.{Layout'}
use Rattle.condvar.specs.declared.op.Op.{Op}
use Rattle.report.specs.Parts.{Part}
use Rattle.report.specs.Lone.{behind, counters_alone, counters_behind, go_on, left_by, lone_replies, mutexes_alone, played, replies_alone, AreAnswered, AreLone, ArePlain, ArePlayed, PlaysAlone}

calls_determined : (k : Layout') (t : ℕ) (os : ℕ → Object) (vs : ℕ → ℕ) (cs : List Op) (rs : List Reply) (os' : ℕ → Object) (vs' : ℕ → ℕ) → AreAnswered k t os vs cs rs os' vs' → (rs ≡ replies_alone k t os vs cs) × (os' ≡ mutexes_alone k t os vs cs) × (vs' ≡ counters_alone k t os vs cs)
calls_determined k t os vs [] [] os' vs' told = (refl, told.0, told.1)
calls_determined k t os vs [] (r ∷ rs) os' vs' told = absurd told
calls_determined k t os vs (c ∷ cs) [] os' vs' told = absurd told
calls_determined k t os vs (c ∷ cs) (r ∷ rs) os' vs' told =
    let rest = calls_determined k t (behind k t os c r) (counters_behind vs c r) cs rs os' vs' told.1 in (
      ap (λ (l : List Reply). r ∷ l) rest.0 ∙ ap (λ (z : Option Reply). go_on z (λ x. x ∷ replies_alone k t (behind k t os c x) (counters_behind vs c x) cs)) (sym told.0),
      rest.1 ∙ ap (λ (z : Option Reply). left_by z os (λ x. mutexes_alone k t (behind k t os c x) (counters_behind vs c x) cs)) (sym told.0),
      rest.2 ∙ ap (λ (z : Option Reply). left_by z vs (λ x. counters_alone k t (behind k t os c x) (counters_behind vs c x) cs)) (sym told.0),
    )

-- in a phase whose thread lives
phase_determined : (k : Layout') (t : ℕ) (gone : Bool) (os : ℕ → Object) (vs : ℕ → ℕ) (cs : List Op) (rs : List Reply) (died : Bool) (os' : ℕ → Object) (vs' : ℕ → ℕ) → gone ≡ false → died ≡ false → PlaysAlone k t gone os vs cs rs died os' vs'
    → (rs ≡ replies_alone k t os vs cs) × (os' ≡ mutexes_alone k t os vs cs) × (vs' ≡ counters_alone k t os vs cs)
phase_determined k t true os vs cs rs died os' vs' lives survives plays = absurd (cc lives)
phase_determined k t false os vs cs rs true os' vs' lives survives plays = absurd (cc survives)
phase_determined k t false os vs cs rs false os' vs' lives survives plays = calls_determined k t os vs cs rs os' vs' plays

neither : (a b : Bool) → a ≡ false → b ≡ false → (a || b) ≡ false
neither a b no_a no_b = (λ i. no_a i || no_b i)

pub determined : (k : Layout') (gone : ℕ → Bool) (os : ℕ → Object) (vs : ℕ → ℕ) (phases : List (ℕ → List Op)) (is : List ℕ) (parts : List Part) (os' : ℕ → Object) (vs' : ℕ → ℕ) → ((i : ℕ) → i < k.threads → gone i ≡ false) → AreLone k.threads phases is → ArePlayed k gone os vs phases is parts os' vs' → ArePlain is parts → lone_replies is parts ≡ played k os vs phases is
determined k gone os vs [] [] [] os' vs' lives lone plays plain = refl
determined k gone os vs [] [] (q ∷ parts) os' vs' lives lone plays plain = absurd plays
determined k gone os vs [] (i ∷ is) parts os' vs' lives lone plays plain = absurd lone
determined k gone os vs (calls ∷ phases) [] parts os' vs' lives lone plays plain = absurd lone
determined k gone os vs (calls ∷ phases) (i ∷ is) [] os' vs' lives lone plays plain = absurd plays
determined k gone os vs (calls ∷ phases) (i ∷ is) (q ∷ parts) os' vs' lives lone plays plain =
    let mid : ℕ → Object = plays.1 in
    let counters : ℕ → ℕ = plays.2 in
    let first = phase_determined k (i + 1) (gone i) os vs (calls (i + 1)) (q.replies i) (q.died i) mid counters (lives i lone.0.inside) plain.0 plays.3 in
    let still : (j : ℕ) → j < k.threads → (gone j || q.died j) ≡ false = λ j low. neither (gone j) (q.died j) (lives j low) (dite (ℕ_discrete j i) (λ same. ap q.died same ∙ plain.0) (λ other. (plays.0 j low other).1)) in
    let rest = determined k (λ j. gone j || q.died j) mid counters phases is parts os' vs' still lone.1 plays.4 plain.1 in
    (λ z. first.0 z ∷ (rest ∙ (λ y. played k (first.1 y) (first.2 y) phases is)) z)
