-- Deaths that are named, and who may have owned a mutex.
use Rattle.std.proofs.Common.{◌≡◌, ℕ, ◌+◌, ◌==◌, Bool, true, false, ◌&&◌, List, [], ◌∷◌, ◌++◌, length, if◌then◌else◌, Option, Some, None, refl, sym, ap, ◌∙◌, eq-eqb}
use Rattle.lockword.specs.declared.reply.Reply.{Reply}
use Rattle.facts.specs.declared.fact.Begun.{Begun}
use Rattle.facts.specs.declared.fact.Fact.TheVariants.{Begin, Return, Renew}
use Rattle.histories.specs.declared.entry.Entry.{Entry}
use Rattle.histories.specs.declared.entry.Entry.TheVariants.{Told}
use Rattle.certificates.specs.Certificates.{whose}
use Rattle.judge.specs.declared.reason.Standing.{Standing}
use Rattle.judge.specs.declared.reason.Standing.TheVariants.{Resting, Calling}
use Rattle.judge.specs.Evidence.{DeathIsNamed, death_behind, gets, is_calling, is_death, is_yes, known_or, leaves, may_own, owned, owned_after}
use Rattle.judge.specs.Reasons.{IsNewest, dies, standing_behind}
use Rattle.judge.proofs.Truths.{says}

both_left : (a b : Bool) → (a && b) ≡ true → a ≡ true
both_left true b is = refl
both_left false b is = is

both_right : (a b : Bool) → (a && b) ≡ true → b ≡ true
both_right true b is = is
both_right false b is = absurd cc

abbrev IsNamedDeath : ℕ → List Entry → ℕ → Type 0
IsNamedDeath m es n = (later : List Entry) × (e : Entry) × (earlier : List Entry) × (es ≡ later ++ e ∷ earlier) × (n ≡ length earlier + 1) × (dies e ≡ true) × (may_own m (whose e) earlier ≡ true)

death_at : (m : ℕ) (es : List Entry) (n : ℕ) → death_behind m es ≡ Some n → IsNamedDeath m es n
death_at m [] n is = let no : None ≡ Some n = is in absurd cc
death_at m (e ∷ es) n is = go (is_death m e es) refl is (death_at m es n)
  where
    go : (b : Bool) → is_death m e es ≡ b → (if b then Some (length es + 1) else death_behind m es) ≡ Some n → (death_behind m es ≡ Some n → IsNamedDeath m es n) → IsNamedDeath m (e ∷ es) n
    go true death is more =
        let place : length es + 1 ≡ n = cc in
        ([], e, es, refl, sym place, both_left (dies e) (may_own m (whose e) es) death, both_right (dies e) (may_own m (whose e) es) death)
    go false death is more =
        let old = more is in
        (e ∷ old.0, old.1, old.2, ap (λ (xs : List Entry). e ∷ xs) old.3, old.4, old.5, old.6)

death_found : (m : ℕ) (e : Entry) (es : List Entry) → dies e ≡ true → may_own m (whose e) es ≡ true → death_behind m (e ∷ es) ≡ Some (length es + 1)
death_found m e es death owns = λ i. if death i && owns i then Some (length es + 1) else death_behind m es

calling_may : (m t : ℕ) (es : List Entry) (c : Begun) → IsNewest t es (Told (Begin t c)) → c.mutex ≡ m → may_own m t es ≡ true
calling_may m t es c n on =
    ap (λ (s : Standing). if is_calling m s then true else is_yes (owned m t es)) (says t es (Told (Begin t c)) n)
    ∙ ap (λ (b : Bool). if b then true else is_yes (owned m t es)) (eq-eqb c.mutex m on)

given_may : (m t : ℕ) (es : List Entry) (c : Begun) (x : Reply) → IsNewest t es (Told (Begin t c)) → c.mutex ≡ m → gets c.operation x ≡ true → may_own m t (Told (Return t x) ∷ es) ≡ true
given_may m t es c x n on gives =
    let same : (t == t) ≡ true = eq-eqb t t refl in
    let there : standing_behind t es ≡ Calling c (length n.earlier + 1) = says t es (Told (Begin t c)) n in
    let after : owned_after m (standing_behind t es) x ≡ Some true =
    ap (λ (s : Standing). owned_after m s x) there
    ∙ ap (λ (b : Bool). if b then (if gets c.operation x then Some true else (if leaves c.operation x then Some false else None)) else None) (eq-eqb c.mutex m on)
    ∙ ap (λ (b : Bool). if b then Some true else (if leaves c.operation x then Some false else None)) gives in
    ap (λ (b : Bool). if is_calling m (if b then Resting else standing_behind t es) then true else is_yes (known_or (if b then owned_after m (standing_behind t es) x else None) (owned m t es))) same
    ∙ ap (λ (o : Option Bool). is_yes (known_or o (owned m t es))) after

renewed_may : (m t : ℕ) (es : List Entry) → may_own m t (Told (Renew t) ∷ es) ≡ false
renewed_may m t es =
    let same : (t == t) ≡ true = eq-eqb t t refl in
    ap (λ (b : Bool). if is_calling m (if b then Resting else standing_behind t es) then true else is_yes (known_or (if b then Some false else None) (owned m t es))) same

pub death_so : DeathIsNamed
death_so = record { death = death_at; found = death_found; calling = calling_may; given = given_may; renewed = renewed_may }
