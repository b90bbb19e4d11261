-- A line that is out of its thread's turn has a reason.
use Rattle.std.proofs.Common.{◌≡◌, ℕ, ◌+◌, true, false, List, length, Some, refl, sym, ap, ◌∙◌}
use Rattle.lockword.specs.declared.reply.Reply.{Reply}
use Rattle.posixmutex.specs.declared.point.Operation.{Operation}
use Rattle.facts.specs.declared.fact.Fact.TheVariants.{Begin, Return, Kill, Reap, Renew}
use Rattle.histories.specs.declared.entry.Entry.{Entry}
use Rattle.histories.specs.declared.entry.Entry.TheVariants.{Told, Doom}
use Rattle.certificates.specs.Certificates.{whose}
use Rattle.judge.specs.declared.reason.OutOfTurn.{OutOfTurn as OutOfTurn'}
use Rattle.judge.specs.declared.reason.OutOfTurn.TheVariants as turn
use Rattle.judge.specs.declared.reason.Reason.TheVariants.{OutOfTurn, NoOrder}
use Rattle.judge.specs.declared.reason.Standing.{Standing}
use Rattle.judge.specs.declared.reason.Standing.TheVariants.{Resting, Calling, Dead, Reaped}
use Rattle.judge.specs.Reasons.{AreGivenReasons, IsSeen, IsSo, Newest, NotNewest, begins, dies, reaps, reason_by, reason_of, renews, returns, standing_behind}
use Rattle.judge.proofs.Truths.{Found, found, says}

-- the reason for a line of a thread that is there says that the line is out of turn
abbrev IsOut : Standing → Entry → Type 0
IsOut s e = (told : OutOfTurn') × (reason_by s e ≡ Some (OutOfTurn told))

-- it is so of where the thread is
out_at : (es : List Entry) (e : Entry) (s : Standing) → standing_behind (whose e) es ≡ s → IsOut s e → IsOut (standing_behind (whose e) es) e
out_at es e s at out = (out.0, ap (λ (k : Standing). reason_by k e) at ∙ out.1)

-- ---- where its newest line says where it is

in_call : (es : List Entry) (e : Entry) → begins e ≡ true → Newest begins (whose e) es → IsOut (standing_behind (whose e) es) e
in_call es (Told (Begin t c)) is (Told (Begin u d), n, such) =
    out_at es (Told (Begin t c)) (Calling d (length n.earlier + 1)) (says t es (Told (Begin u d)) n) (turn.InCall, refl)
in_call es (Told (Begin t c)) is (newest, n, such) = let no : false ≡ true = such in absurd cc
in_call es e is newest = let no : false ≡ true = is in absurd cc

of_dead : (e : Entry) → IsSeen e → reaps e ≡ false → IsOut Dead e
of_dead (Told (Begin t c)) seen lives = (turn.Dead, refl)
of_dead (Told (Return t x)) seen lives = (turn.Dead, refl)
of_dead (Told (Kill t)) seen lives = (turn.Dead, refl)
of_dead (Told (Reap t)) seen lives = let no : true ≡ false = lives in absurd cc
of_dead (Told (Renew t)) seen lives = (turn.NotReaped, refl)
of_dead (Told f) seen lives = let no : true ≡ false = seen in absurd cc
of_dead (Doom t) seen lives = (turn.Dead, refl)

dead : (es : List Entry) (e : Entry) → IsSeen e → reaps e ≡ false → Newest dies (whose e) es → IsOut (standing_behind (whose e) es) e
dead es e seen lives (Told (Kill u), n, such) = out_at es e Dead (says (whose e) es (Told (Kill u)) n) (of_dead e seen lives)
dead es e seen lives (Doom u, n, such) = out_at es e Dead (says (whose e) es (Doom u) n) (of_dead e seen lives)
dead es e seen lives (newest, n, such) = let no : false ≡ true = such in absurd cc

of_reaped : (e : Entry) → IsSeen e → renews e ≡ false → IsOut Reaped e
of_reaped (Told (Begin t c)) seen old = (turn.Reaped, refl)
of_reaped (Told (Return t x)) seen old = (turn.Reaped, refl)
of_reaped (Told (Kill t)) seen old = (turn.Reaped, refl)
of_reaped (Told (Reap t)) seen old = (turn.Reaped, refl)
of_reaped (Told (Renew t)) seen old = let no : true ≡ false = old in absurd cc
of_reaped (Told f) seen old = let no : true ≡ false = seen in absurd cc
of_reaped (Doom t) seen old = (turn.Reaped, refl)

gone : (es : List Entry) (e : Entry) → IsSeen e → renews e ≡ false → Newest reaps (whose e) es → IsOut (standing_behind (whose e) es) e
gone es e seen old (Told (Reap u), n, such) = out_at es e Reaped (says (whose e) es (Told (Reap u)) n) (of_reaped e seen old)
gone es e seen old (newest, n, such) = let no : false ≡ true = such in absurd cc

-- ---- where its newest line says where it isn't

no_call : (t : ℕ) (x : Reply) (es : List Entry) (s : Standing) → Found t es s → NotNewest begins t es → IsOut s (Told (Return t x))
no_call t x es Resting f none = (turn.NoCall, refl)
no_call t x es (Calling c k) f none = let no : true ≡ false = none (Told (Begin t c)) f.0 in absurd cc
no_call t x es Dead f none = (turn.Dead, refl)
no_call t x es Reaped f none = (turn.Reaped, refl)

uncalled : (es : List Entry) (e : Entry) → returns e ≡ true → NotNewest begins (whose e) es → IsOut (standing_behind (whose e) es) e
uncalled es (Told (Return t x)) is none = no_call t x es (standing_behind t es) (found t es) none
uncalled es e is none = let no : false ≡ true = is in absurd cc

alive : (t : ℕ) (es : List Entry) (s : Standing) → Found t es s → NotNewest dies t es → IsOut s (Told (Reap t))
alive t es Resting f none = (turn.Alive, refl)
alive t es (Calling c k) f none = (turn.Alive, refl)
alive t es Dead f none = let no : true ≡ false = sym f.2 ∙ none f.0 f.1 in absurd cc
alive t es Reaped f none = (turn.Reaped, refl)

unkilled : (es : List Entry) (e : Entry) → reaps e ≡ true → NotNewest dies (whose e) es → IsOut (standing_behind (whose e) es) e
unkilled es (Told (Reap t)) is none = alive t es (standing_behind t es) (found t es) none
unkilled es e is none = let no : false ≡ true = is in absurd cc

not_reaped : (t : ℕ) (es : List Entry) (s : Standing) → Found t es s → NotNewest reaps t es → IsOut s (Told (Renew t))
not_reaped t es Resting f none = (turn.NotReaped, refl)
not_reaped t es (Calling c k) f none = (turn.NotReaped, refl)
not_reaped t es Dead f none = (turn.NotReaped, refl)
not_reaped t es Reaped f none = let no : true ≡ false = sym f.2 ∙ none f.0 f.1 in absurd cc

unreaped : (es : List Entry) (e : Entry) → renews e ≡ true → NotNewest reaps (whose e) es → IsOut (standing_behind (whose e) es) e
unreaped es (Told (Renew t)) is none = not_reaped t es (standing_behind t es) (found t es) none
unreaped es e is none = let no : false ≡ true = is in absurd cc

-- ---- so each has a reason

out : (es : List Entry) (e : Entry) (why : OutOfTurn') → IsSeen e → IsSo es e (OutOfTurn why) → IsOut (standing_behind (whose e) es) e
out es e turn.InCall seen so = in_call es e so.0 so.1
out es e turn.NoCall seen so = uncalled es e so.0 so.1
out es e turn.Dead seen so = dead es e seen so.0 so.1
out es e turn.Reaped seen so = gone es e seen so.0 so.1
out es e turn.Alive seen so = unkilled es e so.0 so.1
out es e turn.NotReaped seen so = unreaped es e so.0 so.1

-- and a return names its call
named : (es : List Entry) (e : Entry) (op : Operation) (m : ℕ) (x : Reply) (n : ℕ) → IsSo es e (NoOrder op m x n) → reason_of es e ≡ Some (NoOrder op m x n)
named es e op m x n so =
    let at : standing_behind (whose e) es ≡ Calling so.call (length so.newest.earlier + 1) = says (whose e) es (Told (Begin (whose e) so.call)) so.newest in
    ap (λ (k : Standing). reason_by k e) at
    ∙ ap (λ (l : Entry). reason_by (Calling so.call (length so.newest.earlier + 1)) l) so.line
    ∙ (λ i. Some (NoOrder (so.operation_is i) (so.mutex_is i) x (sym so.place i)))

pub given : AreGivenReasons
given = record { turns = out; returns = named }
