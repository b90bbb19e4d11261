-- What is said of a line that is out of its thread's turn.
use Rattle.std.proofs.Common.{◌≡◌, ℕ, ◌+◌, true, false, List, length, None, Some, sym, ap, ◌∙◌}
use Rattle.std.specs.Prelude.{codes}
use Rattle.lockword.specs.declared.reply.Reply.{Reply}
use Rattle.facts.specs.declared.fact.Fact.TheVariants.{Begin, Return, Kill, Reap, Renew}
use Rattle.histories.specs.declared.entry.Entry.{Entry}
use Rattle.histories.specs.declared.entry.Entry.TheVariants.{Told, Doom}
use Rattle.certificates.specs.Certificates.{whose}
use Rattle.judge.specs.declared.reason.OutOfTurn.{OutOfTurn as OutOfTurn'}
use Rattle.judge.specs.declared.reason.OutOfTurn.TheVariants as turn
use Rattle.judge.specs.declared.reason.Reason.TheVariants.{OutOfTurn, NoOrder}
use Rattle.judge.specs.declared.reason.Standing.{Standing}
use Rattle.judge.specs.declared.reason.Standing.TheVariants.{Resting, Calling, Dead, Reaped}
use Rattle.judge.specs.Reasons.{Newest, NotNewest, begins, dies, reaps, reason_by, reason_of, renews, returns, standing_behind}
use Rattle.judge.proofs.Truths.{Found, found, says}
use Rattle.judge_report.specs.Laws.{TurnWordsAreSo}
use Rattle.judge_report.specs.Texts.{turn_words}

abbrev GivesReason : Standing → Entry → OutOfTurn' → Type 0
GivesReason s e why = reason_by s e ≡ Some (OutOfTurn why)

-- where the thread is, if its newest line says so
at : (es : List Entry) (e : Entry) (why : OutOfTurn') (s : Standing) → reason_of es e ≡ Some (OutOfTurn why) → standing_behind (whose e) es ≡ s → GivesReason s e why
at es e why s is there = sym (ap (λ (k : Standing). reason_by k e) there) ∙ is

same_words : (such why : OutOfTurn') → Some (OutOfTurn such) ≡ Some (OutOfTurn why) → turn_words why ≡ turn_words such
same_words such why is = let same : why ≡ such = cc in ap turn_words same

of_dead : (e : Entry) (why : OutOfTurn') → renews e ≡ false → GivesReason Dead e why → turn_words why ≡ codes " is dead or doomed there\n"
of_dead (Told (Begin t c)) why old is = same_words turn.Dead why is
of_dead (Told (Return t x)) why old is = same_words turn.Dead why is
of_dead (Told (Kill t)) why old is = same_words turn.Dead why is
of_dead (Told (Renew t)) why old is = let no : true ≡ false = old in absurd cc
of_dead (Told f) why old is = let no : None ≡ Some (OutOfTurn why) = is in absurd cc
of_dead (Doom t) why old is = same_words turn.Dead why is

dead : (es : List Entry) (e : Entry) (why : OutOfTurn') → reason_of es e ≡ Some (OutOfTurn why) → renews e ≡ false → Newest dies (whose e) es → turn_words why ≡ codes " is dead or doomed there\n"
dead es e why is old (Told (Kill u), n, such) = of_dead e why old (at es e why Dead is (says (whose e) es (Told (Kill u)) n))
dead es e why is old (Doom u, n, such) = of_dead e why old (at es e why Dead is (says (whose e) es (Doom u) n))
dead es e why is old (newest, n, such) = let no : false ≡ true = such in absurd cc

of_reaped : (e : Entry) (why : OutOfTurn') → GivesReason Reaped e why → turn_words why ≡ codes " is reaped there\n"
of_reaped (Told (Begin t c)) why is = same_words turn.Reaped why is
of_reaped (Told (Return t x)) why is = same_words turn.Reaped why is
of_reaped (Told (Kill t)) why is = same_words turn.Reaped why is
of_reaped (Told (Reap t)) why is = same_words turn.Reaped why is
of_reaped (Told f) why is = let no : None ≡ Some (OutOfTurn why) = is in absurd cc
of_reaped (Doom t) why is = same_words turn.Reaped why is

reaped : (es : List Entry) (e : Entry) (why : OutOfTurn') → reason_of es e ≡ Some (OutOfTurn why) → Newest reaps (whose e) es → turn_words why ≡ codes " is reaped there\n"
reaped es e why is (Told (Reap u), n, such) = of_reaped e why (at es e why Reaped is (says (whose e) es (Told (Reap u)) n))
reaped es e why is (newest, n, such) = let no : false ≡ true = such in absurd cc

in_call : (es : List Entry) (e : Entry) (why : OutOfTurn') → reason_of es e ≡ Some (OutOfTurn why) → begins e ≡ true → Newest begins (whose e) es → turn_words why ≡ codes " is in a call there\n"
in_call es (Told (Begin t c)) why is such (Told (Begin u d), n, newest) =
    same_words turn.InCall why (at es (Told (Begin t c)) why (Calling d (length n.earlier + 1)) is (says t es (Told (Begin u d)) n))
in_call es (Told (Begin t c)) why is such (other, n, newest) = let no : false ≡ true = newest in absurd cc
in_call es e why is such newest = let no : false ≡ true = such in absurd cc

of_return : (t : ℕ) (x : Reply) (es : List Entry) (why : OutOfTurn') (s : Standing) → Found t es s → NotNewest dies t es → NotNewest reaps t es → GivesReason s (Told (Return t x)) why → turn_words why ≡ codes " is in no call there\n"
of_return t x es why Resting f alive unreaped is = same_words turn.NoCall why is
of_return t x es why (Calling c k) f alive unreaped is = let no : Some (NoOrder c.operation c.mutex x k) ≡ Some (OutOfTurn why) = is in absurd cc
of_return t x es why Dead f alive unreaped is = let no : true ≡ false = sym f.2 ∙ alive f.0 f.1 in absurd cc
of_return t x es why Reaped f alive unreaped is = let no : true ≡ false = sym f.2 ∙ unreaped f.0 f.1 in absurd cc

no_call : (es : List Entry) (e : Entry) (why : OutOfTurn') → reason_of es e ≡ Some (OutOfTurn why) → returns e ≡ true → NotNewest dies (whose e) es → NotNewest reaps (whose e) es → turn_words why ≡ codes " is in no call there\n"
no_call es (Told (Return t x)) why is such alive unreaped = of_return t x es why (standing_behind t es) (found t es) alive unreaped is
no_call es e why is such alive unreaped = let no : false ≡ true = such in absurd cc

of_reaping : (t : ℕ) (es : List Entry) (why : OutOfTurn') (s : Standing) → Found t es s → NotNewest reaps t es → GivesReason s (Told (Reap t)) why → turn_words why ≡ codes " is alive there: nothing told of its death\n"
of_reaping t es why Resting f unreaped is = same_words turn.Alive why is
of_reaping t es why (Calling c k) f unreaped is = same_words turn.Alive why is
of_reaping t es why Dead f unreaped is = let no : None ≡ Some (OutOfTurn why) = is in absurd cc
of_reaping t es why Reaped f unreaped is = let no : true ≡ false = sym f.2 ∙ unreaped f.0 f.1 in absurd cc

alive : (es : List Entry) (e : Entry) (why : OutOfTurn') → reason_of es e ≡ Some (OutOfTurn why) → reaps e ≡ true → NotNewest reaps (whose e) es → turn_words why ≡ codes " is alive there: nothing told of its death\n"
alive es (Told (Reap t)) why is such unreaped = of_reaping t es why (standing_behind t es) (found t es) unreaped is
alive es e why is such unreaped = let no : false ≡ true = such in absurd cc

of_renewal : (t : ℕ) (why : OutOfTurn') (s : Standing) → GivesReason s (Told (Renew t)) why → turn_words why ≡ codes " isn't reaped there\n"
of_renewal t why Resting is = same_words turn.NotReaped why is
of_renewal t why (Calling c k) is = same_words turn.NotReaped why is
of_renewal t why Dead is = same_words turn.NotReaped why is
of_renewal t why Reaped is = let no : None ≡ Some (OutOfTurn why) = is in absurd cc

not_reaped : (es : List Entry) (e : Entry) (why : OutOfTurn') → reason_of es e ≡ Some (OutOfTurn why) → renews e ≡ true → turn_words why ≡ codes " isn't reaped there\n"
not_reaped es (Told (Renew t)) why is such = of_renewal t why (standing_behind t es) is
not_reaped es e why is such = let no : false ≡ true = such in absurd cc

pub turn_words_so : TurnWordsAreSo
turn_words_so es e why is = record {
  dead = dead es e why is;
  reaped = reaped es e why is;
  in_call = in_call es e why is;
  no_call = no_call es e why is;
  alive = alive es e why is;
  not_reaped = not_reaped es e why is;
}
