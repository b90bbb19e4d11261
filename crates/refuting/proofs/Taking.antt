-- A line is taken, or refutes the history.
use Rattle.std.proofs.Common.{◌≡◌, ◌≢◌, ℕ, ◌<◌, ◌≤◌, ◌==◌, ◌⊎◌, inl, inr, Bool, true, false, List, [], ◌∷◌, length, refl, sym, ap, subst, ◌∙◌, arith, length-set, get_or-set_same, get_or-set_other, MatchBool}
use Rattle.std.specs.Prelude.{if◌then◌else◌, not, Option, Some, None, slice_set}
use Rattle.std.proofs.lemmas.Bool.Decides.{nat_tests}
use Rattle.lockword.specs.declared.reply.Reply.{Reply}
use Rattle.facts.specs.declared.fact.Begun.{Begun}
use Rattle.facts.specs.declared.fact.Fact.TheVariants as fact
use Rattle.facts.specs.declared.fact.Line.{Line}
use Rattle.facts.specs.Facts.{thread_of}
use Rattle.facts.specs.Orders.{Each}
use Rattle.verdict.specs.Earlier.{told_of}
use Rattle.verdict.specs.Judges.{IsMutex}
use Rattle.verdict.specs.Verdicts.{AllFit}
use Rattle.histories.specs.declared.entry.Entry.{Entry}
use Rattle.histories.specs.declared.entry.Entry.TheVariants.{Told, Doom}
use Rattle.histories.specs.Histories.{AllReleaseWell, Certifies, LegalHistory}
use Rattle.histories.specs.Histories.{Shows, Nothing, Hides, Tells, Dooms, Kills}
use Rattle.refuting.specs.declared.refuter.Refuter.{Refuter}
use Rattle.refuting.specs.declared.turn.Turn.{Turn}
use Rattle.refuting.specs.declared.turn.Turn.TheVariants.{Resting, Calling, Dying, Reaped}
use Rattle.refuting.specs.Steps.{IsClosed}
use Rattle.refuting.specs.Following.{Follows, HaveWaited, Retells, StandsFor, Takes, stage_after}
use Rattle.refuting.specs.Turns.{Turned, entry_thread, reply_in, turn_after, turn_at}
use Rattle.refuting.proofs.Staging.{stage_kept, stage_may, turned_doom, turned_told}
use Rattle.refuting.specs.Counts.{Counted, WithinLimit, count_after, count_at}
use Rattle.posixmutex.specs.Histories.{held_by}
use Rattle.verdict.specs.Earlier.{objects_after}
use Rattle.refuting.proofs.Tallying.{Tally, doom_count, hidden_tally, killed_tally, told_tally, within}
use Rattle.refuting.proofs.Standing.{same_or_not}
use Rattle.refuting.proofs.Telling.{Known, Standing, Step, behind, turn_here, turn_there}
use Rattle.lockword.specs.Threads.{most_threads}
use Rattle.refuting.specs.States.{ids}

-- ---- what is known after the line

known_next : (n : ℕ) (h future : List Entry) (e : Entry) (x : Option Reply) (r k : Refuter) (after : Turn) → Step n h future e x r k after → Known r.mutex k.turns k.states.items
known_next n h future e x r k after st = record {
  long = ap length st.turns ∙ length-set r.turns (entry_thread e) after ∙ st.follows.long;
  nobody = let other : 0 ≢ entry_thread e = λ same. absurd (omega (arith, same, st.first)) in turn_there r.turns k.turns (entry_thread e) 0 after st.turns other ∙ st.follows.nobody;
  closed = subst (λ m. IsClosed m k.turns k.states.items) st.mutex st.closed;
}

-- a line of another thread says nothing of what a thread returns
reply_other : (t : ℕ) (e : Entry) (future : List Entry) → t ≢ entry_thread e → reply_in t (e ∷ future) ≡ reply_in t future
reply_other t (Told (fact.Return u y)) future other = by_cases (u == t) refl where
  by_cases : (b : Bool) → (u == t) ≡ b → (if b then Some y else reply_in t future) ≡ reply_in t future
  by_cases true is = let same : u ≡ t = grind (arith, nat_tests) in absurd (other (sym same))
  by_cases false is = refl
reply_other t (Told f) future other = refl
reply_other t (Doom u) future other = refl

begun_reply : (turn : Turn) (e : Entry) (x : Option Reply) (k : Begun) (y : Option Reply) → turn_after turn e x ≡ Some (Calling k y) → y ≡ x
begun_reply Resting (Told (fact.Begin t c)) x k y is = cc
begun_reply Resting (Told f) x k y is = absurd cc
begun_reply Resting (Doom t) x k y is = absurd cc
begun_reply (Calling c z) (Told (fact.Return t r)) x k y is = absurd cc
begun_reply (Calling c z) (Told f) x k y is = absurd cc
begun_reply (Calling c z) (Doom t) x k y is = absurd cc
begun_reply (Dying c) (Told (fact.Reap t)) x k y is = absurd cc
begun_reply (Dying c) (Told f) x k y is = absurd cc
begun_reply (Dying c) (Doom t) x k y is = absurd cc
begun_reply Reaped (Told (fact.Renew t)) x k y is = absurd cc
begun_reply Reaped (Told f) x k y is = absurd cc
begun_reply Reaped (Doom t) x k y is = absurd cc

knows_next : (n : ℕ) (h future : List Entry) (e : Entry) (x : Option Reply) (r k : Refuter) (after : Turn) → Step n h future e x r k after → (t : ℕ) (c : Begun) (y : Option Reply) → turn_at k.turns t ≡ Calling c y → y ≡ reply_in t future
knows_next n h future e x r k after st t c y is = by_cases (same_or_not t (entry_thread e)) where
  by_cases : (t ≡ entry_thread e) ⊎ (t ≢ entry_thread e) → y ≡ reply_in t future
  by_cases (inl same) =
      let here : turn_at k.turns (entry_thread e) ≡ after = turn_here r.turns k.turns (entry_thread e) after st.turns st.follows.long st.last in
      let its : after ≡ Calling c y = sym here ∙ ap (turn_at k.turns) (sym same) ∙ is in
      begun_reply (turn_at r.turns (entry_thread e)) e x c y (st.turn ∙ ap Some its) ∙ st.reply ∙ ap (λ u. reply_in u future) (sym same)
  by_cases (inr other) =
      st.follows.knows t c y (sym (turn_there r.turns k.turns (entry_thread e) t after st.turns other) ∙ is) ∙ reply_other t e future other

-- ---- how many mutexes threads own

count_here : (hs ks : List ℕ) (u own : ℕ) → ks ≡ slice_set hs u own → length hs ≡ ids → u < ids → count_at ks u ≡ own
count_here hs ks u own is long lt = let inside : u < length hs = omega (arith, long, lt) in ap (λ z. count_at z u) is ∙ get_or-set_same hs u own 0 inside

count_there : (hs ks : List ℕ) (u t own : ℕ) → ks ≡ slice_set hs u own → t ≢ u → count_at ks t ≡ count_at hs t
count_there hs ks u t own is other = ap (λ z. count_at z t) is ∙ get_or-set_other hs u t own 0 other

tallies : (n : ℕ) (h future : List Entry) (e : Entry) (x : Option Reply) (r k : Refuter) (after : Turn) → Step n h future e x r k after
    → (d : ℕ → Bool) (es : List Line) (g : List Entry) → Shows d es g → g ≡ e ∷ h → AllFit n es → AllReleaseWell es → Each (λ l. IsMutex n l.fact) es → Tally n es (count_at k.held)
tallies n h future e x r k after st d es g Nothing is fit well inside = let none : [] ≡ e ∷ h = is in absurd cc
tallies n h future e x r k after st d es g (Hides d' l es' g' hid shows) is fit well inside =
    hidden_tally n l es' (count_at k.held) hid fit inside.0 (tallies n h future e x r k after st d' es' g' shows is fit.1 well.1 inside.1)
tallies n h future e x r k after st d es g (Kills d' u l es' g' kill doomed shows) is fit well inside =
    subst (λ f. Tally n (record { event = l.event; fact = f } ∷ es') (count_at k.held)) (sym kill) (killed_tally n l.event u es' (count_at k.held) (tallies n h future e x r k after st d' es' g' shows is fit.1 well.1 inside.1))
tallies n h future e x r k after st d es g (Tells d' l es' g' seen free shows) is fit well inside =
    let all : Told l.fact ∷ g' ≡ e ∷ h = is in
    let one : Told l.fact ≡ e = cc in
    let rest : g' ≡ h = cc in
    let s : Step n h future (Told l.fact) x r k after = subst (λ z. Step n h future z x r k after) (sym one) st in
    let cert : Certifies n d' es' h = record { fits = fit.1; waits = well.1; inside = inside.1; shows = subst (Shows d' es') rest shows } in
    let u = thread_of l.fact in
    told_tally n l es' (turn_at r.turns u) (count_at r.held) (count_at k.held) seen fit (subst (Turned (turn_at r.turns u) (stage_after u es')) free (s.follows.turned d' es' cert u)) (s.follows.counted d' es' cert)
    (count_here r.held k.held u (count_after (turn_at r.turns u) (Told l.fact) (count_at r.held u)) s.held s.follows.holds s.last) (λ t other. count_there r.held k.held u t _ s.held other)
tallies n h future e x r k after st d es g (Dooms d' u es' g' free alive shows) is fit well inside =
    let all : Doom u ∷ g' ≡ e ∷ h = is in
    let one : Doom u ≡ e = cc in
    let rest : g' ≡ h = cc in
    let s : Step n h future (Doom u) x r k after = subst (λ z. Step n h future z x r k after) (sym one) st in
    let cert : Certifies n d' es' h = record { fits = fit; waits = well; inside = inside; shows = subst (Shows d' es') rest shows } in
    λ t. subst (Counted (stage_after t es') (held_by t (objects_after es') n)) (sym (same s t)) (s.follows.counted d' es' cert t)
  where
    same : Step n h future (Doom u) x r k after → (t : ℕ) → count_at k.held t ≡ count_at r.held t
    same s t = by_cases (same_or_not t u) where
      by_cases : (t ≡ u) ⊎ (t ≢ u) → count_at k.held t ≡ count_at r.held t
      by_cases (inl eq) =
          ap (count_at k.held) eq ∙ count_here r.held k.held u (count_after (turn_at r.turns u) (Doom u) (count_at r.held u)) s.held s.follows.holds s.last ∙ doom_count (turn_at r.turns u) u (count_at r.held u) ∙ ap (count_at r.held) (sym eq)
      by_cases (inr other) = count_there r.held k.held u t _ s.held other

stands_next : (n : ℕ) (h future : List Entry) (e : Entry) (x : Option Reply) (r k : Refuter) (after : Turn) → Step n h future e x r k after → (d : ℕ → Bool) (es : List Line) → Certifies n d es (e ∷ h) → Standing r.mutex k.turns k.states.items d es
stands_next n h future e x r k after st d es c = behind n h future e x r k after st (known_next n h future e x r k after st) d es (e ∷ h) c.shows refl c.fits c.waits c.inside

pub follows_next : (n : ℕ) (h future : List Entry) (e : Entry) (x : Option Reply) (r k : Refuter) (after : Turn) → Step n h future e x r k after → Follows n (e ∷ h) future k
follows_next n h future e x r k after st = record {
  long = (known_next n h future e x r k after st).long;
  nobody = (known_next n h future e x r k after st).nobody;
  knows = knows_next n h future e x r k after st;
  turned = λ d es c. (stands_next n h future e x r k after st d es c).turned;
  stands = λ d es c. let s = (stands_next n h future e x r k after st d es c).stood in (s.state, s.there, subst (λ m. StandsFor m k.turns es s.state) (sym st.mutex) s.stands, subst (λ m. HaveWaited m k.turns es s.state) (sym st.mutex) s.waits);
  holds = ap length st.held ∙ length-set r.held (entry_thread e) _ ∙ st.follows.holds;
  counted = λ d es c. tallies n h future e x r k after st d es (e ∷ h) c.shows refl c.fits c.waits c.inside;
  closed = st.closed;
}

-- no state is left
pub none_left : (n : ℕ) (h future : List Entry) (e : Entry) (x : Option Reply) (r k : Refuter) (after : Turn) → Step n h future e x r k after → length k.states.items ≡ 0 → LegalHistory n (e ∷ h) → ⊥
none_left n h future e x r k after st none legal =
    let s = (stands_next n h future e x r k after st legal.doomed legal.trace legal.certifies).stood in
    let i = s.there in
    omega (arith, none, i.1)

-- ---- a line that can't be recorded

record Heard (turn : Turn) (e : Entry) (x : Option Reply) (own : ℕ) : Type 0 where
  after : Turn
  is : turn_after turn e x ≡ Some after
  limit : WithinLimit turn e own

doom_limit : (turn : Turn) (u own : ℕ) → WithinLimit turn (Doom u) own
doom_limit (Calling c x) u own = tt
doom_limit turn u own = tt

heard : (n : ℕ) (h future : List Entry) (e : Entry) (x : Option Reply) (r : Refuter) → Follows n h (e ∷ future) r
    → (d : ℕ → Bool) (es : List Line) (g : List Entry) → Shows d es g → g ≡ e ∷ h → AllFit n es → AllReleaseWell es → Each (λ l. IsMutex n l.fact) es → Heard (turn_at r.turns (entry_thread e)) e x (count_at r.held (entry_thread e))
heard n h future e x r fol d es g Nothing is fit well inside = let none : [] ≡ e ∷ h = is in absurd cc
heard n h future e x r fol d es g (Hides d' l es' g' hid shows) is fit well inside = heard n h future e x r fol d' es' g' shows is fit.1 well.1 inside.1
heard n h future e x r fol d es g (Kills d' u l es' g' kill doomed shows) is fit well inside = heard n h future e x r fol d' es' g' shows is fit.1 well.1 inside.1
heard n h future e x r fol d es g (Tells d' l es' g' seen free shows) is fit well inside =
    let all : Told l.fact ∷ g' ≡ e ∷ h = is in
    let one : Told l.fact ≡ e = cc in
    let rest : g' ≡ h = cc in
    let u = thread_of l.fact in
    let cert : Certifies n d' es' h = record { fits = fit.1; waits = well.1; inside = inside.1; shows = subst (Shows d' es') rest shows } in
    let turned : Turned (turn_at r.turns u) (stage_after u es') false = subst (Turned (turn_at r.turns u) (stage_after u es')) free (fol.turned d' es' cert u) in
    let to = turned_told (turn_at r.turns u) (stage_after u es') l.fact x turned (stage_may n l es' fit) seen in
    subst (λ z. Heard (turn_at r.turns (entry_thread z)) z x (count_at r.held (entry_thread z))) one
    (record { after = to.after; is = to.is; limit = within l.fact (turn_at r.turns u) (stage_after u es') (held_by u (objects_after es') n) (count_at r.held u) turned (stage_may n l es' fit) (fol.counted d' es' cert u) })
heard n h future e x r fol d es g (Dooms d' u es' g' free alive shows) is fit well inside =
    let all : Doom u ∷ g' ≡ e ∷ h = is in
    let one : Doom u ≡ e = cc in
    let rest : g' ≡ h = cc in
    let turned = fol.turned d' es' (record { fits = fit; waits = well; inside = inside; shows = subst (Shows d' es') rest shows }) u in
    let to = turned_doom (turn_at r.turns u) (stage_after u es') (told_of u es') (subst (Turned (turn_at r.turns u) (stage_after u es')) free turned) (stage_kept n es' fit u) alive in
    subst (λ z. Heard (turn_at r.turns (entry_thread z)) z x (count_at r.held (entry_thread z))) one (record { after = to.after; is = to.is; limit = doom_limit (turn_at r.turns u) u (count_at r.held u) })

pub untold : (n : ℕ) (h future : List Entry) (e : Entry) (x : Option Reply) (r : Refuter) → Follows n h (e ∷ future) r → turn_after (turn_at r.turns (entry_thread e)) e x ≡ None → LegalHistory n (e ∷ h) → ⊥
untold n h future e x r fol none legal =
    let to = heard n h future e x r fol legal.doomed legal.trace (e ∷ h) legal.certifies.shows refl legal.certifies.fits legal.certifies.waits legal.certifies.inside in
    let clash : None ≡ Some to.after = sym none ∙ to.is in
    absurd cc

-- or that goes past the limit
pub past : (n : ℕ) (h future : List Entry) (e : Entry) (x : Option Reply) (r : Refuter) → Follows n h (e ∷ future) r → ¬ WithinLimit (turn_at r.turns (entry_thread e)) e (count_at r.held (entry_thread e)) → LegalHistory n (e ∷ h) → ⊥
past n h future e x r fol never legal =
    never (heard n h future e x r fol legal.doomed legal.trace (e ∷ h) legal.certifies.shows refl legal.certifies.fits legal.certifies.waits legal.certifies.inside).limit

-- ---- all of it

pub takes : (e : Entry) (x : Option Reply) (r k : Refuter) (after : Turn) (at : ℕ) (empty : Bool) → at ≡ entry_thread e → 1 ≤ at → at ≤ most_threads → Some after ≡ turn_after (turn_at r.turns at) e x → k.turns ≡ slice_set r.turns at after → k.held ≡ slice_set r.held at (count_after (turn_at r.turns at) e (count_at r.held at)) → k.mutex ≡ r.mutex
    → Retells r.mutex (turn_at r.turns at) e r.states.items k.states.items → IsClosed k.mutex k.turns k.states.items → (empty ≡ true → length k.states.items ≡ 0) → Takes r e x (not empty) k
takes e x r k after at empty is first last to turns held mutex retells closed none n h future inside follows reply = by_cases empty refl where
  st : Step n h future e x r k after
  st = record {
    inside = inside;
    follows = follows;
    reply = reply;
    turn = subst (λ u. turn_after (turn_at r.turns u) e x ≡ Some after) is (sym to);
    turns = subst (λ u. k.turns ≡ slice_set r.turns u after) is turns;
    held = subst (λ u. k.held ≡ slice_set r.held u (count_after (turn_at r.turns u) e (count_at r.held u))) is held;
    mutex = mutex;
    first = subst (λ u. 1 ≤ u) is first;
    last = let lt : at < ids = omega (arith, last) in subst (λ u. u < ids) is lt;
    retells = subst (λ u. Retells r.mutex (turn_at r.turns u) e r.states.items k.states.items) is retells;
    closed = closed;
  }

  by_cases : (b : Bool) → empty ≡ b → MatchBool (not b) (Follows n (e ∷ h) future k × (k.mutex ≡ r.mutex)) (LegalHistory n (e ∷ h) → ⊥)
  by_cases true is_so = none_left n h future e x r k after st (none is_so)
  by_cases false is_so = (follows_next n h future e x r k after st, mutex)
