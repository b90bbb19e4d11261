-- What a renewal does, and runs without renewals.
use Rattle.std.proofs.Common.{◌≡◌, ◌≢◌, ◌⊎◌, ℕ, ◌+◌, ◌<◌, ◌≤◌, ◌==◌, ◌&&◌, Bool, true, false, Option, None, Some, Ok, Err, List, [], ◌∷◌, ◌++◌, map, append-nil, refl, sym, ap, ◌∙◌, subst, arith}
use Rattle.protocol.proofs.Vocabulary.{Expired}
use Rattle.protocol.proofs.Vocabulary.{Condition, Mutex}
use Rattle.protocol.proofs.Vocabulary.{Object, Fact, Event, Reply, Queue, XHELD, Decision, Layout', head_place, Op, Note, Nothing, Began, Stepped, Killed, Left, Walked, Renewed, Reinited, Stage, Reaped, facts_of, State, After, start, begun}
use Rattle.protocol.proofs.Vocabulary.{first_word, happens, nothing, renewed, run, notes, killed, facts_among, if◌then◌else◌, nat_tests, line_of, lines_from}
use Rattle.memorymap.specs.Layouts.{head_word}
use Rattle.facts.specs.declared.fact.Fact.TheVariants.{Renew}
use Rattle.facts.specs.declared.fact.Line.{Line}
use Rattle.facts.specs.Facts.{thread_of}
use Rattle.facts.specs.Lives.{own, is_of_call, Life, Lives, Last, Earlier}
use Rattle.protocol.specs.Machine.{is_gone}
use Rattle.protocol.specs.Deaths.{IsNotRenewed}
use Rattle.protocol.specs.Renewals.{OnlyRenews, RenewalsBeginAnew, NobodyIsRenewed, LivesAreOne}
use Rattle.protocol.proofs.Kept.{Kept}
use Rattle.protocol.proofs.Events.{begins_at, by_event, by_stage, is_known}
use Rattle.protocol.proofs.Queued.{Queued}
use Rattle.protocol.proofs.Renewals.{renewed_word, renewed_elsewhere, renewed_seen, renewed_thread, renewed_other, reaped_owns_none, reaped_out}
use Rattle.protocol.proofs.Runs.{start_kept, run_kept, run_layout}
use Rattle.protocol.proofs.QueueRuns.{run_queued}
use Rattle.protocol.proofs.NoteFacts.{IsOfSleep, of_access, of_walk}
use Rattle.protocol.proofs.Deaths.{not_renewed_apart, reports_deaths}
use Rattle.protocol.proofs.Lives.{explained}

-- ---- a renewal

-- the first words of heads are of no counter
first_word_is : (l : Layout') (counters : ℕ → ℕ) (t k : ℕ) → 1 ≤ t → t ≤ l.threads → k < 3 → first_word l counters (head_place t + k) ≡ head_word l (head_place t + k)
first_word_is l counters t k pos known few = grind (arith, nat_tests)

module _ (s : State) (t : ℕ) (inv : Kept s) (queued : Queued s) (pos : 1 ≤ t) (known : t ≤ s.layout.threads) (gone : (s.threads t).stage ≡ Reaped) where
  -- a word that isn't one of the three stands before them or after them
  out : (p : ℕ) → ((k : ℕ) → k < 3 → p ≢ head_place t + k) → (p < head_place t) ⊎ (head_place t + 3 ≤ p)
  out p apart = let none = apart 0 (omega arith) in let nor = apart 1 (omega arith) in let nor_third = apart 2 (omega arith) in grind (arith)

  begins_anew : OnlyRenews s (renewed s t).state t
  begins_anew = record {
    thread = renewed_thread s t pos known;
    head = λ counters k few. renewed_word s t pos known k few ∙ sym (first_word_is s.layout counters t k pos known few);
    words = λ p apart. renewed_elsewhere s t pos known p (out p apart);
    others = λ u apart. renewed_other s t pos known u apart;
    queues = λ key. refl;
    awake = reaped_out s t pos known queued gone;
    owns_none = λ m own. reaped_owns_none s t pos known inv gone m (sym (ap (λ (o : Object). o.owner) (renewed_seen s t pos known m)) ∙ own);
  }

  happens_so : happens s (Event.Renew t) ≡ renewed s t
  happens_so =
      ap (λ (b : Bool). if b && is_gone (s.threads t).stage then renewed s t else nothing s) (is_known s t pos known)
      ∙ ap (λ (g : Stage). if is_gone g then renewed s t else nothing s) gone

  renews_so : OnlyRenews s (happens s (Event.Renew t)).state t × (facts_of (happens s (Event.Renew t)).note ≡ Renew t ∷ [])
  renews_so = subst (λ (a : After). OnlyRenews s a.state t × (facts_of a.note ≡ Renew t ∷ [])) (sym happens_so) (begins_anew, refl)

pub renewed_anew : RenewalsBeginAnew
renewed_anew l counters events is t first last gone =
    let inv = start_kept l counters is in
    renews_so (run (start l counters) events) t (run_kept (start l counters) events inv) (run_queued l counters events is) first
    (subst (λ (k : Layout'). t ≤ k.threads) (sym (run_layout (start l counters) events inv)) last) gone

-- ---- runs without renewals

abbrev IsNoRenewing : Event → Type 0
IsNoRenewing (Event.Renew t) = ⊥
IsNoRenewing e = Unit {0}

sleep_renews_none : (t u : ℕ) (f : Fact) (fs : List Fact) → IsOfSleep u f → IsNotRenewed t fs → IsNotRenewed t (f ∷ fs)
sleep_renews_none t u f fs of none = grind (arith)

stepped_none : (t u m : ℕ) (d : Option Decision) (z : Option Queue) (ws ms : List ℕ) (y : Option Reply) → IsNotRenewed t (facts_of (Stepped u m d z ws ms y))
stepped_none t u m d z ws ms y = of_access (IsNotRenewed t) u m d z ws ms y (λ e fs rest. rest) (λ f of fs rest. sleep_renews_none t u f fs of rest) (grind (arith))

walked_none : (t u : ℕ) (d : Option ℕ) (ws : List ℕ) (y : Bool) → IsNotRenewed t (facts_of (Walked u d ws y))
walked_none t u d ws y = of_walk (IsNotRenewed t) u d ws y (λ m fs rest. rest) (λ w fs rest. rest) (grind (arith))

-- a note of anything else
abbrev IsOfOne : Note → Type 0
IsOfOne (Renewed t) = ⊥
IsOfOne n = Unit {0}

note_none : (t : ℕ) (n : Note) → IsOfOne n → IsNotRenewed t (facts_of n)
note_none t Nothing one = tt
note_none t (Began u b None) one = tt
note_none t (Began u b (Some x)) one = tt
note_none t (Stepped u m d z ws ms y) one = stepped_none t u m d z ws ms y
note_none t (Killed u) one = tt
note_none t (Left u) one = tt
note_none t (Expired u (Mutex m)) one = tt
note_none t (Expired u (Condition k)) one = tt
note_none t (Walked u d ws y) one = walked_none t u d ws y
note_none t (Renewed u) one = absurd one
note_none t (Reinited u m) one = tt

noted_so : (s : State) (e : Event) → IsNoRenewing e → IsOfOne (happens s e).note
noted_so s e =
    by_event s (λ (x : Event) (a : After). IsNoRenewing x → IsOfOne a.note) (λ x none. tt) (λ u o pos known inside idle b full none. begins_so u o b)
    (λ u pos known none. by_stage s u (λ (a : After). IsOfOne a.note) (λ rests. tt) (λ o p is awake. tt) (λ c p is awake. tt) (λ w is awake. tt))
    (λ u pos known alive none. tt) (λ u pos known asleep none. tt) (λ u m p pos known is asleep may none. tt) (λ u k x p pos known is there none. tt) (λ u o p pos known is awake trims none. tt) (λ u pos known gone none. absurd none) (λ u m may none. tt) (λ u m g sp none. tt) e
  where
    begins_so : (u : ℕ) (o : Op) (b : Bool) → IsOfOne (begun s u o (if b then Err XHELD else Ok (begins_at s.layout u o))).note
    begins_so u o true = tt
    begins_so u o false = tt

none_renewed : (t : ℕ) (s : State) (e : Event) → IsNoRenewing e → IsNotRenewed t (facts_of (happens s e).note)
none_renewed t s e other = note_none t (happens s e).note (noted_so s e other)

not_renewed_both : (t : ℕ) (fs gs : List Fact) → IsNotRenewed t fs → IsNotRenewed t gs → IsNotRenewed t (fs ++ gs)
not_renewed_both t [] gs none rest = rest
not_renewed_both t (Renew u ∷ fs) gs none rest = (none.0, not_renewed_both t fs gs none.1 rest)
not_renewed_both t (f ∷ fs) gs none rest = not_renewed_both t fs gs none rest

noted_none : (t : ℕ) (s : State) (es : List Event) → NobodyIsRenewed es → IsNotRenewed t (facts_among (notes s es))
noted_none t s [] none = tt
noted_none t s (Event.Renew u ∷ es) none = absurd none
noted_none t s (Event.Begin u o ∷ es) none = not_renewed_both t (facts_of (happens s (Event.Begin u o)).note) _ (none_renewed t s (Event.Begin u o) tt) (noted_none t (happens s (Event.Begin u o)).state es none)
noted_none t s (Event.Step u ∷ es) none = not_renewed_both t (facts_of (happens s (Event.Step u)).note) _ (none_renewed t s (Event.Step u) tt) (noted_none t (happens s (Event.Step u)).state es none)
noted_none t s (Event.Kill u ∷ es) none = not_renewed_both t (facts_of (happens s (Event.Kill u)).note) _ (none_renewed t s (Event.Kill u) tt) (noted_none t (happens s (Event.Kill u)).state es none)
noted_none t s (Event.Leave u ∷ es) none = not_renewed_both t (facts_of (happens s (Event.Leave u)).note) _ (none_renewed t s (Event.Leave u) tt) (noted_none t (happens s (Event.Leave u)).state es none)
noted_none t s (Event.Spare u by ∷ es) none = not_renewed_both t (facts_of (happens s (Event.Spare u by)).note) _ (none_renewed t s (Event.Spare u by) tt) (noted_none t (happens s (Event.Spare u by)).state es none)
noted_none t s (Event.Expire u ∷ es) none = not_renewed_both t (facts_of (happens s (Event.Expire u)).note) _ (none_renewed t s (Event.Expire u) tt) (noted_none t (happens s (Event.Expire u)).state es none)
noted_none t s (Event.Decline u ∷ es) none = not_renewed_both t (facts_of (happens s (Event.Decline u)).note) _ (none_renewed t s (Event.Decline u) tt) (noted_none t (happens s (Event.Decline u)).state es none)
noted_none t s (Event.Remake u m ∷ es) none = not_renewed_both t (facts_of (happens s (Event.Remake u m)).note) _ (none_renewed t s (Event.Remake u m) tt) (noted_none t (happens s (Event.Remake u m)).state es none)

-- after any of the events too
behind_none : (before after : List Event) (e : Event) → IsNoRenewing e → NobodyIsRenewed (before ++ e ∷ after) → NobodyIsRenewed after
behind_none [] after (Event.Renew t) other none = absurd other
behind_none [] after (Event.Begin t o) other none = none
behind_none [] after (Event.Step t) other none = none
behind_none [] after (Event.Kill t) other none = none
behind_none [] after (Event.Leave t) other none = none
behind_none [] after (Event.Spare t by) other none = none
behind_none [] after (Event.Expire t) other none = none
behind_none [] after (Event.Decline t) other none = none
behind_none [] after (Event.Remake t m) other none = none
behind_none (Event.Renew t ∷ before) after e other none = absurd none
behind_none (Event.Begin t o ∷ before) after e other none = behind_none before after e other none
behind_none (Event.Step t ∷ before) after e other none = behind_none before after e other none
behind_none (Event.Kill t ∷ before) after e other none = behind_none before after e other none
behind_none (Event.Leave t ∷ before) after e other none = behind_none before after e other none
behind_none (Event.Spare t by ∷ before) after e other none = behind_none before after e other none
behind_none (Event.Expire t ∷ before) after e other none = behind_none before after e other none
behind_none (Event.Decline t ∷ before) after e other none = behind_none before after e other none
behind_none (Event.Remake t m ∷ before) after e other none = behind_none before after e other none

-- a thread's lines are some of all
renewed_or : (t : ℕ) (f : Fact) (fs gs : List Fact) → (IsNotRenewed t fs → IsNotRenewed t gs) → IsNotRenewed t (f ∷ fs) → IsNotRenewed t (f ∷ gs) × IsNotRenewed t gs
renewed_or t f fs gs rest none = grind (arith)

own_none : (t i : ℕ) (fs : List Fact) (ls : List Line) → IsNotRenewed t fs → IsNotRenewed t (own t ls) → IsNotRenewed t (own t (map (line_of i) fs ++ ls))
own_none t i [] ls none rest = rest
own_none t i (f ∷ fs) ls none rest = go (renewed_or t f fs (own t (map (line_of i) fs ++ ls)) (λ more. own_none t i fs ls more rest) none) (is_of_call f && (thread_of f == t))
  where
    go : IsNotRenewed t (f ∷ own t (map (line_of i) fs ++ ls)) × IsNotRenewed t (own t (map (line_of i) fs ++ ls)) → (b : Bool) → IsNotRenewed t (if b then f ∷ own t (map (line_of i) fs ++ ls) else own t (map (line_of i) fs ++ ls))
    go both true = both.0
    go both false = both.1

lines_none : (t i : ℕ) (ns : List Note) → IsNotRenewed t (facts_among ns) → IsNotRenewed t (own t (lines_from i ns))
lines_none t i [] none = tt
lines_none t i (n ∷ ns) none = let apart = not_renewed_apart t (facts_of n) (facts_among ns) none in own_none t i (facts_of n) (lines_from (i + 1) ns) apart.0 (lines_none t (i + 1) ns apart.1)

-- lives without a renewal are one
one_life : (t : ℕ) (fs : List Fact) → Lives t fs → IsNotRenewed t fs → Life t fs
one_life t fs (Last life l) none = l
one_life t fs (Earlier life later l e more) none = absurd ((not_renewed_apart t life (Renew t ∷ later) none).1.0 refl)

pub lives_are_one : LivesAreOne
lives_are_one l counters events is none = record {
  lives = λ t. one_life t _ ((explained l counters events is).lives t) (lines_none t 1 (notes s0 events) (noted_none t s0 events none));
  deaths = λ before later t split there alive.
      reports_deaths s0 events (start_kept l counters is) before later [] t (split ∙ ap (λ (es : List Event). before ++ Event.Kill t ∷ es) (sym (append-nil later))) there alive
      (noted_none t (killed (run s0 before) t).state later (behind_none before later (Event.Kill t) tt (subst NobodyIsRenewed split none)));
}
  where
    s0 : State
    s0 = start l counters
