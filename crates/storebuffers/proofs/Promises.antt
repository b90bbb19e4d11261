-- The machine's promises, of memory as it stands while stores wait.
use Rattle.std.proofs.Common.{◌≡◌, inl, inr, ⊎_elim, ℕ, Bool, true, ◌&&◌, List, [], ◌∷◌, ◌++◌, refl, sym, ap, ◌∙◌, subst}
use Rattle.std.specs.Prelude.{if◌then◌else◌, replicate}
use mathlib.Core.Path.{fun_ext}
use Rattle.posixmutex.specs.declared.object.Object.{Object}
use Rattle.posixmutex.specs.Histories.{Legal, opening, held_by}
use Rattle.posixmutex.specs.Objects.{Does}
use Rattle.memorymap.specs.Layouts.{Layout', IsLayout}
use Rattle.facts.specs.declared.fact.Fact.TheVariants.{Return}
use Rattle.condvar.specs.declared.op.Op.{Op}
use Rattle.condvar.specs.Ops.{acts_as, mutex_of, condition_of}
use Rattle.protocol.specs.declared.event.Event.{Event}
use Rattle.protocol.specs.declared.event.Event.TheVariants.{Begin, Step, Kill}
use Rattle.protocol.specs.declared.note.Note.{Note}
use Rattle.protocol.specs.declared.note.Note.TheVariants.{Nothing}
use Rattle.protocol.specs.Machine.{State, start, happens, nothing, killed, run, notes, has_thread, is_alive, is_asleep, sleepers, stands_in, may_begin}
use Rattle.protocol.specs.Headline.{seen, facts_among, points_among, IsHistory, NoReapedOwns}
use Rattle.protocol.specs.Explained.{IsExplained}
use Rattle.protocol.specs.PassedBy.{IsPassedBy}
use Rattle.protocol.specs.Applies.{Applies, IsNotedAs, NextApplies}
use Rattle.protocol.specs.Deaths as deaths
use Rattle.protocol.specs.Sleepers as sleeps
use Rattle.protocol.proofs.Runs.{legal}
use Rattle.protocol.proofs.Lives.{explained}
use Rattle.protocol.proofs.Reaped.{nobody_reaped_owns}
use Rattle.protocol.proofs.Undivided.{nobody_stranded, all_rest, all_reply}
use Rattle.protocol.proofs.Deaths.{told_deaths}
use Rattle.protocol.proofs.Emptied.{nobody_passed}
use Rattle.protocol.proofs.Applying.{applied}
use Rattle.storebuffers.specs.Buffers.{Store, Buffered, start_buffered, with_words, seen_by, Happening, next, run_buffered, noted, without_drains}
use Rattle.storebuffers.specs.Buffers.Happening.{Happens}
use Rattle.storebuffers.specs.Runs.{settled, SomebodyOwes, EndsAlone, AreUndivided, ReportsDeath, ReportsDeaths, PromisesHold, PromisesHoldWithBuffers}
use Rattle.storebuffers.proofs.Holding.{Holds, Ran, buffered, happens_so, runs_so, settled_is, seen_is, begins}

-- a run with buffers led to memory m and told ns, one of these events from state s on to the same mutexes, threads and queues, and told the same
record Behind (m : State) (ns : List Note) (s : State) (events : List Event) : Type 0 where
  words : ℕ → ℕ
  memory : m ≡ with_words (run s events) words
  cells : seen (with_words (run s events) words) ≡ seen (run s events)
  told : ns ≡ notes s events

-- its mutexes
mutexes_behind : (m : State) (ns : List Note) (s : State) (events : List Event) → Behind m ns s events → seen m ≡ seen (run s events)
mutexes_behind m ns s events behind = ap seen behind.memory ∙ behind.cells

module _ (w : ℕ → ℕ) (waits : ℕ → List Store) (s : State) (h : Holds w waits s) where
  abbrev b : Buffered
  b = buffered w waits s

  mutexes : seen b.memory ≡ seen s
  mutexes = fun_ext (seen_is w waits s h)

  behind : (hs : List Happening) (events : List Event) → without_drains hs ≡ events → Behind (run_buffered b hs).memory (noted b hs) s events
  behind hs events are =
      let ran = runs_so hs w waits s h in
      subst (λ (es : List Event). Behind (run_buffered b hs).memory (noted b hs) s es) are (record {
        words = ran.words;
        memory = ap (λ (c : Buffered). c.memory) ran.to;
        cells = fun_ext (seen_is ran.words ran.buffers (run s (without_drains hs)) ran.holds);
        told = ran.told;
      })

  -- ---- who gets on

  owes_still : sleeps.SomebodyOwes s → SomebodyOwes b
  owes_still owed m u inside unowned asleep =
      let (t, awake, (k, most, pays)) = owed m u inside (sym (ap (λ (f : ℕ → Object). (f m).owner) mutexes) ∙ unowned) asleep in (
        t,
        awake,
        (
          k,
          most,
          λ hs are. ⊎_elim
              (λ own. inl (ap (λ (f : ℕ → Object). (f m).owner) (mutexes_behind _ _ s _ (behind hs (replicate k (Step t)) are)) ∙ own))
              (λ (v, slept, woken). inr (v, slept, ap (λ (z : State). stands_in v (sleepers z m)) (behind hs (replicate k (Step t)) are).memory ∙ woken))
              pays,
        ),
      )

  ends_still : (t : ℕ) → sleeps.EndsAlone s t → EndsAlone b t
  ends_still t ends awake =
      let (n, most, rests) = ends awake in
      (n, most, λ hs are. subst (λ (z : State). sleeps.IsAtRest z t) (sym (behind hs (replicate n (Step t)) are).memory) rests)

  undivided_still : (t : ℕ) → ((c : Op) (n : ℕ) → may_begin s t c ≡ true → sleeps.IsUndivided s t c n) → AreUndivided b t
  undivided_still t undivided c n hs may are = record {
    ends = λ most. ⊎_elim
        (λ (x, returned). inl (x, subst (λ (ns : List Note). sleeps.IsAmong (Return t x) (facts_among ns)) (sym at.told) returned))
        (λ asleep. inr (ap (λ (z : State). is_asleep z t) at.memory ∙ asleep))
        (one.ends most);
    returns = λ x returned.
        let replies = one.returns x (subst (λ (ns : List Note). sleeps.IsAmong (Return t x) (facts_among ns)) at.told returned) in
        (replies.0, subst (λ (z : (ℕ → Object) × (ℕ → Object)). Does (held_by t z.0 s.layout.mutexes) (z.0 (mutex_of s.layout c)) t (acts_as c) x (z.1 (mutex_of s.layout c))) (λ i. (sym mutexes i, sym (mutexes_behind _ _ s _ at) i)) replies.1);
    sleeps = λ asleep. ⊎_elim
        (λ kept. inl (subst (λ (f : ℕ → Object). sleeps.IsKeptWaiting (f (mutex_of s.layout c)) t (acts_as c)) (sym mutexes) kept))
        (λ waits.
        let there : sleeps.IsWaiting (seen s (mutex_of s.layout c)) t (acts_as c) (condition_of c) (with_words (run s (Begin t c ∷ replicate n (Step t))) at.words) = record { waits = waits.waits; owns = waits.owns; there = waits.there } in
        inr (subst (λ (z : (ℕ → Object) × State). sleeps.IsWaiting (z.0 (mutex_of s.layout c)) t (acts_as c) (condition_of c) z.1) (λ i. (sym mutexes i, sym at.memory i)) there))
        (one.sleeps (sym (ap (λ (z : State). is_asleep z t) at.memory) ∙ asleep));
  }
    where
      at : Behind (run_buffered b hs).memory (noted b hs) s (Begin t c ∷ replicate n (Step t))
      at = behind hs (Begin t c ∷ replicate n (Step t)) are

      one : sleeps.IsUndivided s t c n
      one = undivided c n may

-- ---- deaths

-- thread t, alive, is killed, and then this happens
module _ (w : ℕ → ℕ) (waits : ℕ → List Store) (s : State) (h : Holds w waits s) (t : ℕ) (there : has_thread s t ≡ true) (alive : is_alive (s.threads t).stage ≡ true) (hs : List Happening) where
  abbrev c : Buffered
  c = next (buffered w waits s) (Happens (Kill t))

  dies : (happens s (Kill t)).state ≡ (killed s t).state
  dies = ap (λ (z : Bool × Bool). (if z.0 && z.1 then killed s t else nothing s).state) (λ i. (there i, alive i))

  dead : Behind (run_buffered c hs).memory (noted c hs) (killed s t).state (without_drains hs)
  dead =
      let one = happens_so w waits s (Kill t) h in
      subst (λ (z : State). Behind (run_buffered c hs).memory (noted c hs) z (without_drains hs)) dies
      (subst (λ (d : Buffered). Behind (run_buffered d hs).memory (noted d hs) (happens s (Kill t)).state (without_drains hs)) (sym one.to)
      (behind one.words one.buffers (happens s (Kill t)).state one.holds hs (without_drains hs) refl))

  report_still : (deaths.IsNotRenewed t (facts_among (notes (killed s t).state (without_drains hs))) → deaths.ReportsDeath s t (without_drains hs))
      → deaths.IsNotRenewed t (facts_among (noted c hs)) → ReportsDeath (buffered w waits s) t hs
  report_still reports unrenewed = record {
    owned = λ m inside own. ⊎_elim
        (λ (once, gone). inl (times m ∙ once, λ e. gone (sym (owner m) ∙ e)))
        (λ (never, still). inr (times m ∙ never, owner m ∙ still))
        (one.owned m inside (sym (before m) ∙ own));
    others = λ m inside none. times m ∙ one.others m inside (λ e. none (before m ∙ e));
    reaped = λ m inside own gone. times m ∙ one.reaped m inside (sym (before m) ∙ own) (sym (ap (λ (z : State). (z.threads t).stage) dead.memory) ∙ gone);
  }
    where
      one : deaths.ReportsDeath s t (without_drains hs)
      one = reports (subst (λ (ns : List Note). deaths.IsNotRenewed t (facts_among ns)) dead.told unrenewed)

      times : (m : ℕ) → deaths.deaths t m (facts_among (noted c hs)) ≡ deaths.deaths t m (facts_among (notes (killed s t).state (without_drains hs)))
      times m = ap (λ (ns : List Note). deaths.deaths t m (facts_among ns)) dead.told

      owner : (m : ℕ) → (seen (run_buffered c hs).memory m).owner ≡ (seen (run (killed s t).state (without_drains hs)) m).owner
      owner m = ap (λ (f : ℕ → Object). (f m).owner) (mutexes_behind _ _ (killed s t).state _ dead)

      before : (m : ℕ) → (seen (with_words s w) m).owner ≡ (seen s m).owner
      before m = ap (λ (o : Object). o.owner) (seen_is w waits s h m)

-- ---- all of them

module _ (l : Layout') (counters : ℕ → ℕ) (is : IsLayout l) (hs : List Happening) where
  abbrev events : List Event
  events = without_drains hs

  abbrev last : State
  last = run (start l counters) events

  abbrev ns : List Note
  ns = notes (start l counters) events

  ran : Ran (start l counters).words (λ t. []) (start l counters) hs
  ran = runs_so hs (start l counters).words (λ t. []) (start l counters) (begins l counters is)

  abbrev there : Buffered
  there = buffered ran.words ran.buffers last

  -- what holds of the machine's state and another memory holds of the run
  carry : (P : Buffered → List Note → Type 0) → P there ns → P (run_buffered (start_buffered l counters) hs) (noted (start_buffered l counters) hs)
  carry P it = subst (λ (z : Buffered × List Note). P z.0 z.1) (λ i. (sym ran.to i, sym ran.told i)) it

  same : seen there.memory ≡ seen last
  same = mutexes ran.words ran.buffers last ran.holds

  reports : ReportsDeaths (start_buffered l counters) hs
  reports before after rest t split =
      let first = runs_so before (start l counters).words (λ u. []) (start l counters) (begins l counters is) in
      subst (λ (d : Buffered). has_thread d.memory t ≡ true → is_alive (d.memory.threads t).stage ≡ true → deaths.IsNotRenewed t (facts_among (noted (next d (Happens (Kill t))) after)) → ReportsDeath d t after)
      (sym first.to)
      (λ known alive. report_still first.words first.buffers (run (start l counters) (without_drains before)) first.holds t known alive after
      (told_deaths l counters (without_drains before ++ Kill t ∷ (without_drains after ++ [])) is (without_drains before) (without_drains after) [] t refl known alive))

  next_applies : NextApplies l last ns
  next_applies = applied l counters events is

  settled_state : settled there ≡ last
  settled_state = settled_is ran.words ran.buffers last ran.holds

  note_is : (e : Event) → (seen_by there e).note ≡ (happens last e).note
  note_is e = (happens_so ran.words ran.buffers last e ran.holds).note

  -- where event e doesn't apply
  idles : (e : Event) → ¬ Applies l last ns e → ((seen_by there e).note ≡ Nothing) × (next there (Happens e) ≡ there)
  idles e off =
      let one = happens_so ran.words ran.buffers last e ran.holds in
      let none = next_applies.else_nothing e off in
      let same_buffers = one.still none.0 in
      (one.note ∙ none.0, one.to ∙ (λ i. buffered (same_buffers.0 i) (same_buffers.1 i) (none.1 i)))

  pub all_hold : PromisesHold l counters hs
  all_hold = record {
    history = carry (λ c told. IsHistory c.memory told) (subst (λ (f : ℕ → Object). Legal last.layout.mutexes opening (points_among ns) f) (sym same) (legal l counters events is));
    explained = carry (λ c told. IsExplained events told) (explained l counters events is);
    reaped = carry (λ c told. NoReapedOwns c.memory) (λ m t gone own. nobody_reaped_owns l counters events is m t gone (sym (ap (λ (f : ℕ → Object). (f m).owner) same) ∙ own));
    owed = carry (λ c told. SomebodyOwes c) (owes_still ran.words ran.buffers last ran.holds (nobody_stranded l counters events is));
    ends = λ t. carry (λ c told. EndsAlone c t) (ends_still ran.words ran.buffers last ran.holds t (all_rest l counters events is t));
    undivided = λ t. carry (λ c told. AreUndivided c t) (undivided_still ran.words ran.buffers last ran.holds t (all_reply l counters events is t));
    deaths = reports;
    passed = λ presets t k. carry (λ c told. ¬ IsPassedBy t k told) ((nobody_passed l counters events is presets).counted t k);
    applies = λ e. carry (λ c told. Applies l (settled c) told e → IsNotedAs l (settled c) e (seen_by c e).note)
        (subst (λ (z : State). Applies l z ns e → IsNotedAs l z e (seen_by there e).note) (sym settled_state)
        (λ on. subst (IsNotedAs l last e) (sym (note_is e)) (next_applies.happens_so e on)));
    else_nothing = λ e. carry (λ c told. ¬ Applies l (settled c) told e → ((seen_by c e).note ≡ Nothing) × (next c (Happens e) ≡ c))
        (subst (λ (z : State). ¬ Applies l z ns e → ((seen_by there e).note ≡ Nothing) × (next there (Happens e) ≡ there)) (sym settled_state) (idles e));
  }

pub promises_hold : PromisesHoldWithBuffers
promises_hold l counters hs is = all_hold l counters is hs
