-- How many mutexes each thread owns, after one more line.
use Rattle.std.proofs.Common.{◌≡◌, ◌≢◌, ℕ, ◌+◌, ◌<◌, ◌==◌, Bool, true, false, List, ◌∷◌, refl, sym, ap, subst, ◌∙◌, arith}
use Rattle.std.specs.Prelude.{if◌then◌else◌, Some, None}
use Rattle.std.proofs.lemmas.Bool.Decides.{nat_tests}
use Rattle.lockword.specs.declared.reply.Reply.{Reply}
use Rattle.lockword.specs.declared.reply.Reply.TheVariants.{OK}
use Rattle.posixmutex.specs.declared.object.Object.{Object}
use Rattle.posixmutex.specs.declared.point.Decision.{Decision}
use Rattle.posixmutex.specs.declared.point.Operation.TheVariants.{Death}
use Rattle.posixmutex.specs.Histories.{held_by}
use Rattle.facts.specs.declared.fact.Begun.{Begun}
use Rattle.facts.specs.declared.fact.Fact.{Fact}
use Rattle.facts.specs.declared.fact.Fact.TheVariants as fact
use Rattle.facts.specs.declared.fact.Line.{Line}
use Rattle.facts.specs.Lives.{IsWait}
use Rattle.facts.specs.Facts.{decision_of, thread_of}
use Rattle.verdict.specs.declared.stage.Made.TheVariants as made
use Rattle.verdict.specs.declared.stage.Stage.{Stage}
use Rattle.verdict.specs.declared.stage.Stage.TheVariants as stage
use Rattle.verdict.specs.Earlier.{moved, objects_after, points_in, told_of}
use Rattle.verdict.specs.Fits.{OwnsNothing}
use Rattle.verdict.specs.Judges.{IsMutex}
use Rattle.verdict.specs.Stages.{May, next}
use Rattle.verdict.specs.Verdicts.{AllFit}
use Rattle.verdict.proofs.Owners.{held_none}
use Rattle.verdict.proofs.Stages.{Kept, Of}
use Rattle.histories.specs.declared.entry.Entry.TheVariants.{Told, Doom}
use Rattle.histories.specs.Histories.{is_hidden}
use Rattle.refuting.specs.declared.turn.Turn.{Turn}
use Rattle.refuting.specs.declared.turn.Turn.TheVariants.{Resting, Calling, Dying, Reaped}
use Rattle.refuting.specs.Counts.{Counted, WithinLimit, count_after, lost_by, won_by}
use Rattle.refuting.specs.Following.{stage_after}
use Rattle.refuting.specs.Turns.{Turned}
use Rattle.refuting.proofs.Counting.{limit_alike, others_count, own_count, point_counted, told_alike}
use Rattle.refuting.proofs.Hiding.{calling_of, dying_of}
use Rattle.refuting.proofs.Staging.{stage_kept, stage_may}
use Rattle.refuting.proofs.Telling.{in_call}

-- each thread owns this many, its lines say this many
abbrev pub Tally : ℕ → List Line → (ℕ → ℕ) → Type 0
Tally n es lines = (t : ℕ) → Counted (stage_after t es) (held_by t (objects_after es) n) (lines t)

lift_counted : (n : ℕ) (e : Line) (es : List Line) (old new : ℕ → ℕ) → ((u : ℕ) → u ≢ thread_of e.fact → (held_by u (objects_after (e ∷ es)) n ≡ held_by u (objects_after es) n) × (new u ≡ old u)) → Tally n es old
    → Counted (next (stage_after (thread_of e.fact) es) e.fact) (held_by (thread_of e.fact) (objects_after (e ∷ es)) n) (new (thread_of e.fact)) → Tally n (e ∷ es) new
lift_counted n e es old new same tally own u = by_cases (thread_of e.fact == u) refl where
  by_cases : (b : Bool) → (thread_of e.fact == u) ≡ b → Counted (if b then next (stage_after u es) e.fact else stage_after u es) (held_by u (objects_after (e ∷ es)) n) (new u)
  by_cases true is =
      let eq : thread_of e.fact ≡ u = grind (arith, nat_tests) in
      subst (λ v. Counted (next (stage_after v es) e.fact) (held_by v (objects_after (e ∷ es)) n) (new v)) eq own
  by_cases false is =
      let other : u ≢ thread_of e.fact = grind (arith, nat_tests) in
      subst (λ k. Counted (stage_after u es) k (new u)) (sym (same u other).0) (subst (Counted (stage_after u es) (held_by u (objects_after es) n)) (sym (same u other).1) (tally u))

-- ---- lines that nobody sees

hidden_counted : (n i : ℕ) (f : Fact) (es : List Line) (lines : ℕ → ℕ) → is_hidden f ≡ true → AllFit n (record { event = i; fact = f } ∷ es) → IsMutex n f → Tally n es lines → Tally n (record { event = i; fact = f } ∷ es) lines
hidden_counted n i (fact.Point p) es lines hid fit inside tally =
    let t = p.thread in
    let may = stage_may n (record { event = i; fact = fact.Point p }) es fit in
    let c = calling_of (stage_after t es) p may in
    let does = fit.0.allowed.1 in
    let kept = subst (λ q. Kept q (told_of t es)) c.is (stage_kept n es fit.1 t) in
    let waits : c.made ≡ made.Released → IsWait c.call.operation = λ is. (subst (Of c.call.operation (points_in (told_of t es))) is kept.4).0 in
    let before : Counted (stage.Calling c.call c.made c.asleep) (held_by t (objects_after es) n) (lines t) = subst (λ q. Counted q (held_by t (objects_after es) n) (lines t)) c.is (tally t) in
    lift_counted n (record { event = i; fact = fact.Point p }) es lines lines (λ u other. (others_count n es p fit.0.allowed.0 u other does, refl)) tally
    (subst (λ q. Counted (next q (fact.Point p)) (held_by t (moved (objects_after es) (Some p)) n) (lines t)) (sym c.is)
    (point_counted c.call c.made t p.operation p.reply (objects_after es p.mutex) fit.0.allowed.0 c.asleep (held_by t (objects_after es) n) (held_by t (moved (objects_after es) (Some p)) n) (lines t) waits c.may does (own_count n es p fit.0.allowed.0 inside does) before))
hidden_counted n i (fact.Death t m) es lines hid fit inside tally =
    let may = stage_may n (record { event = i; fact = fact.Death t m }) es fit in
    let d : Decision = record { thread = t; mutex = m; operation = Death; reply = OK } in
    lift_counted n (record { event = i; fact = fact.Death t m }) es lines lines (λ u other. (others_count n es d fit.0.allowed.0 u other fit.0.allowed.1, refl)) tally
    (subst (λ q. Counted (next q (fact.Death t m)) (held_by t (moved (objects_after es) (Some d)) n) (lines t)) (sym (dying_of (stage_after t es) t m may)) tt)
hidden_counted n i (fact.Sleep t q) es lines hid fit inside tally = lift_counted n (record { event = i; fact = fact.Sleep t q }) es lines lines (λ u other. (refl, refl)) tally (sleeps (stage_after t es) (stage_may n (record { event = i; fact = fact.Sleep t q }) es fit) (tally t)) where
  sleeps : (z : Stage) → May z (fact.Sleep t q) → Counted z (held_by t (objects_after es) n) (lines t) → Counted (next z (fact.Sleep t q)) (held_by t (objects_after es) n) (lines t)
  sleeps (stage.Calling c made a) may h = h
  sleeps z may h = absurd may
hidden_counted n i (fact.Wake t) es lines hid fit inside tally = lift_counted n (record { event = i; fact = fact.Wake t }) es lines lines (λ u other. (refl, refl)) tally (wakes (stage_after t es) (stage_may n (record { event = i; fact = fact.Wake t }) es fit) (tally t)) where
  wakes : (z : Stage) → May z (fact.Wake t) → Counted z (held_by t (objects_after es) n) (lines t) → Counted (next z (fact.Wake t)) (held_by t (objects_after es) n) (lines t)
  wakes (stage.Calling c made a) may h = h
  wakes z may h = absurd may
hidden_counted n i (fact.Move t m) es lines hid fit inside tally = lift_counted n (record { event = i; fact = fact.Move t m }) es lines lines (λ u other. (refl, refl)) tally (moves (stage_after t es) (stage_may n (record { event = i; fact = fact.Move t m }) es fit) (tally t)) where
  moves : (z : Stage) → May z (fact.Move t m) → Counted z (held_by t (objects_after es) n) (lines t) → Counted (next z (fact.Move t m)) (held_by t (objects_after es) n) (lines t)
  moves (stage.Calling c made a) may h = h
  moves z may h = absurd may
hidden_counted n i f es lines hid fit inside tally = absurd cc

pub hidden_tally : (n : ℕ) (e : Line) (es : List Line) (lines : ℕ → ℕ) → is_hidden e.fact ≡ true → AllFit n (e ∷ es) → IsMutex n e.fact → Tally n es lines → Tally n (e ∷ es) lines
hidden_tally n e es lines hid fit inside tally = hidden_counted n e.event e.fact es lines hid fit inside tally

-- the kill of a thread
pub killed_tally : (n i u : ℕ) (es : List Line) (lines : ℕ → ℕ) → Tally n es lines → Tally n (record { event = i; fact = fact.Kill u } ∷ es) lines
killed_tally n i u es lines tally = lift_counted n (record { event = i; fact = fact.Kill u }) es lines lines (λ v other. (refl, refl)) tally tt

-- ---- lines that are seen

begin_count : (turn : Turn) (t : ℕ) (c : Begun) (own : ℕ) → count_after turn (Told (fact.Begin t c)) own ≡ own
begin_count Resting t c own = refl
begin_count (Calling k x) t c own = refl
begin_count (Dying k) t c own = refl
begin_count Reaped t c own = refl

renew_count : (turn : Turn) (t own : ℕ) → count_after turn (Told (fact.Renew t)) own ≡ own
renew_count Resting t own = refl
renew_count (Calling k x) t own = refl
renew_count (Dying k) t own = refl
renew_count Reaped t own = refl

reap_count : (turn : Turn) (t own : ℕ) → count_after turn (Told (fact.Reap t)) own ≡ 0
reap_count Resting t own = refl
reap_count (Calling k x) t own = refl
reap_count (Dying k) t own = refl
reap_count Reaped t own = refl

pub doom_count : (turn : Turn) (t own : ℕ) → count_after turn (Doom t) own ≡ own
doom_count Resting t own = refl
doom_count (Calling k x) t own = refl
doom_count (Dying k) t own = refl
doom_count Reaped t own = refl

-- where the line leaves its own thread
told_counted : (n : ℕ) (es : List Line) (f : Fact) (turn : Turn) (s : Stage) (count own : ℕ) → is_hidden f ≡ false → Turned turn s false → May s f → Counted s count own → ((t : ℕ) → f ≡ fact.Reap t → count ≡ 0) → Counted (next s f) count (count_after turn (Told f) own)
told_counted n es (fact.Begin t c) turn stage.Resting count own seen turned may h none =
    let same : count_after turn (Told (fact.Begin t c)) own ≡ own = begin_count turn t c own in
    (omega (arith, h, same), tt)
told_counted n es (fact.Begin t c) turn s count own seen turned may h none = absurd may
told_counted n es (fact.Return t y) turn (stage.Calling b (made.Decided w) a) count own seen turned may h none =
    let calls = in_call b turn turned in
    let alike = told_alike b.operation w y may.1 in
    let sum : count + lost_by b.operation w ≡ own + won_by b.operation w = h.0 in
    subst (λ q. count ≡ count_after q (Told (fact.Return t y)) own) (sym calls.is) (omega (arith, sum, alike.0, alike.1))
told_counted n es (fact.Return t y) turn (stage.Calling b its a) count own seen turned may h none = absurd may.1
told_counted n es (fact.Return t y) turn s count own seen turned may h none = absurd may
told_counted n es (fact.Kill t) turn s count own seen turned may h none = tt
told_counted n es (fact.Reap t) turn s count own seen turned may h none = (none t refl, reap_count turn t own)
told_counted n es (fact.Renew t) turn stage.Reaped count own seen turned may h none = h.0 ∙ sym (renew_count turn t own ∙ h.1)
told_counted n es (fact.Renew t) turn s count own seen turned may h none = absurd may
told_counted n es f turn s count own seen turned may h none = absurd cc

seen_silent : (f : Fact) → is_hidden f ≡ false → decision_of f ≡ None
seen_silent (fact.Point p) seen = absurd cc
seen_silent (fact.Death t m) seen = absurd cc
seen_silent f seen = refl

pub told_tally : (n : ℕ) (e : Line) (es : List Line) (turn : Turn) (lines new : ℕ → ℕ) → is_hidden e.fact ≡ false → AllFit n (e ∷ es) → Turned turn (stage_after (thread_of e.fact) es) false → Tally n es lines
    → new (thread_of e.fact) ≡ count_after turn (Told e.fact) (lines (thread_of e.fact)) → ((u : ℕ) → u ≢ thread_of e.fact → new u ≡ lines u) → Tally n (e ∷ es) new
told_tally n e es turn lines new seen fit turned tally here there =
    let t = thread_of e.fact in
    let still : (u : ℕ) → held_by u (objects_after (e ∷ es)) n ≡ held_by u (objects_after es) n = λ u. ap (λ o. held_by u (moved (objects_after es) o) n) (seen_silent e.fact seen) in
    lift_counted n e es lines new (λ u other. (still u, there u other)) tally
    (subst (λ c. Counted (next (stage_after t es) e.fact) c (new t)) (sym (still t))
    (subst (Counted (next (stage_after t es) e.fact) (held_by t (objects_after es) n)) (sym here)
    (told_counted n es e.fact turn (stage_after t es) (held_by t (objects_after es) n) (lines t) seen turned (stage_may n e es fit) (tally t)
    (λ v is. held_none t (objects_after es) n (nothing e.fact (objects_after es) v is fit.0.reaped)))))
  where
    nothing : (f : Fact) (os : ℕ → Object) (v : ℕ) → f ≡ fact.Reap v → OwnsNothing n os f → (m : ℕ) → m < n → (os m).owner ≢ Some (thread_of f)
    nothing (fact.Reap w) os v is none = none
    nothing f os v is none = absurd cc

-- ---- the limit

any_limit : (turn : Turn) (f : Fact) (own : ℕ) → ((t : ℕ) (y : Reply) → f ≡ fact.Return t y → ⊥) → WithinLimit turn (Told f) own
any_limit (Calling c x) (fact.Return t y) own never = absurd (never t y refl)
any_limit (Calling c x) f own never = tt
any_limit turn f own never = tt

pub within : (f : Fact) (turn : Turn) (s : Stage) (count own : ℕ) → Turned turn s false → May s f → Counted s count own → WithinLimit turn (Told f) own
within (fact.Return t y) turn (stage.Calling b (made.Decided w) a) count own turned may h =
    let calls = in_call b turn turned in
    subst (λ q. WithinLimit q (Told (fact.Return t y)) own) (sym calls.is) (limit_alike b.operation w y own may.1 h.1)
within (fact.Return t y) turn (stage.Calling b its a) count own turned may h = absurd may.1
within (fact.Return t y) turn s count own turned may h = absurd may
within f turn s count own turned may h = any_limit turn f own (λ t y is. absurd cc)
