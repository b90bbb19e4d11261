-- What a certificate of a history is.
--
-- *Certificate.* Steps, each of which is a line of a trace or tells that a thread is doomed. Without the latter they are
-- a trace, numbered from 1, which shows the history legal (`Certifies`): its lines that are seen, and the dooms, are the
-- history's, in their order.
use Rattle.std.specs.Prelude.{ℕ, ◌≡◌, ◌==◌, ◌+◌, ◌⊎◌, Bool, true, false, not, ◌||◌, Option, Some, List, [], ◌∷◌}
use Rattle.std.specs.Prelude.{length, map, reverse, slice_set, if◌then◌else◌}
use Rattle.facts.specs.declared.fact.Fact.{Fact}
use Rattle.facts.specs.declared.fact.Fact.TheVariants.{Kill}
use Rattle.facts.specs.declared.fact.Line.{Line}
use Rattle.facts.specs.Facts.{thread_of, is_point}
use Rattle.histories.specs.declared.entry.Entry.{Entry}
use Rattle.histories.specs.declared.entry.Entry.TheVariants.{Told, Doom}
use Rattle.histories.specs.declared.entry.HistoryLine.{HistoryLine}
use Rattle.histories.specs.Histories.{Certifies, is_hidden}
use Rattle.certificates.specs.declared.state.State.{State}
use Rattle.certificates.specs.States.{Accepts, IsDoomed, Moves, doom_at}

abbrev pub entries : List HistoryLine → List Entry
entries ls = map (λ l. l.entry) ls

-- the trace that steps are; both the newest first
abbrev pub trace_of : List Entry → List Line
trace_of [] = []
trace_of (Told f ∷ es) = (record { event = length (trace_of es) + 1; fact = f }) ∷ trace_of es
trace_of (Doom t ∷ es) = trace_of es

-- thread t was doomed, and hasn't been killed since; steps stand newest first
abbrev pub is_doomed : ℕ → List Entry → Bool
is_doomed t [] = false
is_doomed t (Doom u ∷ es) = if u == t then true else is_doomed t es
is_doomed t (Told (Kill u) ∷ es) = if u == t then false else is_doomed t es
is_doomed t (Told f ∷ es) = is_doomed t es

abbrev pub whose : Entry → ℕ
whose (Told f) = thread_of f
whose (Doom t) = t

-- a step is seen, whose thread is doomed or isn't: of a doomed one nothing is, not its kill either
abbrev pub is_seen : Entry → Bool → Bool
is_seen (Told f) doomed = not (is_hidden f || doomed)
is_seen (Doom t) doomed = true

-- what is seen of steps; both the newest first
abbrev pub seen_of : List Entry → List Entry
seen_of [] = []
seen_of (e ∷ es) = if is_seen e (is_doomed (whose e) es) then e ∷ seen_of es else seen_of es

-- these steps are a certificate of that history of n mutexes; both in their order
pub record IsCertificate (n : ℕ) (history : List HistoryLine) (steps : List Entry) : Type 0 where
  pub doomed : ℕ → Bool
  pub certifies : Certifies n doomed (trace_of (reverse steps)) (reverse (entries history))
  pub seen : seen_of (reverse steps) ≡ reverse (entries history)

-- it is a call's point
abbrev pub is_point_step : Entry → Bool
is_point_step (Told f) = is_point f
is_point_step (Doom t) = false

-- ---- one step

-- a fact is taken that nobody sees; or the history's next entry, of a thread that isn't doomed; or the kill of a doomed
-- thread, which is doomed no longer
abbrev pub TakesFact : State → Option Entry → Fact → Bool → State → Type 0
TakesFact s next f tells k =
    ((is_hidden f ≡ true) × (tells ≡ false) × Moves s f s.doomed.items k)
    ⊎ (((is_hidden f ≡ false) × (doom_at s.doomed.items (thread_of f) ≡ false) × (tells ≡ true) × (next ≡ Some (Told f))
    × Moves s f s.doomed.items k)
    ⊎ ((f ≡ Kill (thread_of f)) × (doom_at s.doomed.items (thread_of f) ≡ true) × (tells ≡ false)
    × Moves s f (slice_set s.doomed.items (thread_of f) false) k))

-- a step is taken, which tells the history's next entry or doesn't
abbrev pub Takes : State → Option Entry → Entry → Bool → State → Type 0
Takes s next (Told f) tells k = Accepts s f × TakesFact s next f tells k
Takes s next (Doom t) tells k = (tells ≡ true) × (next ≡ Some (Doom t)) × IsDoomed s t k
