-- What is said of a script that is explored.
--
-- *Told.* The script is read, each thread that may be killed and each pattern has its names from it, and its plan is
-- explored: each outcome that was found is that of a run, and if the search was complete, then no run has another one.
-- Each outcome's script is played before anything is said, unless it is too long for that. Then the text has all
-- outcomes in their order, and whether each demand is met. The exit status is 1 if one is broken; else 3 if the search
-- wasn't complete; else 0.
use Rattle.std.specs.Prelude.{ℕ, ◌≡◌, ◌≤◌, ◌-◌, ◌⊎◌, Bool, true, false, List, [], ◌∷◌, ◌++◌, map, length, slice_get}
use Rattle.std.specs.Prelude.{Option, Some, None, option_map, is_some, Result, Ok, Err, Vec, if◌then◌else◌}
use Rattle.std.specs.declared.alloc.Global.{Global}
use Rattle.std.specs.List.{flat_map}
use Rattle.lines.specs.Lines.{words_of}
use Rattle.outcomes.specs.Outcomes.{AreDifferent, AreWitnessed, HasAll}
use Rattle.outcomes.specs.declared.exploring.Found.{Found}
use Rattle.outcomes.specs.declared.exploring.Witnessed.{Witnessed}
use Rattle.outcomes.specs.declared.plan.Plan.{Plan}
use Rattle.script.specs.Scope.{Scope}
use Rattle.script.specs.declared.fault.Fault.TheVariants as fault
use Rattle.explore_report.specs.declared.exploring.Question.{Question}
use Rattle.explore_report.specs.declared.exploring.Told.{Told}
use Rattle.explore_report.specs.declared.exploring.Untold.{Untold}
use Rattle.explore_report.specs.declared.exploring.Untold.TheVariants.{OutOfMemory, Ill, NoThread, NoPattern, NoOutcome, TooLong, Unplayed}
use Rattle.explore_report.specs.declared.judging.Demand.{Demand}
use Rattle.explore_report.specs.declared.patterns.Pattern.{Pattern}
use Rattle.explore_report.specs.Asked.{Choices, Kept, states_of}
use Rattle.explore_report.specs.Patterns.{pattern_words, place_of}
use Rattle.explore_report.specs.Plans.{IsPlanOf, Said, said_by, said_read}
use Rattle.explore_report.specs.Replays.{IsTooLong, Replays}
use Rattle.explore_report.specs.Texts.{Demanded, are_met, demand_text, demanded, found_text, in_order}
use Rattle.explore_report.specs.Witnesses.{script_text}

-- ---- what is asked

-- the first of the names that no thread has
abbrev pub first_unknown : Scope → List (List ℕ) → Option (List ℕ)
first_unknown s [] = None
first_unknown s (n ∷ ns) = if is_some (place_of s.threads n) then first_unknown s ns else Some n

-- these demands and then those; or the words of the first that is no pattern
abbrev pub both : Result (List Demanded) (List ℕ) → Result (List Demanded) (List ℕ) → Result (List Demanded) (List ℕ)
both (Err words) r = Err words
both (Ok ds) (Err words) = Err words
both (Ok ds) (Ok es) = Ok (ds ++ es)

-- a demand by its words
abbrev pub demand_read : List ℕ → Bool → Option Pattern → Result (List Demanded) (List ℕ)
demand_read words always None = Err words
demand_read words always (Some p) = Ok (record { words = words; pattern = p; always = always } ∷ [])

abbrev pub demands_read : Scope → Bool → List (List ℕ) → Result (List Demanded) (List ℕ)
demands_read s always [] = Ok []
demands_read s always (w ∷ ws) =
    both (demand_read w always (pattern_words s (words_of w))) (demands_read s always ws)

-- first the patterns of `--never`, and then those of `--always`
abbrev pub demands_of : Scope → Choices → Result (List Demanded) (List ℕ)
demands_of s c = both (demands_read s false c.never) (demands_read s true c.always)

-- what a script's bytes and the options ask: what the script says, what is asked of every outcome, and what is explored
pub record Question' : Type 0 where
  pub said : Said
  pub demands : List Demanded
  pub plan : Plan

-- as the code has it
abbrev pub question_in : Question → Question'
question_in q = record { said = said_by q.explored; demands = map demanded q.demands.items; plan = q.plan }

pub record IsAsked (bytes : List ℕ) (c : Choices) (q : Question') : Type 0 where
  pub read : said_read bytes ≡ Ok q.said
  pub known : first_unknown q.said.scope c.named ≡ None
  pub demands : demands_of q.said.scope c ≡ Ok q.demands
  pub plan : IsPlanOf q.said c q.plan

abbrev pub Asks : List ℕ → Choices → Question → Type 0
Asks bytes c q = IsAsked bytes c (question_in q)

-- ---- what is found

-- what exploring a plan found, where there may be this many states
pub record IsFound (plan : Plan) (limit : ℕ) (f : Found) : Type 0 where
  pub sound : AreWitnessed plan f.outcomes.items
  pub complete : f.complete ≡ true → HasAll plan f.outcomes.items
  pub once : AreDifferent f.outcomes.items
  pub few : f.states ≤ limit
  pub stopped : f.complete ≡ false → f.states ≡ limit

-- the outcomes in the order in which they are printed
abbrev pub printed : Question' → Found → List Witnessed
printed q f = in_order (length q.said.scope.threads) f.outcomes.items

-- ---- scripts of outcomes

-- the script of an outcome has it
abbrev pub IsReplayed : Scope → Witnessed → Type 0
IsReplayed s w = Replays (script_text s w.events.items) w.outcome

-- or it is too long to be played
abbrev pub IsUnplayable : Scope → Witnessed → Type 0
IsUnplayable s w = IsTooLong (script_text s w.events.items)

-- each script that isn't too long was played, and has its outcome
abbrev pub AreReplayed : Scope → List Witnessed → Type 0
AreReplayed s ws = (i : ℕ) (w : Witnessed) → slice_get ws i ≡ Some w → IsReplayed s w ⊎ IsUnplayable s w

-- the script of the outcome with this number, from 1, which was played
pub record HasScript (s : Scope) (ws : List Witnessed) (n : ℕ) (text : List ℕ) : Type 0 where
  pub witnessed : Witnessed
  pub there : slice_get ws (n - 1) ≡ Some witnessed
  pub is : text ≡ script_text s witnessed.events.items
  pub played : IsReplayed s witnessed

-- the script that is wanted, if one is
abbrev pub IsWanted : Scope → List Witnessed → Option Kept → Option (List ℕ) → Type 0
IsWanted s ws None script = script ≡ None
IsWanted s ws (Some k) None = ⊥
IsWanted s ws (Some k) (Some text) = HasScript s ws k.number text

-- ---- what is said

-- a broken demand comes before a limit
abbrev pub status_of : Bool → Bool → ℕ
status_of false complete = 1
status_of true false = 3
status_of true true = 0

-- the outcomes, and then whether each demand is met
abbrev pub told_text : Question' → List (List ℕ) → List Witnessed → Bool → ℕ → List ℕ
told_text q names ws complete states =
    found_text q.said.scope q.plan.asked names ws complete states ++ flat_map (demand_text complete ws) q.demands

-- what is said of what was found: a text, a script if one is wanted, and the exit status
pub record IsAnswer (q : Question') (c : Choices) (f : Found) (text : List ℕ) (script : Option (List ℕ)) (status : ℕ) : Type 0 where
  pub played : AreReplayed q.said.scope (printed q f)
  pub text_is : text ≡ told_text q c.named (printed q f) f.complete f.states
  pub wanted : IsWanted q.said.scope (printed q f) c.script script
  pub exit : status ≡ status_of (are_met (printed q f) q.demands) f.complete

-- what is said of a script's bytes
pub record IsTold (bytes : List ℕ) (c : Choices) (text : List ℕ) (script : Option (List ℕ)) (status : ℕ) : Type 0 where
  pub question : Question'
  pub asked : IsAsked bytes c question
  pub found : Found
  pub explored : IsFound question.plan (states_of c) found
  pub answer : IsAnswer question c found text script status

abbrev pub bytes_in : Option (Vec ℕ Global) → Option (List ℕ)
bytes_in = option_map (λ v. v.items)

abbrev pub Answers : Question' → Choices → Found → Told → Type 0
Answers q c f t = IsAnswer q c f t.text.items (bytes_in t.script) t.status

abbrev pub Tells : List ℕ → Choices → Told → Type 0
Tells bytes c t = IsTold bytes c t.text.items (bytes_in t.script) t.status

-- ---- why nothing is said

-- a pattern of the options is none; or memory was needed
abbrev pub Demands : Scope → Choices → Result (Vec Demand Global) Untold → Type 0
Demands s c (Ok ds) = demands_of s c ≡ Ok (map demanded ds.items)
Demands s c (Err OutOfMemory) = Unit {0}
Demands s c (Err (Ill e)) = ⊥
Demands s c (Err (NoThread name)) = ⊥
Demands s c (Err (NoPattern words)) = demands_of s c ≡ Err words.now
Demands s c (Err (NoOutcome n)) = ⊥
Demands s c (Err (TooLong n)) = ⊥
Demands s c (Err (Unplayed n)) = ⊥

-- these patterns are added to demands; or one of them is none, or memory was needed
abbrev pub AddsDemands : Scope → Bool → List (List ℕ) → List Demanded → List Demanded → Result (Unit {0}) Untold → Type 0
AddsDemands s always words old new (Ok u) = both (Ok old) (demands_read s always words) ≡ Ok new
AddsDemands s always words old new (Err OutOfMemory) = Unit {0}
AddsDemands s always words old new (Err (Ill e)) = ⊥
AddsDemands s always words old new (Err (NoThread name)) = ⊥
AddsDemands s always words old new (Err (NoPattern w)) = demands_read s always words ≡ Err w.now
AddsDemands s always words old new (Err (NoOutcome n)) = ⊥
AddsDemands s always words old new (Err (TooLong n)) = ⊥
AddsDemands s always words old new (Err (Unplayed n)) = ⊥

-- the bytes have this fault; or the options name what the script doesn't declare; or memory was needed
abbrev pub Unasked : List ℕ → Choices → Untold → Type 0
Unasked bytes c OutOfMemory = Unit {0}
Unasked bytes c (Ill e) = (e.fault ≡ fault.OutOfMemory) ⊎ (said_read bytes ≡ Err e)
Unasked bytes c (NoThread name) =
    (said : Said) × (said_read bytes ≡ Ok said) × (first_unknown said.scope c.named ≡ Some name.now)
Unasked bytes c (NoPattern words) =
    (said : Said) × (said_read bytes ≡ Ok said) × (demands_of said.scope c ≡ Err words.now)
Unasked bytes c (NoOutcome n) = ⊥
Unasked bytes c (TooLong n) = ⊥
Unasked bytes c (Unplayed n) = ⊥

-- the script of the outcome with this number was played, and doesn't have the outcome
pub record HasAnother (s : Scope) (ws : List Witnessed) (n : ℕ) : Type 0 where
  pub witnessed : Witnessed
  pub there : slice_get ws (n - 1) ≡ Some witnessed
  pub another : IsReplayed s witnessed → ⊥
  pub short : IsUnplayable s witnessed → ⊥

-- or it is too long to be played
pub record HasLong (s : Scope) (ws : List Witnessed) (n : ℕ) : Type 0 where
  pub witnessed : Witnessed
  pub there : slice_get ws (n - 1) ≡ Some witnessed
  pub long : IsUnplayable s witnessed

-- the script of one of the outcomes has another outcome; or memory was needed
abbrev pub IsUnplayed : Scope → List Witnessed → Untold → Type 0
IsUnplayed s ws OutOfMemory = Unit {0}
IsUnplayed s ws (Ill e) = ⊥
IsUnplayed s ws (NoThread name) = ⊥
IsUnplayed s ws (NoPattern words) = ⊥
IsUnplayed s ws (NoOutcome n) = ⊥
IsUnplayed s ws (TooLong n) = ⊥
IsUnplayed s ws (Unplayed n) = HasAnother s ws n

-- no outcome has this number; or its script can't be played, or has another outcome; or memory was needed
abbrev pub IsUnkept : Scope → List Witnessed → ℕ → Untold → Type 0
IsUnkept s ws n OutOfMemory = Unit {0}
IsUnkept s ws n (Ill e) = ⊥
IsUnkept s ws n (NoThread name) = ⊥
IsUnkept s ws n (NoPattern words) = ⊥
IsUnkept s ws n (NoOutcome m) = (m ≡ n) × (slice_get ws (n - 1) ≡ None)
IsUnkept s ws n (TooLong m) = (m ≡ n) × HasLong s ws n
IsUnkept s ws n (Unplayed m) = (m ≡ n) × HasAnother s ws n

abbrev pub IsUnwanted : Scope → List Witnessed → Option Kept → Untold → Type 0
IsUnwanted s ws None why = ⊥
IsUnwanted s ws (Some k) why = IsUnkept s ws k.number why

abbrev pub Unanswered : Question' → Choices → Found → Untold → Type 0
Unanswered q c f why = IsUnplayed q.said.scope (printed q f) why ⊎ IsUnwanted q.said.scope (printed q f) c.script why ⊎ (why ≡ OutOfMemory)

-- nothing is asked; or what was found can't be said
abbrev pub Untells : List ℕ → Choices → Untold → Type 0
Untells bytes c why = Unasked bytes c why
    ⊎ ((q : Question') × IsAsked bytes c q × ((f : Found) × IsFound q.plan (states_of c) f × Unanswered q c f why))
