-- What holds of whatever the program tells, in the words of who reads it.
use Rattle.std.specs.Prelude.{ℕ, ◌≡◌, ◌≤◌, ◌-◌, ◌⊎◌, Bool, true, false, List, [], ◌++◌, codes, length, Option, Some, Result, Ok, slice_get}
use Rattle.std.specs.declared.io.ErrorKind.{ErrorKind}
use Rattle.std.specs.Io.KnownBytes.{Appends, Consumes, IsAtEnd}
use Rattle.streams.specs.Leaves.{AppendsFront}
use Rattle.lines.specs.Lines.{words_of}
use Rattle.protocol.specs.declared.event.Event.{Event}
use Rattle.outcomes.specs.Outcomes.{IsListed, Outcome', outcome_in, outcome_of}
use Rattle.outcomes.specs.Positions.{Position, first}
use Rattle.outcomes.specs.Runs.{IsOver, IsRun}
use Rattle.outcomes.specs.declared.exploring.Found.{Found}
use Rattle.outcomes.specs.declared.exploring.Witnessed.{Witnessed}
use Rattle.outcomes.specs.declared.plan.Plan.{Plan}
use Rattle.explore_report.specs.declared.messages.Failure.{Failure}
use Rattle.explore_report.specs.declared.patterns.Pattern.{Pattern}
use Rattle.explore_report.specs.Asked.{Asked, Choices, Explores, Kept, Nothing, Overwrites, states_of}
use Rattle.explore_report.specs.Kept.{IsFilled, IsWritten}
use Rattle.explore_report.specs.Meets.{Breaks, Holds, Meets}
use Rattle.explore_report.specs.Messages.{failure_text}
use Rattle.explore_report.specs.Patterns.{pattern_words}
use Rattle.explore_report.specs.Programs.{RunEnds}
use Rattle.explore_report.specs.Replays.{IsTooLong, Replays}
use Rattle.explore_report.specs.Texts.{Demanded, head_text, row_text, widths_of}
use Rattle.explore_report.specs.Told.{IsTold, Question', printed}
use Rattle.explore_report.specs.Witnesses.{script_text}

-- ---- outcomes of runs

-- a run of the plan that is over has this outcome: its events may come one after the other from the first position on
pub record IsPossible (plan : Plan) (o : Outcome') : Type 0 where
  pub events : List Event
  pub end : Position
  pub run : IsRun plan (first plan) events end
  pub over : IsOver plan end
  pub is : outcome_of plan end ≡ o

-- ---- what is printed

-- this text is part of that one
abbrev pub IsPartOf : List ℕ → List ℕ → Type 0
IsPartOf part text = (before after : List ℕ) × (text ≡ before ++ (part ++ after))

-- an outcome has a line: this is its place, from 0, among all
pub record IsPrinted (bytes : List ℕ) (c : Choices) (text : List ℕ) (script : Option (List ℕ)) (status : ℕ)
    (t : IsTold bytes c text script status) (o : Outcome') (place : ℕ) : Type 0 where
  pub witnessed : Witnessed
  pub there : slice_get (printed t.question t.found) place ≡ Some witnessed
  pub is : outcome_in witnessed.outcome ≡ o
  pub line : IsPartOf
      (row_text t.question.said.scope (widths_of t.question.said.scope (printed t.question t.found))
      (length (printed t.question t.found)) place witnessed.outcome) text

-- the first line says whether the list has all outcomes, by its end
abbrev pub Says : List ℕ → Bool → Type 0
Says line true = (front : List ℕ) × (line ≡ front ++ codes ", complete\n")
Says line false = (front : List ℕ) × (line ≡ front ++ codes ", not complete\n")

-- each outcome that has a line is that of a run
abbrev pub PrintedOutcomesArePossible : Type 0
PrintedOutcomesArePossible = (bytes : List ℕ) (c : Choices) (text : List ℕ) (script : Option (List ℕ)) (status : ℕ)
    (t : IsTold bytes c text script status) (o : Outcome') (place : ℕ) → IsPrinted bytes c text script status t o place
    → IsPossible t.question.plan o

-- each outcome that was found has a line, whether or not the search was complete
abbrev pub FoundOutcomesArePrinted : Type 0
FoundOutcomesArePrinted = (bytes : List ℕ) (c : Choices) (text : List ℕ) (script : Option (List ℕ)) (status : ℕ)
    (t : IsTold bytes c text script status) (o : Outcome') → IsListed o t.found.outcomes.items
    → (place : ℕ) × IsPrinted bytes c text script status t o place

-- the first line ends with `, complete` exactly if the search was complete; then each run that is over has its outcome
-- in a line, and in one only
pub record NoOutcomeIsMissing : Type 0 where
  pub says : (bytes : List ℕ) (c : Choices) (text : List ℕ) (script : Option (List ℕ)) (status : ℕ)
      (t : IsTold bytes c text script status) → (more : List ℕ)
      × (text ≡ head_text t.question.said.scope t.question.plan.asked c.named (length (printed t.question t.found))
      t.found.complete ++ more)
      × Says (head_text t.question.said.scope t.question.plan.asked c.named (length (printed t.question t.found))
      t.found.complete) t.found.complete
  pub all : (bytes : List ℕ) (c : Choices) (text : List ℕ) (script : Option (List ℕ)) (status : ℕ)
      (t : IsTold bytes c text script status) (o : Outcome') → t.found.complete ≡ true → IsPossible t.question.plan o
      → (place : ℕ) × IsPrinted bytes c text script status t o place
  pub once : (bytes : List ℕ) (c : Choices) (text : List ℕ) (script : Option (List ℕ)) (status : ℕ)
      (t : IsTold bytes c text script status) (o : Outcome') (i j : ℕ) → IsPrinted bytes c text script status t o i
      → IsPrinted bytes c text script status t o j → i ≡ j

-- ---- what is asked of every outcome

-- words of `--never` or of `--always` are among these
abbrev pub AreGiven : List (List ℕ) → List ℕ → Type 0
AreGiven words w = (i : ℕ) × (slice_get words i ≡ Some w)

-- where the exit status is 0, no run that is over has what is never to be
abbrev pub NeverIsTrue : Type 0
NeverIsTrue = (bytes : List ℕ) (c : Choices) (text : List ℕ) (script : Option (List ℕ))
    (t : IsTold bytes c text script 0) (words : List ℕ) → AreGiven c.never words
    → (p : Pattern) × (pattern_words t.question.said.scope (words_of words) ≡ Some p)
    × ((o : Outcome') → IsPossible t.question.plan o → Meets o p → ⊥)

-- and each has what is always to be
abbrev pub AlwaysIsTrue : Type 0
AlwaysIsTrue = (bytes : List ℕ) (c : Choices) (text : List ℕ) (script : Option (List ℕ))
    (t : IsTold bytes c text script 0) (words : List ℕ) → AreGiven c.always words
    → (p : Pattern) × (pattern_words t.question.said.scope (words_of words) ≡ Some p)
    × ((o : Outcome') → IsPossible t.question.plan o → Meets o p)

-- ---- scripts

-- of each outcome that has a line, the script was played: it is one for `rfx run`, and its run has the outcome; or it
-- passes a limit of scripts
abbrev pub PrintedOutcomesWerePlayed : Type 0
PrintedOutcomesWerePlayed = (bytes : List ℕ) (c : Choices) (text : List ℕ) (script : Option (List ℕ)) (status : ℕ)
    (t : IsTold bytes c text script status) (o : Outcome') (place : ℕ) → IsPrinted bytes c text script status t o place
    → (w : Witnessed) × (outcome_in w.outcome ≡ o)
    × (Replays (script_text t.question.said.scope w.events.items) w.outcome
    ⊎ IsTooLong (script_text t.question.said.scope w.events.items))

-- what is written to the file that `--script K OUT` names is a script for `rfx run`, whose run has outcome K
abbrev pub ScriptsPlayTheirOutcome : (List ℕ → Option (List ℕ) → Type 0) → (List ℕ → Option (List ℕ) → Type 0) → Type 0
ScriptsPlayTheirOutcome Makes Fills = (bytes : List ℕ) (c : Choices) (text : List ℕ) (script : Option (List ℕ)) (status : ℕ)
    (t : IsTold bytes c text script status) (k : Kept) → c.script ≡ Some k → IsFilled Makes Fills c.script script
    → (w : Witnessed) × (slice_get (printed t.question t.found) (k.number - 1) ≡ Some w)
    × ((played : List ℕ) × IsWritten Makes Fills k.out played × Replays played w.outcome)

-- ---- exit statuses

-- all that is asked holds of the outcome of each run
abbrev pub IsTrueOfAll : Choices → Question' → Found → Type 0
IsTrueOfAll c q f = (f.complete ≡ true)
    × ((i : ℕ) (d : Demanded) → slice_get q.demands i ≡ Some d
    → (o : Outcome') → IsPossible q.plan o → Holds d.always d.pattern o)

-- something that is asked is broken by the outcome of a run
abbrev pub IsBrokenByOne : Choices → Question' → Found → Type 0
IsBrokenByOne c q f = (i : ℕ) × (d : Demanded) × (slice_get q.demands i ≡ Some d)
    × ((o : Outcome') × IsPossible q.plan o × Breaks d.always d.pattern o)

-- the limit of states was reached, and all that is asked holds of each outcome that was found
abbrev pub IsCutOff : Choices → Question' → Found → Type 0
IsCutOff c q f = (f.complete ≡ false) × (f.states ≡ states_of c)
    × ((i : ℕ) (d : Demanded) → slice_get q.demands i ≡ Some d
    → (place : ℕ) (w : Witnessed) → slice_get (printed q f) place ≡ Some w → Holds d.always d.pattern (outcome_in w.outcome))

-- the command line asks for a file's script to be explored, which was read to its end; all that is said of it was
-- written, to the file of the script that is wanted, too, and this was found
pub record IsDone (Opens : List ℕ → Result (Option (List ℕ)) ErrorKind → Type 0)
    (Makes Fills : List ℕ → Option (List ℕ) → Type 0) (a : Asked) (old new : Option (List ℕ)) (LetGo : Type 0)
    (status : ℕ) (Such : Choices → Question' → Found → Type 0) : Type 0 where
  pub choices : Choices
  pub file : List ℕ
  pub asks : a ≡ Explores choices file
  pub had : Option (List ℕ)
  pub left : Option (List ℕ)
  pub opens : Opens file (Ok had)
  pub bytes : List ℕ
  pub taken : Consumes had left bytes
  pub end : IsAtEnd left
  pub text : List ℕ
  pub script : Option (List ℕ)
  pub told : IsTold bytes choices text script status
  pub such : Such choices told.question told.found
  pub filled : IsFilled Makes Fills choices.script script
  pub written : Appends old new text
  pub let_go : LetGo

-- a failure was reported, or a beginning of its message was
abbrev pub IsFailed : Option (List ℕ) → Option (List ℕ) → Type 0
IsFailed told told' = (file : List ℕ) × (f : Failure) × AppendsFront told told' (failure_text file f)

-- the words of the command line ask for no exploring
abbrev pub AsksForNothing : Asked → Type 0
AsksForNothing a = (a ≡ Nothing) ⊎ ((file : List ℕ) × (a ≡ Overwrites file))

-- what an exit status means: 0 that no outcome is missing and all that is asked holds of each; 1 that something that is
-- asked is broken by an outcome that a run has, or a failure; 2 that the command line is none; 3 that the limit of
-- states was reached, and nothing that was found breaks what is asked. There is no other
pub record StatusMeans (Opens : List ℕ → Result (Option (List ℕ)) ErrorKind → Type 0)
    (Makes Fills : List ℕ → Option (List ℕ) → Type 0) (a : Asked) (old new : Option (List ℕ)) (LetGo : Type 0)
    (told told' : Option (List ℕ)) (status : ℕ) : Type 0 where
  pub zero : status ≡ 0 → IsDone Opens Makes Fills a old new LetGo status IsTrueOfAll
  pub one : status ≡ 1 → IsDone Opens Makes Fills a old new LetGo status IsBrokenByOne ⊎ IsFailed told told'
  pub two : status ≡ 2 → AsksForNothing a × IsFailed told told'
  pub three : status ≡ 3 → IsDone Opens Makes Fills a old new LetGo status IsCutOff
  pub none_else : status ≤ 3

-- so it does however a run ended
pub record StatusesAreRight (Opens : List ℕ → Result (Option (List ℕ)) ErrorKind → Type 0)
    (Makes Fills : List ℕ → Option (List ℕ) → Type 0) (LetGo Quiet : Type 0) : Type 0 where
  pub means : (a : Asked) (old new told told' : Option (List ℕ)) (status : ℕ)
      → RunEnds Opens Makes Fills a old new LetGo Quiet told told' status
      → StatusMeans Opens Makes Fills a old new LetGo told told' status
