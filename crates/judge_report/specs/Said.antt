-- What the program says of a history, and what that means.
--
-- *What is said of a history.* `legal N points`: it is a legal history, with a certificate that has N points; after that
-- is reported which windows it was cut into, where it was, and the calls are named that the certificate leaves
-- waiting and shouldn't, where they are asked for. `illegal at line L`: those of its lines that stand before line L
-- are a legal history, and with line L they aren't; the reason is that of its thread's lines before it, and with
-- each reply that is named instead of the line's they are. `undecided at line L`: those before it are a legal
-- history.
use Rattle.std.specs.Prelude.{ℕ, ◌≡◌, Bool, true, false, List, [], ◌∷◌, ◌++◌, map, reverse, count_by}
use Rattle.std.specs.Prelude.{Option, Some, Result}
use Rattle.streams.specs.Leaves.{Leaves}
use Rattle.lockword.specs.declared.reply.Reply.{Reply}
use Rattle.histories.specs.declared.entry.Entry.{Entry}
use Rattle.histories.specs.declared.entry.HistoryLine.{HistoryLine}
use Rattle.histories.specs.Histories.{LegalHistory}
use Rattle.certificates.specs.declared.waiting.Waiter.{Waiter}
use Rattle.certificates.specs.Certificates.{IsCertificate, is_point_step, whose}
use Rattle.certificates.specs.Waiters.{waiters}
use Rattle.judge.specs.declared.judging.Judgement.{Judgement}
use Rattle.judge.specs.declared.judging.Judgement.TheVariants.{Legal, Illegal, Undecided}
use Rattle.judge.specs.declared.reason.Reason.{Reason}
use Rattle.judge.specs.Judgements.{ArePossible, EndsIn}
use Rattle.judge.specs.Reasons.{reason_of}
use Rattle.judge_report.specs.declared.keeping.Cut.{Cut}
use Rattle.judge_report.specs.Heard.{Heard}
use Rattle.judge_report.specs.Texts.{cuts_text, illegal_text, legal_text, undecided_text, waiters_text}

-- what lines tell
abbrev pub told : List HistoryLine → List Entry
told ls = map (λ l. l.entry) ls

-- a history that was read is legal, with this certificate
pub record IsLegal (k : Heard) (steps : List Entry) : Type 0 where
  pub legal : LegalHistory k.head.mutexes (told k.seen)
  pub certificate : IsCertificate k.head.mutexes (reverse k.seen) steps

-- this is one of its lines, and those before it are a legal history
pub record IsLegalBefore (k : Heard) (line : HistoryLine) : Type 0 where
  pub later : List HistoryLine
  pub earlier : List HistoryLine
  pub all : k.seen ≡ later ++ line ∷ earlier
  pub legal : LegalHistory k.head.mutexes (told earlier)

-- and with it they aren't
pub record IsFirstIllegal (k : Heard) (line : HistoryLine) : Type 0 where
  pub before : IsLegalBefore k line
  pub never : LegalHistory k.head.mutexes (told (line ∷ before.earlier)) → ⊥

-- for this reason, and these replies its thread could be reported; and these steps show the lines before it, and end
-- with it
pub record IsIllegal (k : Heard) (line : HistoryLine) (why : Reason) (possible : List Reply) (steps : List Entry)
    : Type 0 where
  pub first : IsFirstIllegal k line
  pub reason : reason_of (told first.before.earlier) line.entry ≡ Some why
  pub could : ArePossible k.head (reverse first.before.earlier) (whose line.entry) why possible
  pub shown : EndsIn k.head (reverse first.before.earlier) line.entry steps

-- the calls that are named after these steps, if they are asked for
abbrev pub named : Bool → List Entry → List Waiter
named true steps = waiters (reverse steps)
named false steps = []

-- this is said of it, with the windows that its certificate was cut into, and with the calls that still wait and
-- shouldn't or without them
abbrev pub IsSaid : Bool → Heard → Judgement → List Cut → List ℕ → Type 0
IsSaid waiting k (Legal steps) cuts text = IsLegal k steps.items
    × (text ≡ legal_text (count_by is_point_step steps.items) (reverse k.seen)
    ++ (cuts_text cuts ++ waiters_text (reverse k.seen) (named waiting steps.items)))
IsSaid waiting k (Illegal at why possible steps) cuts text = (line : HistoryLine)
    × (is : IsIllegal k line why possible.items steps.items)
    × (text ≡ illegal_text (reverse is.first.before.earlier) line why possible.items)
IsSaid waiting k (Undecided at) cuts text = (line : HistoryLine) × IsLegalBefore k line × (text ≡ undecided_text line)

-- these are the calls that are named of a history that is so judged
abbrev pub AreNamed : Bool → Judgement → List Waiter → Type 0
AreNamed waiting (Legal steps) ws = ws ≡ named waiting steps.items
AreNamed waiting (Illegal at why possible steps) ws = Unit {0}
AreNamed waiting (Undecided at) ws = Unit {0}

-- the exit status then
abbrev pub status_of : Judgement → ℕ
status_of (Legal steps) = 0
status_of (Illegal at why possible steps) = 1
status_of (Undecided at) = 1

-- what is said of a history was written, or a beginning of it
abbrev pub Tells : {E : Type 0} → Bool → Heard → Judgement → List Cut → Option (List ℕ) → Option (List ℕ)
    → Result (Unit {0}) E → Type 0
Tells waiting k j cuts old new r = (text : List ℕ) × IsSaid waiting k j cuts text × Leaves old new r text
