-- What is promised of a judgement.
--
-- *The judgement.* A history that is found legal has a certificate, which is handed out. One that is found illegal is
-- legal up to the line that is named, and with that line no trace shows it; the reason is that of the thread's own lines;
-- and with each reply that is named instead of the line's the history is legal. One that isn't decided is legal up to
-- the line that is named.
use Rattle.std.specs.Prelude.{ℕ, ◌≡◌, ◌<◌, ◌≤◌, ◌+◌, Some, List, [], ◌∷◌, ◌++◌, All, length, reverse, take}
use Rattle.std.specs.List.{slice_get}
use Rattle.lockword.specs.declared.reply.Reply.{Reply}
use Rattle.facts.specs.declared.fact.Fact.TheVariants.{Return, Kill}
use Rattle.histories.specs.declared.head.Head.{Head}
use Rattle.histories.specs.declared.entry.Entry.{Entry}
use Rattle.histories.specs.declared.entry.Entry.TheVariants.{Told, Doom}
use Rattle.histories.specs.declared.entry.HistoryLine.{HistoryLine}
use Rattle.histories.specs.Histories.{LegalHistory}
use Rattle.certificates.specs.Certificates.{IsCertificate, entries, whose}
use Rattle.judge.specs.declared.judging.Judgement.{Judgement}
use Rattle.judge.specs.declared.judging.Judgement.TheVariants.{Legal, Illegal, Undecided}
use Rattle.judge.specs.declared.reason.Reason.{Reason}
use Rattle.judge.specs.declared.reason.Reason.TheVariants.{OutOfTurn, NoOrder}
use Rattle.judge.specs.Reasons.{reason_of}
use Rattle.judge.specs.Replies.{IsPartOf, replies_of}

-- the history is legal up to this place
abbrev pub IsLegal : Head → List HistoryLine → ℕ → Type 0
IsLegal h history at = (at ≤ length history) × LegalHistory h.mutexes (reverse (entries (take at history)))

-- this is the place of one of its lines, up to which it is legal
abbrev pub IsLegalBefore : Head → List HistoryLine → ℕ → Type 0
IsLegalBefore h history at = (at < length history) × IsLegal h history at

-- no trace shows the lines up to this place and the one that is there
abbrev pub IsNeverLegal : Head → List HistoryLine → ℕ → Type 0
IsNeverLegal h history at = LegalHistory h.mutexes (reverse (entries (take (at + 1) history))) → ⊥

-- lines with one more after them, by which thread t gets y
abbrev pub IsWithReturn : List HistoryLine → ℕ → Reply → List HistoryLine → Type 0
IsWithReturn lines t y longer = reverse (entries longer) ≡ Told (Return t y) ∷ reverse (entries lines)

-- some trace shows these lines and such a one
abbrev pub CouldBeTold : Head → List HistoryLine → ℕ → Reply → Type 0
CouldBeTold h lines t y = LegalHistory h.mutexes (Told (Return t y) ∷ reverse (entries lines))

-- the latter are some of those replies, in their order, each of which thread t could get after these lines
abbrev pub AreSome : Head → List HistoryLine → ℕ → List Reply → List Reply → Type 0
AreSome h lines t xs ys = All (CouldBeTold h lines t) ys × IsPartOf ys xs

-- replies that thread t could get after these lines, instead of one for which there is this reason: in the
-- order of their numbers, each once at most; of a line out of turn none
abbrev pub ArePossible : Head → List HistoryLine → ℕ → Reason → List Reply → Type 0
ArePossible h lines t (OutOfTurn why) ys = ys ≡ []
ArePossible h lines t (NoOrder op m x n) ys = AreSome h lines t (replies_of op) ys

-- a line as a trace tells it: a doom is the kill
abbrev pub told_of : Entry → Entry
told_of (Told f) = Told f
told_of (Doom t) = Told (Kill t)

-- these steps are a certificate of the lines, and after it one line more
abbrev pub EndsIn : Head → List HistoryLine → Entry → List Entry → Type 0
EndsIn h lines e steps =
    (before : List Entry) × IsCertificate h.mutexes lines before × (steps ≡ before ++ told_of e ∷ [])

-- the line at this place is the first with which no trace shows the history, for this reason; these replies it could
-- have told; and the steps show the lines before it, and end with it
pub record IsIllegal (h : Head) (history : List HistoryLine) (at : ℕ) (why : Reason) (possible : List Reply)
    (steps : List Entry) : Type 0 where
  pub before : IsLegalBefore h history at
  pub never : IsNeverLegal h history at
  pub line : HistoryLine
  pub stands : slice_get history at ≡ Some line
  pub reason : reason_of (reverse (entries (take at history))) line.entry ≡ Some why
  pub could : ArePossible h (take at history) (whose line.entry) why possible
  pub shown : EndsIn h (take at history) line.entry steps

abbrev pub IsJudged : Head → List HistoryLine → Judgement → Type 0
IsJudged h history (Legal steps) = IsCertificate h.mutexes history steps.items
IsJudged h history (Illegal at why possible steps) = IsIllegal h history at why possible.items steps.items
IsJudged h history (Undecided at) = IsLegalBefore h history at
