-- What an exit status means.
use Rattle.std.proofs.Common.{◌≡◌, ℕ, Bool, true, false, ◌⊎◌, inl, inr, List, [], ◌∷◌, ◌++◌, reverse, Option, Result, Ok, append_assoc, refl, sym, ap, subst, ◌∙◌, arith}
use Rattle.std.specs.Prelude.{codes, count_by, decimal, if◌then◌else◌}
use Rattle.std.specs.List.{concat, list_any}
use Rattle.std.specs.Io.KnownBytes.{Appends}
use Rattle.std.specs.declared.io.ErrorKind.{ErrorKind}
use Rattle.std.specs.declared.io.ErrorKind.TheVariants as kind
use Rattle.lockword.specs.declared.reply.Reply.{Reply}
use Rattle.lockword.specs.Replies.{reply_word}
use Rattle.posixmutex.specs.Words.{operation_word}
use Rattle.histories.specs.declared.entry.HistoryLine.{HistoryLine}
use Rattle.histories.specs.Histories.{LegalHistory}
use Rattle.histories.proofs.Showing.{beginnings}
use Rattle.certificates.specs.Certificates.{is_point_step}
use Rattle.judge.specs.declared.judging.Judgement.{Judgement}
use Rattle.judge.specs.declared.judging.Judgement.TheVariants.{Legal, Illegal, Undecided}
use Rattle.judge.specs.declared.reason.Reason.{Reason}
use Rattle.judge.specs.declared.reason.Reason.TheVariants.{OutOfTurn, NoOrder}
use Rattle.judge_report.specs.declared.messages.Failure.{Failure}
use Rattle.judge_report.specs.declared.messages.Failure.TheVariants.{Usage, Overwriting, CannotRead, CannotWrite, CannotKeep, CannotKeepWindow, CannotRemove, TooMany, NoPlace, OutOfMemory, Ill}
use Rattle.judge_report.specs.Asked.{Asked, Judging, Kept, Nothing, Overwrites}
use Rattle.judge_report.specs.Heard.{Heard}
use Rattle.judge_report.specs.Laws.{AsksForNothing, BeginsWith, BeginsWithNumber, IsFailed, IsFound, IsFoundIllegal, IsFoundLegal, IsFoundSo, IsFoundUndecided, IsRefused, Reports, StatusMeans, StatusesAreRight, is_about_keeping}
use Rattle.judge_report.specs.Messages.{failure_status}
use Rattle.judge_report.specs.Programs.{AskedEnds, FileEnds, IsTold, RunEnds, subject_of, unopened_by}
use Rattle.judge_report.specs.Said.{IsFirstIllegal, IsSaid, status_of, told}
use Rattle.judge_report.specs.declared.keeping.Cut.{Cut}
use Rattle.judge_report.specs.Served.{Fails, IsRead, SaysOf, Serves}
use Rattle.judge_report.specs.Texts.{entry_thread, illegal_notes, illegal_text, is_begin, quote, turn_words, undecided_text}
use Rattle.judge_report.proofs.Saying.{told-append}

-- ---- how texts begin

legal_begins : (b : Bool) (points : ℕ) (more : List ℕ) → BeginsWith (codes "legal ") ((if b then concat (codes "legal " ∷ decimal points ∷ codes " points\n" ∷ []) else concat (codes "legal " ∷ decimal points ∷ codes " points: the history is empty, it has no calls\n" ∷ [])) ++ more)
legal_begins true points more = (concat (decimal points ∷ codes " points\n" ∷ []) ++ more, refl)
legal_begins false points more = (concat (decimal points ∷ codes " points: the history is empty, it has no calls\n" ∷ []) ++ more, refl)

begins_number : (start : List ℕ) (n : ℕ) (y more : List ℕ) → BeginsWithNumber start n ((start ++ (decimal n ++ 32 ∷ y)) ++ more)
begins_number start n y more = (y ++ more, append_assoc start (decimal n ++ 32 ∷ y) more ∙ ap (λ (z : List ℕ). start ++ z) (append_assoc (decimal n) (32 ∷ y) more))

pub illegal_begins : (ls : List HistoryLine) (l : HistoryLine) (why : Reason) (possible : List Reply) → BeginsWithNumber (codes "illegal at line ") l.number (illegal_text ls l why possible)
illegal_begins ls l (OutOfTurn why) possible =
    begins_number (codes "illegal at line ") l.number (codes "(event " ++ concat (decimal l.event ∷ codes "): t" ∷ decimal (entry_thread l.entry) ∷ turn_words why ∷ []))
    (quote l ++ illegal_notes ls l (OutOfTurn why) possible)
illegal_begins ls l (NoOrder op m x begin) possible =
    begins_number (codes "illegal at line ") l.number (codes "(event "
    ++ concat
    (decimal l.event ∷ codes "): no order of the calls gives t" ∷ decimal (entry_thread l.entry) ∷ codes " " ∷ reply_word x ∷ codes " for its " ∷ operation_word op ∷ codes " of m" ∷ decimal m ∷ codes "\n" ∷ []))
    (quote l ++ illegal_notes ls l (NoOrder op m x begin) possible)

undecided_begins : (l : HistoryLine) → BeginsWithNumber (codes "undecided at line ") l.number (undecided_text l)
undecided_begins l = begins_number (codes "undecided at line ") l.number (codes "(event " ++ concat (decimal l.event ∷ codes ")\n" ∷ [])) (quote l)

pub number_of_text : (start : List ℕ) (n : ℕ) (text other : List ℕ) → text ≡ other → BeginsWithNumber start n other → BeginsWithNumber start n text
number_of_text start n text other is b = (b.0, is ∙ b.1)

-- ---- an illegal beginning

pub never_legal : (k : Heard) (line : HistoryLine) → IsFirstIllegal k line → LegalHistory k.head.mutexes (told k.seen) → ⊥
never_legal k line first legal =
    let b = first.before in
    let whole : told k.seen ≡ told b.later ++ told (line ∷ b.earlier) = ap told b.all ∙ told-append b.later (line ∷ b.earlier) in
    first.never (beginnings k.head.mutexes (told b.later) (told (line ∷ b.earlier)) (subst (LegalHistory k.head.mutexes) whole legal))

-- ---- what a text says

says_found : (waiting : Bool) (k : Heard) (j : Judgement) (cs : List Cut) (text : List ℕ) → IsSaid waiting k j cs text → IsFoundSo (status_of j) k text
says_found waiting k (Legal steps) cs text said =
    let start = legal_begins (list_any is_begin (reverse k.seen)) (count_by is_point_step steps.items) _ in
    inl (refl, (said.0.legal, (start.0, said.1 ∙ start.1)))
says_found waiting k (Illegal at why possible steps) cs text said =
    let first = said.1.first in
    let start = illegal_begins (reverse first.before.earlier) said.0 why possible.items in
    inr (refl, inl (never_legal k said.0 first, (said.0, first, number_of_text (codes "illegal at line ") said.0.number text _ said.2 start)))
says_found waiting k (Undecided at) cs text said =
    inr (refl, inr (said.0, said.1, number_of_text (codes "undecided at line ") said.0.number text (undecided_text said.0) said.2 (undecided_begins said.0)))

-- ---- statuses

module _ (Opens : List ℕ → Result (Option (List ℕ)) ErrorKind → Type 0) (Makes Fills : List ℕ → Option (List ℕ) → Type 0) (a : Asked) (old new : Option (List ℕ)) (LetGo Quiet : Type 0) (told told' : Option (List ℕ)) (status : ℕ) where
  abbrev Means : Type 0
  Means = StatusMeans Opens a old new LetGo told told' status

  abbrev Found : (Heard → List ℕ → Type 0) → Type 0
  Found Such = IsFound Opens a old new LetGo Such

  abbrev Fell : Type 0
  Fell = Reports Opens a old new LetGo told told'

  as_zero : status ≡ 0 → Found IsFoundLegal → Means
  as_zero is found = record { zero = λ z. found; one = λ o. absurd (omega arith); two = λ t. absurd (omega arith); none_else = omega arith }

  as_one : status ≡ 1 → Found IsFoundIllegal ⊎ (Found IsFoundUndecided ⊎ Fell) → Means
  as_one is found = record { zero = λ z. absurd (omega arith); one = λ o. found; two = λ t. absurd (omega arith); none_else = omega arith }

  as_two : status ≡ 2 → AsksForNothing a → IsFailed told told' → Means
  as_two is asks failed = record { zero = λ z. absurd (omega arith); one = λ o. absurd (omega arith); two = λ t. (asks, failed); none_else = omega arith }

  -- a failure of a judgement
  failed_one : (file : List ℕ) (f : Failure) → failure_status f ≡ 1 → is_about_keeping f ≡ false → IsTold file f told told' status → Means
  failed_one file f is_one other t = as_one (t.1 ∙ is_one) (inr (inr (record { file = file; failure = f; reported = t.0; verdict = λ about. (let no : false ≡ true = sym other ∙ about in absurd cc) })))

  unopened : (file : List ℕ) (e : ErrorKind) → IsTold file (unopened_by e) told told' status → Means
  unopened file kind.OutOfMemory t = failed_one file OutOfMemory refl refl t
  unopened file e t = failed_one file CannotRead refl refl t

  -- a history that was judged
  module _ (waiting : Bool) (kept : Kept) (file : List ℕ) (asks : a ≡ Judging waiting kept file) (had : Option (List ℕ)) (opens : Opens file (Ok had)) where
    found : (Such : Heard → List ℕ → Type 0) (k : Heard) (text : List ℕ) → IsRead had k → Appends old new text → LetGo → Such k text → Found Such
    found Such k text read written let_go such = record {
      waiting = waiting;
      kept = kept;
      file = file;
      asks = asks;
      had = had;
      opens = opens;
      heard = k;
      read = read;
      text = text;
      such = such;
      written = written;
      let_go = let_go;
    }

    by_status : (k : Heard) (text : List ℕ) (n : ℕ) → status ≡ n → IsRead had k → Appends old new text → LetGo → IsFoundSo n k text → Means
    by_status k text n is read written let_go (inl (zero, legal)) = as_zero (is ∙ zero) (found IsFoundLegal k text read written let_go legal)
    by_status k text n is read written let_go (inr (one, inl illegal)) = as_one (is ∙ one) (inl (found IsFoundIllegal k text read written let_go illegal))
    by_status k text n is read written let_go (inr (one, inr undecided)) = as_one (is ∙ one) (inr (inl (found IsFoundUndecided k text read written let_go undecided)))

    judged : LetGo → Serves Makes Fills waiting kept had old new status → Means
    judged let_go s = by_status s.heard s.text (status_of s.judgement) s.exit s.read s.written let_go (says_found waiting s.heard s.judgement s.cuts s.text s.said)

    -- or its certificate wasn't kept
    alone : (about : List ℕ) (f : Failure) → failure_status f ≡ 1 → SaysOf waiting had old new × LetGo → IsTold about f told told' status → Means
    alone about f is_one (s, let_go) t =
        as_one (t.1 ∙ is_one)
        (inr (inr (record {
          file = about;
          failure = f;
          reported = t.0;
          verdict = λ keeping. (status_of s.judgement, found (IsFoundSo (status_of s.judgement)) s.heard s.says.0 s.read s.says.2 let_go (says_found waiting s.heard s.judgement [] s.says.0 s.says.1));
        })))

    unserved : (about : List ℕ) (f : Failure) → Fails Makes Fills waiting kept had old new LetGo f → IsTold about f told told' status → Means
    unserved about Usage fails t = absurd fails
    unserved about Overwriting fails t = absurd fails
    unserved about CannotRead fails t = failed_one about CannotRead refl refl t
    unserved about CannotWrite fails t = failed_one about CannotWrite refl refl t
    unserved about CannotKeep fails t = alone about CannotKeep refl fails t
    unserved about (CannotKeepWindow n) fails t = alone about (CannotKeepWindow n) refl fails t
    unserved about (CannotRemove n) fails t = alone about (CannotRemove n) refl fails t
    unserved about TooMany fails t = alone about TooMany refl fails t
    unserved about NoPlace fails t = alone about NoPlace refl fails t
    unserved about OutOfMemory fails t = failed_one about OutOfMemory refl refl t
    unserved about (Ill at) fails t = failed_one about (Ill at) refl refl t

  of_file : (waiting : Bool) (kept : Kept) (file : List ℕ) → a ≡ Judging waiting kept file → FileEnds Opens Makes Fills waiting kept file old new LetGo Quiet told told' status → Means
  of_file waiting kept file asks (inl (had, opens, inl (s, let_go, quiet))) = judged waiting kept file asks had opens let_go s
  of_file waiting kept file asks (inl (had, opens, inr (f, fails, t))) = unserved waiting kept file asks had opens (subject_of kept file f) f fails t
  of_file waiting kept file asks (inr (e, opens, same, t)) = unopened file e t

  of_asked : (b : Asked) → a ≡ b → AskedEnds Opens Makes Fills b old new LetGo Quiet told told' status → Means
  of_asked Nothing is ends = as_two ends.1.1 (inl is) ([], Usage, ends.1.0)
  of_asked (Overwrites file) is ends = as_two ends.1.1 (inr (file, is)) (file, Overwriting, ends.1.0)
  of_asked (Judging waiting kept file) is ends = of_file waiting kept file is ends

  of_run : RunEnds Opens Makes Fills a old new LetGo Quiet told told' status → Means
  of_run (inl ends) = of_asked a refl ends
  of_run (inr (same, t)) = failed_one [] OutOfMemory refl refl t

unasked : (Opens : List ℕ → Result (Option (List ℕ)) ErrorKind → Type 0) (Makes Fills : List ℕ → Option (List ℕ) → Type 0) (old new : Option (List ℕ)) (LetGo Quiet : Type 0) (told told' : Option (List ℕ)) (status : ℕ)
    → RunEnds Opens Makes Fills Nothing old new LetGo Quiet told told' status → IsRefused old new told told' status
unasked Opens Makes Fills old new LetGo Quiet told told' status (inl (same, t)) = (same, inl (t.1, t.0))
unasked Opens Makes Fills old new LetGo Quiet told told' status (inr (same, t)) = (same, inr (t.1, t.0))

pub statuses : (Opens : List ℕ → Result (Option (List ℕ)) ErrorKind → Type 0) (Makes Fills : List ℕ → Option (List ℕ) → Type 0) (LetGo Quiet : Type 0) → StatusesAreRight Opens Makes Fills LetGo Quiet
statuses Opens Makes Fills LetGo Quiet = record {
  means = λ a old new told told' status ends. of_run Opens Makes Fills a old new LetGo Quiet told told' status ends;
  usage = λ old new told told' status ends. unasked Opens Makes Fills old new LetGo Quiet told told' status ends;
}
