-- What an exit status means.
use Rattle.std.proofs.Common.{◌≡◌, ℕ, ◌≤◌, ◌<◌, Bool, true, false, ◌⊎◌, inl, inr, List, [], length, Option, Result, Ok, Err, refl, sym, ◌∙◌, arith, ltb, ltb-false}
use Rattle.std.specs.Prelude.{nat_lt, if◌then◌else◌}
use Rattle.std.specs.Str.{is_utf8}
use Rattle.std.specs.declared.io.ErrorKind.{ErrorKind}
use Rattle.std.specs.declared.io.ErrorKind.TheVariants as kind
use Rattle.std.specs.Io.KnownBytes.{IsAtEnd}
use Rattle.lines.specs.Lines.{bad_line}
use Rattle.outcomes.specs.declared.exploring.Found.{Found}
use Rattle.script.specs.Limits.{max_bytes}
use Rattle.script.specs.Reading.{fault_at}
use Rattle.script.specs.declared.fault.Fault.TheVariants.{NotUtf8, TooLong}
use Rattle.script.specs.declared.fault.ScriptFault.{ScriptFault}
use Rattle.explore_report.specs.declared.exploring.Untold.{Untold as Untold'}
use Rattle.explore_report.specs.declared.exploring.Untold.TheVariants as untold
use Rattle.explore_report.specs.declared.messages.Failure.{Failure}
use Rattle.explore_report.specs.declared.messages.Failure.TheVariants.{Usage, Overwriting, CannotRead, CannotWrite, CannotKeep, Untold}
use Rattle.explore_report.specs.Asked.{Asked, Choices, Explores, Nothing, Overwrites}
use Rattle.explore_report.specs.Laws.{AsksForNothing, IsBrokenByOne, IsCutOff, IsDone, IsFailed, IsTrueOfAll, StatusMeans, StatusesAreRight}
use Rattle.explore_report.specs.Messages.{failure_status}
use Rattle.explore_report.specs.Plans.{Said, said_read, text_said}
use Rattle.explore_report.specs.Programs.{AskedEnds, FileEnds, IsReported, RunEnds, unopened_by}
use Rattle.explore_report.specs.Served.{Fails, FailsBytes, IsRead, IsUnread, Serves, ServesBytes}
use Rattle.explore_report.specs.Texts.{are_met}
use Rattle.explore_report.specs.Told.{IsTold, Question', printed, status_of}
use Rattle.explore_report.proofs.Lawful.{broken_by_one, cut_off, true_of_all}

-- a script that was read isn't too long
pub is_short : (bytes : List ℕ) (said : Said) → said_read bytes ≡ Ok said → length bytes ≤ max_bytes
is_short bytes said e = go (nat_lt max_bytes (length bytes)) refl e
  where
    go : (b : Bool) → nat_lt max_bytes (length bytes) ≡ b → (if b then Err (fault_at 1 TooLong) else (if is_utf8 bytes then text_said bytes else Err (fault_at (bad_line bytes) NotUtf8))) ≡ Ok said → length bytes ≤ max_bytes
    go true is k = absurd cc
    go false is k = ltb-false max_bytes (length bytes) is

module _ (Opens : List ℕ → Result (Option (List ℕ)) ErrorKind → Type 0) (Makes Fills : List ℕ → Option (List ℕ) → Type 0) (a : Asked) (old new : Option (List ℕ)) (LetGo Quiet : Type 0) (told told' : Option (List ℕ)) (status : ℕ) where
  abbrev Means : Type 0
  Means = StatusMeans Opens Makes Fills a old new LetGo told told' status

  abbrev Done : (Choices → Question' → Found → Type 0) → Type 0
  Done Such = IsDone Opens Makes Fills a old new LetGo status Such

  as_zero : status ≡ 0 → Done IsTrueOfAll → Means
  as_zero is done = record { zero = λ z. done; one = λ o. absurd (omega arith); two = λ t. absurd (omega arith); three = λ t. absurd (omega arith); none_else = omega arith }

  as_one : status ≡ 1 → Done IsBrokenByOne ⊎ IsFailed told told' → Means
  as_one is done = record { zero = λ z. absurd (omega arith); one = λ o. done; two = λ t. absurd (omega arith); three = λ t. absurd (omega arith); none_else = omega arith }

  as_two : status ≡ 2 → AsksForNothing a → IsFailed told told' → Means
  as_two is asks failed = record { zero = λ z. absurd (omega arith); one = λ o. absurd (omega arith); two = λ t. (asks, failed); three = λ t. absurd (omega arith); none_else = omega arith }

  as_three : status ≡ 3 → Done IsCutOff → Means
  as_three is done = record { zero = λ z. absurd (omega arith); one = λ o. absurd (omega arith); two = λ t. absurd (omega arith); three = λ t. done; none_else = omega arith }

  -- a failure
  failed_one : (file : List ℕ) (f : Failure) → failure_status f ≡ 1 → IsReported file f told told' status → Means
  failed_one file f is_one t = as_one (t.1 ∙ is_one) (inr (file, f, t.0))

  -- not one of the command line
  abbrev IsOfFile : Failure → Type 0
  IsOfFile f = failure_status f ≡ 1

  of_reading : (f : Failure) → IsUnread f → IsOfFile f
  of_reading Usage h = absurd h
  of_reading Overwriting h = absurd h
  of_reading CannotRead h = refl
  of_reading CannotWrite h = absurd h
  of_reading (CannotKeep name) h = absurd h
  of_reading (Untold why) h = refl

  of_bytes : (c : Choices) (bytes : List ℕ) (f : Failure) → FailsBytes Makes Fills c bytes old new f → IsOfFile f
  of_bytes c bytes Usage h = absurd h
  of_bytes c bytes Overwriting h = absurd h
  of_bytes c bytes CannotRead h = absurd h
  of_bytes c bytes CannotWrite h = refl
  of_bytes c bytes (CannotKeep name) h = refl
  of_bytes c bytes (Untold why) h = refl

  of_failure : (c : Choices) (had left : Option (List ℕ)) (f : Failure) → Fails Makes Fills c had left old new f → IsOfFile f
  of_failure c had left f (inl h) = of_reading f h.0
  of_failure c had left f (inr h) = of_bytes c h.0 f h.1.1

  unopened : (file : List ℕ) (e : ErrorKind) → IsReported file (unopened_by e) told told' status → Means
  unopened file kind.OutOfMemory t = failed_one file (Untold untold.OutOfMemory) refl t
  unopened file e t = failed_one file CannotRead refl t

  -- all was said
  module _ (c : Choices) (file : List ℕ) (asks : a ≡ Explores c file) (had left : Option (List ℕ)) (opens : Opens file (Ok had)) (let_go : LetGo) (bytes : List ℕ) (read : IsRead had left bytes) (s : ServesBytes Makes Fills c bytes old new status) where
    done : (Such : Choices → Question' → Found → Type 0) → Such c s.told.question s.told.found → Done Such
    done Such such = record {
      choices = c;
      file = file;
      asks = asks;
      had = had;
      left = left;
      opens = opens;
      bytes = bytes;
      taken = read.taken;
      end = read.end (is_short bytes s.told.question.said s.told.asked.read);
      text = s.text;
      script = s.script;
      told = s.told;
      such = such;
      filled = s.filled;
      written = s.written;
      let_go = let_go;
    }

    by_status : (met complete : Bool) → are_met (printed s.told.question s.told.found) s.told.question.demands ≡ met → s.told.found.complete ≡ complete → status ≡ status_of met complete → Means
    by_status false complete met whole is = as_one is (inl (done IsBrokenByOne (broken_by_one bytes c s.text s.script status s.told met)))
    by_status true false met whole is = as_three is (done IsCutOff (cut_off bytes c s.text s.script status s.told met whole))
    by_status true true met whole is = as_zero is (done IsTrueOfAll (true_of_all bytes c s.text s.script status s.told met whole))

    served : Means
    served = by_status _ _ refl refl s.told.answer.exit

  of_file : (c : Choices) (file : List ℕ) → a ≡ Explores c file → FileEnds Opens Makes Fills c file old new LetGo Quiet told told' status → Means
  of_file c file asks (inl (had, left, opens, inl (s, let_go, quiet))) = served c file asks had left opens let_go s.0 s.1.0 s.1.1
  of_file c file asks (inl (had, left, opens, inr (f, fails, t))) = failed_one file f (of_failure c had left f fails) t
  of_file c file asks (inr (e, opens, same, t)) = unopened file e t

  of_asked : (b : Asked) → a ≡ b → AskedEnds Opens Makes Fills b old new LetGo Quiet told told' status → Means
  of_asked Nothing is ends = as_two ends.1.1 (inl is) ([], Usage, ends.1.0)
  of_asked (Overwrites file) is ends = as_two ends.1.1 (inr (file, is)) (file, Overwriting, ends.1.0)
  of_asked (Explores c file) is ends = of_file c file is ends

  of_run : RunEnds Opens Makes Fills a old new LetGo Quiet told told' status → Means
  of_run (inl ends) = of_asked a refl ends
  of_run (inr (same, t)) = failed_one [] (Untold untold.OutOfMemory) refl t

pub statuses : (Opens : List ℕ → Result (Option (List ℕ)) ErrorKind → Type 0) (Makes Fills : List ℕ → Option (List ℕ) → Type 0) (LetGo Quiet : Type 0) → StatusesAreRight Opens Makes Fills LetGo Quiet
statuses Opens Makes Fills LetGo Quiet = record { means = λ a old new told told' status ends. of_run Opens Makes Fills a old new LetGo Quiet told told' status ends }
