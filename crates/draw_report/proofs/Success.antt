-- The exit status is 0 only if all went well.
use Rattle.std.proofs.Common.{◌≡◌, ℕ, List, [], ◌∷◌, Option, Some, None, Result, inl, inr, sym, subst, ◌∙◌, arith}
use Rattle.std.specs.declared.io.ErrorKind.{ErrorKind}
use Rattle.draw_report.specs.declared.asking.Kind.{Kind}
use Rattle.draw_report.specs.declared.messages.Failure.{Failure}
use Rattle.draw_report.specs.declared.messages.Failure.TheVariants.{Usage, CannotRead, CannotWrite, OutOfMemory}
use Rattle.draw_report.specs.declared.messages.Failure.TheVariants.{Script, Unlike, UnlikeHistory, Trace, History, Undecided, Unfit}
use Rattle.draw_report.specs.Asked.{Asked, Drawing, Meaning, Nothing}
use Rattle.draw_report.specs.Messages.{failure_status}
use Rattle.draw_report.specs.Programs.{AskedEnds, IsRefused, IsTold, IsWhole, LegendEnds, NamedEnds, OtherWordsAreRefused, PictureEnds, RunEnds, ScriptIsTold, SuccessIsWhole}
use Rattle.draw_report.proofs.Parts.{alone}
use Rattle.script.specs.Scope.{Scope}

no_success : (f : Failure) → failure_status f ≡ 0 → ⊥
no_success Usage e = omega (arith, e)
no_success CannotRead e = omega (arith, e)
no_success CannotWrite e = omega (arith, e)
no_success OutOfMemory e = omega (arith, e)
no_success (Script at) e = omega (arith, e)
no_success Unlike e = omega (arith, e)
no_success UnlikeHistory e = omega (arith, e)
no_success (Trace at) e = omega (arith, e)
no_success (History at) e = omega (arith, e)
no_success (Undecided line event) e = omega (arith, e)
no_success (Unfit at) e = omega (arith, e)

-- what was reported is no success
told_is_none : (file : List ℕ) (f : Failure) (told told' : Option (List ℕ)) (status : ℕ) → IsTold file f told told' status → status ≡ 0 → ⊥
told_is_none file f told told' status is zero = no_success f (sym is.1 ∙ zero)

module _ (Opens : List ℕ → Result (Option (List ℕ)) ErrorKind → Type 0) (old new : Option (List ℕ)) (LetGo Quiet : Type 0) (told told' : Option (List ℕ)) (status : ℕ) (zero : status ≡ 0) where
  picture : (k : Kind) (script : Option Scope) (file : List ℕ) → PictureEnds Opens k script file old new LetGo Quiet told told' status → LetGo × Quiet
  picture k script file (inl (had, opens, left, inl (serves, let_go, quiet, is))) = (let_go, quiet)
  picture k script file (inl (had, opens, left, inr (f, fails, is))) = absurd (told_is_none file f told told' status is zero)
  picture k script file (inr (e, opens, same, is)) = absurd (told_is_none file _ told told' status is zero)

  of_script : (name : List ℕ) → ScriptIsTold Opens name told told' status → ⊥
  of_script name (inl (had, opens, left, f, fails, is)) = told_is_none name f told told' status is zero
  of_script name (inr (e, opens, is)) = told_is_none name _ told told' status is zero

  named : (k : Kind) (name file : List ℕ) → NamedEnds Opens k name file old new LetGo Quiet told told' status → LetGo × Quiet
  named k name file (inl (s, opens, ends)) = picture k (Some s) file ends
  named k name file (inr (same, is)) = absurd (of_script name is)

  meaning : LegendEnds old new LetGo Quiet told told' status → LetGo × Quiet
  meaning (inl (all, let_go, quiet, is)) = (let_go, quiet)
  meaning (inr (front, is)) = absurd (told_is_none [] CannotWrite told told' status is zero)

  asked : (a : Asked) → AskedEnds Opens a old new LetGo Quiet told told' status → IsWhole a LetGo Quiet
  asked Nothing (same, is) = absurd (told_is_none [] Usage told told' status is zero)
  asked Meaning ends = let both = meaning ends in record { asked = λ same. absurd cc; let_go = both.0; quiet = both.1 }
  asked (Drawing k (Some name) file) ends = let both = named k name file ends in record { asked = λ same. absurd cc; let_go = both.0; quiet = both.1 }
  asked (Drawing k None file) ends = let both = picture k None file ends in record { asked = λ same. absurd cc; let_go = both.0; quiet = both.1 }

  ended : (a : Asked) → RunEnds Opens a old new LetGo Quiet told told' status → IsWhole a LetGo Quiet
  ended a (inl ends) = asked a ends
  ended a (inr (same, is)) = absurd (told_is_none [] OutOfMemory told told' status is zero)

pub success_is_whole : (Opens : List ℕ → Result (Option (List ℕ)) ErrorKind → Type 0) (LetGo Quiet : Type 0) → SuccessIsWhole Opens LetGo Quiet
success_is_whole Opens LetGo Quiet = record { whole = λ a old new told told' status ends zero. ended Opens old new LetGo Quiet told told' status zero a ends }

-- ---- words that ask for nothing

refused : (Opens : List ℕ → Result (Option (List ℕ)) ErrorKind → Type 0) (LetGo Quiet : Type 0) (old new told told' : Option (List ℕ)) (status : ℕ) → RunEnds Opens Nothing old new LetGo Quiet told told' status → IsRefused old new told told' status
refused Opens LetGo Quiet old new told told' status (inl (same, t)) = (same, inl (t.1, t.0))
refused Opens LetGo Quiet old new told told' status (inr (same, t)) = (same, inr (t.1, t.0))

pub other_words_are_refused : (Opens : List ℕ → Result (Option (List ℕ)) ErrorKind → Type 0) (LetGo Quiet : Type 0) → OtherWordsAreRefused Opens LetGo Quiet
other_words_are_refused Opens LetGo Quiet = record {
  refused = λ program words old new told told' status none ends.
      refused Opens LetGo Quiet old new told told' status (subst (λ (a : Asked). RunEnds Opens a old new LetGo Quiet told told' status) (sym (alone (program ∷ words) Nothing none)) ends);
}
