-- The words that are listed for a place, and those that lead on from it.
use Rattle.std.specs.Prelude.{ℕ, ◌≡◌, ◌↔◌, ◌⊎◌, true, List, Contains}
use Rattle.std.specs.Option.{is_some}
use Rattle.lines.specs.Numbers.{is_number}
use Rattle.script.specs.declared.command.Mode.{Mode}
use Rattle.grammar.specs.declared.next.Next.{Next}
use Rattle.grammar.specs.declared.next.Next.TheVariants.{Keyword, Call, Head, Event, Deed, Reply, Operation, CallReply}
use Rattle.grammar.specs.Known.{known_words}
use Rattle.grammar.specs.Nexts.{after}

-- a line goes on there after just the words that are listed
abbrev pub TakesJustTheListed : Next → Type 0
TakesJustTheListed n = (w : List ℕ) → (is_some (after n w) ≡ true) ↔ Contains (known_words n) w

-- at each place that lists its words, those are just the words that lead on; where a trace's events are numbered, a
-- number does too
pub record KnownWordsAreThoseThatFit : Type 0 where
  pub keyword : (k : Mode) → TakesJustTheListed (Keyword k)
  pub head : TakesJustTheListed Head
  pub event : (w : List ℕ) → (is_some (after Event w) ≡ true) ↔ (Contains (known_words Event) w ⊎ (is_number w ≡ true))
  pub deed : TakesJustTheListed Deed
  pub call : (k : Mode) → TakesJustTheListed (Call k)
  pub operation : TakesJustTheListed Operation
  pub call_reply : TakesJustTheListed CallReply
  pub reply : TakesJustTheListed Reply
