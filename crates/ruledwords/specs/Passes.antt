-- What clauses say of words and passes.
use Rattle.std.specs.Prelude.{◌≡◌, ◌≤◌, ℕ, List}
use Rattle.cachelines.specs.Closings.{words_at}
use Rattle.memorymap.specs.Layouts.{Layout', IsLayout, base_of}
use Rattle.ruledwords.specs.declared.pass.Card.{Card}
use Rattle.ruledwords.specs.declared.pass.Words.{Words}
use Rattle.ruledwords.specs.declared.pass.Pass.{Pass}
use Rattle.ruledwords.specs.declared.pass.Live.{Live}
use Rattle.ruledwords.specs.declared.pass.Dead.{Dead}
use Rattle.ruledwords.specs.declared.pass.Last.{Last}
use Rattle.ruledwords.specs.Rules.{card_of, presets_in}
use Rattle.ruledwords.specs.Seen.{IsLegal}
use Rattle.ruledwords.specs.Lists.{IsAlive, IsMortal}

abbrev pub layout_of : Words → Layout'
layout_of w = w.layout

abbrev pub last_layout : Last → Layout'
last_layout l = l.layout

-- the values that the counters of condition variables began with, in the order of their numbers
abbrev pub presets_of : Words → List ℕ
presets_of w = presets_in w.places.table.shared.key

-- the words after the last step
abbrev pub last_words : Last → List ℕ
last_words l = words_at l.closed

-- it is of one of the layout's threads, and what that has seen of each mutex is legal
pub record IsCardOf (k : Layout') (c : Card) : Type 0 where
  pub layout : IsLayout k
  pub threads : c.threads ≡ k.threads
  pub first : 1 ≤ c.thread
  pub thread : c.thread ≤ k.threads
  pub base : c.base ≡ base_of k c.thread
  pub legal : IsLegal c

module _ {A : Type 0} where
  -- what the pass knows
  abbrev pub card : Pass A → Card
  card p = card_of p.seat.me.0

  -- it is a pass of these words, for one of their layout's threads
  abbrev pub IsPassOf : Words → Pass A → Type 0
  IsPassOf w p = (p.seat.table_id ≡ w.places.table.shared.table_id) × IsCardOf (layout_of w) (card p)

-- it is a pass of these words whose thread is in no call: its list has just the mutexes that it holds
abbrev pub IsLive : Words → Pass Live → Type 0
IsLive w p = IsPassOf w p × IsAlive (layout_of w) (card p)

-- it is a pass of these words whose thread has died, and will be found all that it holds
abbrev pub IsDying : Words → Pass Dead → Type 0
IsDying w p = IsPassOf w p × IsMortal (layout_of w) (card p)
