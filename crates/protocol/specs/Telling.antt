-- A note's facts, as they are recorded one after the other.
use Rattle.std.specs.Prelude.{ℕ, Option, List, ◌++◌, map, option_to_list}
use Rattle.facts.specs.declared.fact.Fact.{Fact}
use Rattle.facts.specs.declared.fact.Fact.TheVariants.{Wake}
use Rattle.protocol.specs.Notes.{moves_to}

-- two facts that come first, those who are woken, those who are moved to mutex m, and the last fact
abbrev pub in_turn : Option Fact → Option Fact → List ℕ → ℕ → List ℕ → Option Fact → List Fact
in_turn first second woken m moved last = option_to_list first
    ++ (option_to_list second ++ (map Wake woken ++ (map (moves_to m) moved ++ option_to_list last)))
