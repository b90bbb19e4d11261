-- Threads whose ids are used again (get_robust_list(2)).
--
-- *A life again.* The pass of a thread that was reaped, which holds nothing and knows its own words still; and what
-- it knows once it is renewed: its head leads to itself, nothing is pending, and all else is as it was. Source:
-- get_robust_list(2).
use Rattle.std.specs.Prelude.{◌+◌}
use Rattle.memorymap.specs.Layouts.{Layout', address_in, head_place}
use Rattle.ruledwords.specs.declared.pass.Card.{Card}
use Rattle.ruledwords.specs.declared.pass.Pass.{Pass}
use Rattle.ruledwords.specs.declared.pass.Reaped.{Reaped}
use Rattle.ruledwords.specs.declared.pass.Words.{Words}
use Rattle.ruledwords.specs.OwnWords.{KnowsOwn, knowing, owns_in}
use Rattle.ruledwords.specs.Passes.{IsPassOf, card, layout_of}
use Rattle.ruledwords.specs.Walks.{OwnsNothing}

-- it is a pass of these words whose thread was reaped: it holds nothing, and knows its own words still
abbrev pub IsGone : Words → Pass Reaped → Type 0
IsGone w p = IsPassOf w p × KnowsOwn (layout_of w) (card p) × OwnsNothing (layout_of w) (owns_in (layout_of w) (card p))

-- what it knows once it lives again: its head leads to itself, so its list is empty, and nothing is pending. All
-- that it has seen is as it was
abbrev pub renewed : Layout' → Card → Card
renewed k c =
    knowing (knowing c (head_place c.thread) (address_in k c.thread (head_place c.thread))) (head_place c.thread + 2) 0
