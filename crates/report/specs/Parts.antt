-- What a phase of a script adds to the replies, the deaths and the points of the phases before it.
use Rattle.std.specs.Prelude.{ℕ, Bool, List}
use Rattle.lockword.specs.declared.reply.Reply.{Reply}
use Rattle.posixmutex.specs.declared.point.Point.{Point}

-- what a phase adds: what thread i + 1 was replied in it, and whether it died in it; and the points of each mutex
pub record Part : Type 0 where
  pub replies : ℕ → List Reply
  pub died : ℕ → Bool
  pub points : ℕ → List Point
