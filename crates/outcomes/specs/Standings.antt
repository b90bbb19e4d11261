-- The standing of a thread at a position: what it is doing, and how far it has come.
use Rattle.protocol.specs.declared.thread.Thread.{Thread}
use Rattle.outcomes.specs.Positions.{Place}

pub record Stood : Type 0 where
  pub thread : Thread
  pub place : Place
