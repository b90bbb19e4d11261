-- Readings that may find a fault.
use Rattle.std.specs.Prelude.{Result, Ok, Err}

-- first one thing and then another, as `?` does: a fault of the first is the fault
infixl 10 ◌>>=◌
abbrev pub ◌>>=◌ : {A B E : Type 0} → Result A E → (A → Result B E) → Result B E
(Ok x) >>= f = f x
(Err e) >>= f = Err e
