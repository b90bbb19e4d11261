-- Two fates of one thread, which are asked one after the other before each access.
--
-- *Two fates.* A stretch asks two before each access, its caller's and, where that lets the thread go on, another, by
-- which other threads may end it: neither has said once more that the thread stops where it lives, and just one of them
-- has where it dies.
use Rattle.std.specs.Prelude.{◌≡◌, ◌≤◌, ℕ, ◌+◌}

-- they had said f and n times that the thread stops, and have said it f' and n' times now: neither once more where it
-- goes on, and just one of them once more where it stops, as k tells
pub record Heeds (f f' n n' k : ℕ) : Type 0 where
  pub fate : f ≤ f'
  pub note : n ≤ n'
  pub once : f' + n' ≡ f + n + k
