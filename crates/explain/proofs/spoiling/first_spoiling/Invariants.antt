use Rattle.std.proofs.Common.{◌≡◌, ℕ, ◌+◌, ◌<◌, ◌≤◌, false, length, take, reverse}
use Rattle.explain.specs.Spoiling.{Recalls, spoils_at}
use Rattle.explain.proofs.spoiling.first_spoiling.Given as goal

abbrev pub invariant-loop-index : goal.invariant-loop-index
invariant-loop-index l = record {
  threads : length l.past.waits.items ≡ l.fn.head.threads + 1;
  mutexes : length l.past.deaths.items ≡ l.fn.head.mutexes;
  recalls : Recalls l.past (reverse (take l.index l.lines));
  none_yet : (n : ℕ) → 2 ≤ n → n < l.index + 2 → spoils_at l.lines n ≡ false;
}
