-- A thread that is where its row says is alive.
use Rattle.std.proofs.Common.{◌≡◌, inl, inr, ℕ, Bool, true, false, ap}
use Rattle.lockword.specs.Cells.{fields_of}
use Rattle.mutex.specs.declared.call.Call.{Call}
use Rattle.mutex.specs.declared.phase.Phase.{Phase}
use Rattle.condvar.specs.declared.call.CondCall.{CondCall}
use Rattle.condvar.specs.declared.row.CondRow.{CondRow}
use Rattle.protocol.specs.declared.thread.Stage.{Stage}
use Rattle.protocol.specs.Machine.{is_alive}
use Rattle.slots.specs.Rows.{Before, Giving, How, Onward, Row, Taking}
use Rattle.slots.specs.Rows.Before.{Linked, Mended, Again}
use Rattle.slots.specs.Rows.Giving.{OfUnlock, OfWait}
use Rattle.slots.specs.Rows.How.{Tried, Later, Waited}
use Rattle.slots.specs.Rows.Onward.{Has, Fails, Sleeps}
use Rattle.slots.specs.Stands.{HasChosen, IsAtWords, IsFreeing, IsGiving, IsGivingUnlinked, IsHeirToBe, IsIn, IsRetaking, IsTaking, IsThrough, IsToLook, IsToSleep, IsWaking, StandsAs}

module _ (g : Stage) where
  abbrev Lives : Type 0
  Lives = is_alive g ≡ true

  in_call : (c : Call) (f : Phase) → IsIn c f g → Lives
  in_call c f (p, is, phase) = ap is_alive is

  retaking : (k : ℕ) (f : Phase) → IsRetaking k f g → Lives
  retaking k f (c, p, is, of, acts, phase) = ap is_alive is

  at_words : (c : CondCall) (r : CondRow) → IsAtWords c r g → Lives
  at_words c r (p, is, phase) = ap is_alive is

  to_look : (k : Taking) (h : How) → IsToLook k h g → Lives
  to_look k Tried there = in_call _ _ there
  to_look k Later there = in_call _ _ there
  to_look k (Waited z) there = retaking z _ there

  through : (m : ℕ) (h : How) → IsThrough m h g → Lives
  through m Tried there = in_call _ _ there
  through m Later there = in_call _ _ there
  through m (Waited z) there = absurd there

  to_sleep : (k : Taking) (h : How) (v : ℕ) → IsToSleep k h v g → Lives
  to_sleep k Tried v there = in_call _ _ there
  to_sleep k Later v there = in_call _ _ there
  to_sleep k (Waited z) v (c, low, there) = retaking z _ there

  chosen : (k : Taking) (h : How) (b : Bool) (v : ℕ) → HasChosen k h b v g → Lives
  chosen k Tried b v there = in_call _ _ there
  chosen k Later true v there = in_call _ _ there
  chosen k Later false v there = in_call _ _ there
  chosen k (Waited z) true v there = to_sleep k (Waited z) v there
  chosen k (Waited z) false v there = retaking z _ there

  taking : (m : ℕ) (f : Phase) → IsTaking m f g → Lives
  taking m f (inl there) = in_call _ _ there
  taking m f (inr (inl there)) = in_call _ _ there
  taking m f (inr (inr (k, there))) = retaking k _ there

  giving : (m : ℕ) (y : Giving) → IsGiving m y g → Lives
  giving m (OfUnlock d) there = in_call _ _ there
  giving m (OfWait k n slept timed) there = at_words _ _ there

  unlinked : (m : ℕ) (y : Giving) → IsGivingUnlinked m y g → Lives
  unlinked m (OfUnlock d) (u, there) = in_call _ _ there
  unlinked m (OfWait k n slept timed) (p, u, is, phase) = ap is_alive is

  waking : (m : ℕ) (y : Giving) → IsWaking m y g → Lives
  waking m (OfUnlock d) there = in_call _ _ there
  waking m (OfWait k n slept timed) there = at_words _ _ there

  freeing : (m : ℕ) (f : Onward) → IsFreeing m f g → Lives
  freeing m (Has r) there = in_call _ _ there
  freeing m (Fails r) there = in_call _ _ there
  freeing m Sleeps there = in_call _ _ there

  heir_to_be : (m : ℕ) (b : Before) → IsHeirToBe m b g → Lives
  heir_to_be m Linked there = in_call _ _ there
  heir_to_be m Mended is = ap is_alive is
  heir_to_be m Again there = in_call _ _ there

  pub standing_lives : (r : Row) → StandsAs r g → Lives
  standing_lives (Row.Sees k) there = to_look k k.how there
  standing_lives (Row.Takes k v) there = to_look k k.how there
  standing_lives (Row.Chooses k v) there = chosen k k.how (fields_of v).waiters v there
  standing_lives (Row.SeesAgain k v) there = chosen k k.how (fields_of v).waiters v there
  standing_lives (Row.Marks k v n) there = chosen k k.how false v there
  standing_lives (Row.SleepsOn k v) there = to_sleep k k.how v there
  standing_lives (Row.Asleep k) there = to_look k k.how there
  standing_lives (Row.Late k) there = through k.mutex Later there
  standing_lives (Row.LateSees k) there = through k.mutex Later there
  standing_lives (Row.WakesAll m r) (inl (there, same)) = taking m _ there
  standing_lives (Row.WakesAll m r) (inr (there, same)) = in_call _ _ there
  standing_lives (Row.Links m r) (u, there) = taking m _ there
  standing_lives (Row.Clears m r) (c, p, x, is, phase, same) = ap is_alive is
  standing_lives (Row.SlotPends k v) there = through k.mutex k.how there
  standing_lives (Row.SlotTakes k v) there = in_call _ _ there
  standing_lives (Row.SlotLeft k) (inl there) = in_call _ _ there
  standing_lives (Row.SlotLeft k) (inr there) = in_call _ _ there
  standing_lives (Row.SeesToSleep k) there = to_look k k.how there
  standing_lives (Row.SlotLinks k d) (u, there) = in_call _ _ there
  standing_lives (Row.SlotClears k) there = in_call _ _ there
  standing_lives (Row.HeirPends k b) there = heir_to_be k.mutex b there
  standing_lives (Row.HeirSets k) there = in_call _ _ there
  standing_lives (Row.HeirLooks k) there = in_call _ _ there
  standing_lives (Row.HeirPendsOn k v over) there = in_call _ _ there
  standing_lives (Row.HeirTakes k v) there = in_call _ _ there
  standing_lives (Row.HeirHas k r) (u, there) = in_call _ _ there
  standing_lives (Row.HeirLinks k r) (u, there) = in_call _ _ there
  standing_lives (Row.GivesUp k) there = in_call _ _ there
  standing_lives (Row.LastLooks k) there = in_call _ _ there
  standing_lives (Row.LastMarks k v) there = in_call _ _ there
  standing_lives (Row.HeirWakes k) there = in_call _ _ there
  standing_lives (Row.Frees k f) there = freeing k.mutex f there
  standing_lives (Row.FreeUnlinks k f) (u, there) = in_call _ _ there
  standing_lives (Row.FreeGives k f) there = in_call _ _ there
  standing_lives (Row.TryTakes m v) there = in_call _ _ there
  standing_lives (Row.GiveUnlinks m y) there = unlinked m y there
  standing_lives (Row.GiveFinds m y) there = giving m y there
  standing_lives (Row.Gives m y) there = giving m y there
  standing_lives (Row.HandsOn m y is) there = waking m y there
  standing_lives (Row.LooksBack m y is) there = waking m y there
  standing_lives (Row.WakesOne m y is) there = waking m y there
  standing_lives (Row.Trims m is) there = in_call _ _ there
  standing_lives (Row.WaitSets m k n timed) there = at_words _ _ there
  standing_lives (Row.WaitSleeps m k n timed) there = at_words _ _ there
  standing_lives (Row.WaitAsleep m k n timed) there = retaking k _ there.0
  standing_lives (Row.WaitLate m k n) there = retaking k _ there
  standing_lives (Row.CountWakes m k n) there = at_words _ _ there
  standing_lives (Row.AllMarks m k n) (seen, same, there) = at_words _ _ there
  standing_lives (Row.AllMoves m k n) (seen, same, there) = at_words _ _ there
  standing_lives r is = ap is_alive is
