-- In any run, nobody sleeps on a condition variable any more when its broadcast returns.
use Rattle.std.proofs.Common.{◌≡◌, inl, inr, ℕ, ◌/◌, ◌+◌, ◌%◌, ◌<◌, ◌≤◌, ◌==◌, Bool, true, false, Some, [], ◌∷◌, length, refl, sym, ap, ◌∙◌, subst, arith, eq-eqb}
use Rattle.std.specs.Prelude.{if◌then◌else◌, not, ◌&&◌}
use Rattle.lockword.specs.Cells.{bit, fields_of}
use Rattle.lockword.specs.declared.reply.Reply.TheVariants.{OK, EPERM}
use Rattle.memorymap.specs.Layouts.{Layout', cell_place, counter_place}
use Rattle.protocol.proofs.Events.{is_known}
use Rattle.protocol.proofs.Puts.{put-same}
use Rattle.slots.specs.Places.{cell_of}
use Rattle.slots.specs.Rows.{Choice, Giving, Row}
use Rattle.slots.specs.Rows.Giving.{OfUnlock, OfWait}
use Rattle.slots.specs.Shown.{Slots, begin, shown}
use Rattle.slots.specs.Table.{Made, counted, counted_row, made, shows_slept}
use Rattle.slots.specs.Runs.{is_resting, made_by, next, reached, slept_after}
use Rattle.slots.specs.Runs.Happening.{Goes}
use Rattle.slots.specs.Fits.{AreOfUs, Fits}
use Rattle.slots.specs.Premises.{SeesCount}
use Rattle.slots.specs.Replies.{Progress, after_deed, counts_as, decided, replied, reply}
use Rattle.slots.specs.Replies.Deed.{Nothing, Decides}
use Rattle.slots.specs.Conditions.{BroadcastsReachAll}
use Rattle.slots.specs.Outcomes.{call_so_far, count_of}
use Rattle.slots.proofs.CountersKept.{count_at}
use Rattle.slots.proofs.Following.{begins_steady, layout_then, steady_next, steady_run}
use Rattle.slots.proofs.Origins.{AsBegun, From, Origin, giving_origin, origin}
use Rattle.slots.proofs.Outcomes.{Tells, begun_in}
use Rattle.slots.proofs.Sleeping.{counter_shows}
use Rattle.slots.proofs.Steady.{Steady}

-- a call that isn't a broadcast has begun otherwise
abbrev is_other : Origin → Bool
is_other Origin.Other = true
is_other (Origin.Lock h timed) = true
is_other (Origin.Wait k timed) = true
is_other o = false

not_so : (m k : ℕ) (o : Origin) → is_other o ≡ true → From o (Row.CountLooks m k true) → ⊥
not_so m k Origin.Other e f = cc f
not_so m k (Origin.Lock h timed) e f = cc f.0
not_so m k (Origin.Wait i timed) e f = f
not_so m k o e f = cc e

gives_not : (m k : ℕ) (y : Giving) → From (giving_origin y) (Row.CountLooks m k true) → ⊥
gives_not m k (OfUnlock d) f = cc f
gives_not m k (OfWait i n slept timed) f = f

module _ (x : Slots) (t : ℕ) (c : Choice) (m k : ℕ) (st : Steady x) (p : Bool) (T : ℕ → ℕ → Type 0) where
  abbrev Began : Row → Type 0
  Began r = AsBegun (Row.CountLooks m k true) p T r

  -- SLEPT isn't set afterwards
  abbrev Off : Row → Type 0
  Off r = (slept_after r x.slept k ≡ false) × (k < length x.machine.layout.conditions)

  off_so : (j i n : ℕ) → AreOfUs x.machine.layout j i → shown x (counter_place x.machine.layout i) ≡ n → shows_slept x t c n ≡ false → x.slept i ≡ false
  off_so j i n o sees off = go (x.slept i) (ap (λ (w : ℕ). w / 4294967296 == 1) (sym (counter_shows x i o.cell.inside) ∙ sees) ∙ off)
    where
      most : count_at x i ≤ 4294967295
      most = st.counts.most i o.cell.inside

      go : (b : Bool) → ((count_at x i + bit b 4294967296) / 4294967296 == 1) ≡ false → b ≡ false
      go false e = refl
      go true e = let few : count_at x i ≤ 4294967295 = most in let is : (count_at x i + 4294967296) / 4294967296 ≡ 1 = omega (arith, few) in absurd (cc (sym e ∙ eq-eqb ((count_at x i + 4294967296) / 4294967296) 1 is))

  inside_so : (j i : ℕ) → AreOfUs x.machine.layout j i → k ≡ i → k < length x.machine.layout.conditions
  inside_so j i o same = subst (λ (h : ℕ). h < length x.machine.layout.conditions) (sym same) o.cell.inside

  counts_off : (j i n : ℕ) (all : Bool) → AreOfUs x.machine.layout j i → shown x (counter_place x.machine.layout i) ≡ n → k ≡ i → (b : Bool) → shows_slept x t c n ≡ b → is_resting (counted_row x t c j i all b (counted x t c n % 4294967296)) ≡ true → x.slept k ≡ false
  counts_off j i n all o sees same false off rests = ap x.slept same ∙ off_so j i n o sees off
  counts_off j i n true o sees same true off rests = absurd cc
  counts_off j i n false o sees same true off rests = absurd cc

  emptied_row : (r : Row) → Fits x.machine.layout t r (x.machine.threads t).stage → SeesCount x r → Began r → is_resting r ≡ false → is_resting (made x t c r).next ≡ true → reply x t c r ≡ Some OK → Off r
  emptied_row Row.Rests o sees f busy rests ok = absurd cc
  emptied_row (Row.Unsets j i n) o sees f busy rests ok = (ap (slept_after (Row.Unsets j i n) x.slept) f ∙ put-same x.slept i false, inside_so j i o f)
  emptied_row (Row.Counts j i all n) o sees f busy rests ok = (counts_off j i n all o sees f.0 (shows_slept x t c n) refl rests, inside_so j i o f.0)
  emptied_row (Row.CountLooks j i all) o sees f busy rests ok = absurd (go ((fields_of (shown x (cell_place x.machine.layout (cell_of j)))).owner == t) _ _ refl rests ok)
    where
      go : (b : Bool) (n n' : Made) → n.next ≡ Row.CountLoads j i all → is_resting (if b then n else n').next ≡ true → replied (x.overdue t) (after_deed (Progress.Called (counts_as all)) (if b then Nothing else Decides (decided t j (counts_as all) EPERM))) ≡ Some OK → ⊥
      go true n n' loads rests ok = cc (sym (ap is_resting loads) ∙ rests)
      go false n n' loads rests ok = cc ok
  emptied_row (Row.CountLoads j i all) o sees f busy rests ok = absurd cc
  emptied_row (Row.CountWakes j i n) o sees f busy rests ok = absurd (cc f.1)
  emptied_row (Row.AllMarks j i n) o sees f busy rests ok = absurd cc
  emptied_row (Row.AllMoves j i n) o sees f busy rests ok = absurd cc
  emptied_row (Row.GivePends j y) o sees f busy rests ok = absurd (gives_not m k y f)
  emptied_row (Row.GiveUnlinks j y) o sees f busy rests ok = absurd (gives_not m k y f)
  emptied_row (Row.GiveFinds j y) o sees f busy rests ok = absurd (gives_not m k y f)
  emptied_row (Row.Gives j y) o sees f busy rests ok = absurd (gives_not m k y f)
  emptied_row (Row.HandsOn j (OfUnlock d) is) o sees f busy rests ok = absurd (cc f)
  emptied_row (Row.HandsOn j (OfWait i n slept timed) is) o sees f busy rests ok = absurd f.0
  emptied_row (Row.LooksBack j (OfUnlock d) is) o sees f busy rests ok = absurd (cc f)
  emptied_row (Row.LooksBack j (OfWait i n slept timed) is) o sees f busy rests ok = absurd f.0
  emptied_row (Row.WakesOne j (OfUnlock d) is) o sees f busy rests ok = absurd (cc f)
  emptied_row (Row.WakesOne j (OfWait i n slept timed) is) o sees f busy rests ok = absurd f.0
  emptied_row (Row.WaitSleeps j i n timed) o sees f busy rests ok = absurd f.0
  emptied_row (Row.WaitAsleep j i n true) o sees f busy rests ok = absurd f.0
  emptied_row (Row.WaitAsleep j i n false) o sees (inl f) busy rests ok = absurd f
  emptied_row (Row.WaitAsleep j i n false) o sees (inr f) busy rests ok = absurd (cc f.1)
  emptied_row (Row.WaitLate j i n) o sees f busy rests ok = absurd f.0
  emptied_row r o sees f busy rests ok = absurd (not_so m k (origin r) refl f)

pub broadcasts_reach : BroadcastsReachAll
broadcasts_reach l hs t c m k is pos known trusted ((first, last, w), more) lives awake began busy rests ok =
    let x : Slots = reached l hs in
    let st : Steady x = steady_run (begin l) hs (begins_steady l is) trusted in
    let same : x.machine.layout ≡ l = layout_then (begin l) hs (begins_steady l is) trusted in
    let here : t ≤ x.machine.layout.threads = subst (λ (j : Layout'). t ≤ j.threads) (sym same) known in
    let begun : AsBegun (Row.CountLooks m k true) (call_so_far l hs t).passed (Tells (count_of x) (call_so_far l hs t).signalled) (x.rows t) =
    subst (λ (b : Row). AsBegun b (call_so_far l hs t).passed (Tells (count_of x) (call_so_far l hs t).signalled) (x.rows t)) began (begun_in l hs t is pos known trusted busy) in
    let y : Slots = made_by x t c (made x t c (x.rows t)) in
    let goes : next x (Goes t c) ≡ y = ap (λ (b : Bool). if b then y else x) (λ i. is_known x.machine t pos here i && lives i && not (awake i)) in
    let st' : Steady (next x (Goes t c)) = steady_next x (Goes t c) st first last w in
    let laid : (next x (Goes t c)).machine.layout ≡ l = layout_then x (Goes t c ∷ []) st ((first, last, w), tt) ∙ same in
    let ends = emptied_row x t c m k st (call_so_far l hs t).passed (Tells (count_of x) (call_so_far l hs t).signalled) (x.rows t) (st.fits t pos here) (st.sees t pos here) begun busy rests ok in
    let off : (next x (Goes t c)).slept k ≡ false = ap (λ (z : Slots). z.slept k) goes ∙ ends.0 in
    let inside : k < length (next x (Goes t c)).machine.layout.conditions = subst (λ (j : Layout'). k < length j.conditions) (same ∙ sym laid) ends.1 in
    ap (λ (j : Layout'). (next x (Goes t c)).machine.queues (counter_place j k)) (sym laid) ∙ st'.empty k inside off
