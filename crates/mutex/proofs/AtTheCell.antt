-- A call at its mutex's cell keeps its thread's list.
use Rattle.std.proofs.Common.{◌≡◌, ◌≢◌, ◌⊎◌, inl, inr, ℕ, ◌+◌, ◌<◌, ◌==◌, Bool, true, false, not, Option, Some, None, List, refl, sym, ap, ◌∙◌, subst, arith}
use Rattle.std.specs.Prelude.{◌&&◌, if◌then◌else◌}
use mathlib.Core.Logic.{dite}
use native.Mathlib.Decide.{ℕ_discrete}
use Rattle.lockword.specs.declared.reply.Reply.{Reply}
use Rattle.lockword.specs.Cells.{Fields, fields_of}
use Rattle.lockword.specs.declared.reply.Reply.TheVariants.{OK, EPERM, EINVAL, EFAULT, EDEADLK, EBUSY, EOWNERDEAD, ENOTRECOVERABLE, XRACED}
use Rattle.memorymap.specs.Chains.{IsChainBothWays}
use Rattle.memorymap.specs.Layouts.{Layout', head_place, cell_place, address_in}
use Rattle.stepprograms.specs.declared.access.Answer.{Answer}
use Rattle.stepprograms.specs.declared.access.Answer.TheVariants.{Value, Exchanged, Changed, Again, Woken, Count, Trimmed}
use Rattle.posixmutex.specs.declared.point.Operation.{Operation}
use Rattle.posixmutex.specs.declared.point.Operation.TheVariants as operation
use Rattle.robustlist.specs.Link.{link_started}
use Rattle.robustlist.proofs.Links as links
use Rattle.mutex.specs.declared.lock.LockRow.{LockRow}
use Rattle.mutex.specs.declared.try_lock.TryLockRow.{TryLockRow}
use Rattle.mutex.specs.declared.consistent.ConsistentRow.{ConsistentRow}
use Rattle.mutex.specs.declared.row.Row.{Row}
use Rattle.mutex.specs.declared.row.Row.TheVariants as row
use Rattle.mutex.specs.declared.row.Led.{Led}
use Rattle.mutex.specs.declared.unlock.UnlockRow.TheVariants as unlock
use Rattle.mutex.specs.declared.phase.Phase.{Phase}
use Rattle.mutex.specs.declared.phase.Phase.TheVariants.{AtCell, Linking, Clearing}
use Rattle.mutex.specs.Rows.{IsGoing, Knows, goes, decides, ends}
use Rattle.mutex.specs.Lock.{lock_resume, lock_sees, after_loss}
use Rattle.mutex.specs.TryLock.{try_resume, try_sees}
use Rattle.mutex.specs.Unlock.{unlock_resume}
use Rattle.mutex.specs.Consistent.{consistent_resume}
use Rattle.mutex.specs.Laws.{IsOf}
use Rattle.mutex.specs.Programs.{row_operation, resume_of}
use Rattle.mutex.specs.Standings.{Whole}
use Rattle.mutex.specs.Whole.{leaving, after_cell, pending_place}
use Rattle.mutex.specs.WholeLists.{head_in, entry_in, IsOwnPlace, Entries, HasList, left_out, KeepsList, Arrives, IsThere, OwnsAt, Owns, owns_after, AgreeOnOwn, pending_at_row}
use Rattle.mutex.proofs.Wholes.{goes_on}
use Rattle.mutex.proofs.Addresses.{head_further}
use Rattle.mutex.proofs.OwnPlaces.{Links, list_links, linked_own, both_same, lies_apart}

-- ---- entries, when a mutex comes or goes

abbrev out_of : ℕ → Bool → Option ℕ
out_of m true = Some m
out_of m false = None

not_other : (m k : ℕ) (b : Bool) → k ≢ m → out_of m b ≢ Some k
not_other m k true other e = other (sym (cc e))
not_other m k false other e = cc e

is_in : (m : ℕ) (b : Bool) → out_of m b ≢ Some m → b ≡ false
is_in m true apart = absurd (apart refl)
is_in m false apart = refl

both_true : (a b : Bool) → a ≡ true → b ≡ false → (a && not b) ≡ true
both_true a b e f = grind (arith)

true_both : (a b : Bool) → (a && not b) ≡ true → (a ≡ true) × (b ≡ false)
true_both true true e = absurd (cc e)
true_both true false e = (refl, refl)
true_both false b e = absurd (cc e)

module _ (l : Layout') (t : ℕ) (owns owns' : ℕ → Bool) (m : ℕ) (elsewhere : (k : ℕ) → k ≢ m → owns' k ≡ owns k) where
  pub entries_then : (b b' : Bool) (es : List ℕ) → Entries l t owns (out_of m b) es → (owns m && not b) ≡ (owns' m && not b') → Entries l t owns' (out_of m b') es
  entries_then b b' es owned same = record {
    each = λ x among.
        let e = owned.each x among in
        dite (ℕ_discrete e.0 m)
        (λ here.
        let listed = true_both (owns' m) b' (sym same ∙ both_true (owns m) b (ap owns (sym here) ∙ e.3) (is_in m b (λ f. e.4 (f ∙ ap Some (sym here))))) in
        (m, subst (λ (z : ℕ). z < l.mutexes) here e.1, e.2 ∙ ap (entry_in l t) here, listed.0, λ f. absurd (cc (sym (ap (out_of m) listed.1) ∙ f))))
        (λ other. (e.0, e.1, e.2, elsewhere e.0 other ∙ e.3, not_other m e.0 b' other));
    all = λ k below own outside. dite (ℕ_discrete k m)
        (λ here.
        let listed = true_both (owns m) b (same ∙ both_true (owns' m) b' (ap owns' (sym here) ∙ own) (is_in m b' (λ f. outside (f ∙ ap Some (sym here))))) in
        owned.all k below (ap owns here ∙ listed.0) (λ f. absurd (cc (sym (ap (out_of m) listed.1) ∙ f))))
        (λ other. owned.all k below (sym (elsewhere k other) ∙ own) (not_other m k b other));
  }

-- ---- where calls that take go on

-- to their end with a point or after one that refused; or on, without having taken
abbrev Looks : Row → Option Reply → Type 0
Looks (row.Ended x) p = (p ≡ Some x) ⊎ ((x ≡ ENOTRECOVERABLE) × (p ≡ None)) ⊎ (x ≡ EFAULT)
Looks (row.Lock z) p = (p ≡ None) ⊎ (p ≡ Some ENOTRECOVERABLE)
Looks (row.TryLock z) p = p ≡ None
Looks q p = ⊥

abbrev Looks_in : Led → Type 0
Looks_in led = Looks led.row led.point

lost : (b : Bool) → Looks (if b then row.Lock LockRow.WakeAll else row.Ended ENOTRECOVERABLE) (Some ENOTRECOVERABLE)
lost true = inr refl
lost false = inl refl

abbrev lock_by : Bool → Bool → Bool → Bool → Fields → Led
lock_by u o f w c = if u then decides (after_loss c) ENOTRECOVERABLE else if o then ends EDEADLK else if f then goes (row.Lock (LockRow.Take c)) else if w then goes (row.Lock (LockRow.Sleep c)) else goes (row.Lock (LockRow.SetWaiters c))

lock_looks : (u o f w : Bool) (c : Fields) → Looks_in (lock_by u o f w c)
lock_looks true o f w c = lost c.waiters
lock_looks false true f w c = inl refl
lock_looks false false true w c = inl refl
lock_looks false false false true c = inl refl
lock_looks false false false false c = inl refl

lock_saw : (t : ℕ) (c : Fields) → Looks_in (lock_sees t c)
lock_saw t c = lock_looks c.unusable (c.owner == t) (c.owner == 0) c.waiters c

lock_goes : (t : ℕ) (z : LockRow) (a : Answer) → Looks_in (lock_resume t z a)
lock_goes t LockRow.Load (Value w) = lock_saw t (fields_of w)
lock_goes t (LockRow.Take c) Exchanged = inl refl
lock_goes t (LockRow.Take c) (Changed w) = lock_saw t (fields_of w)
lock_goes t (LockRow.SetWaiters c) Exchanged = inl refl
lock_goes t (LockRow.SetWaiters c) (Changed w) = lock_saw t (fields_of w)
lock_goes t (LockRow.Sleep c) Again = inl refl
lock_goes t (LockRow.Sleep c) Woken = inl refl
lock_goes t LockRow.WakeAll (Count n) = inr (inl (refl, refl))
lock_goes t z a = inr (inr refl)

abbrev try_by : Bool → Bool → Bool → ℕ → Fields → Led
try_by u f r n c = if u then ends ENOTRECOVERABLE else if not f then ends EBUSY else if r then ends XRACED else goes (row.TryLock (TryLockRow.Take c n))

try_looks : (u f r : Bool) (n : ℕ) (c : Fields) → Looks_in (try_by u f r n c)
try_looks true f r n c = inl refl
try_looks false false r n c = inl refl
try_looks false true true n c = inl refl
try_looks false true false n c = refl

try_saw : (n : ℕ) (c : Fields) → Looks_in (try_sees n c)
try_saw n c = try_looks c.unusable (c.owner == 0) (n == 4) n c

try_goes : (z : TryLockRow) (a : Answer) → Looks_in (try_resume z a)
try_goes TryLockRow.Load (Value w) = try_saw 0 (fields_of w)
try_goes (TryLockRow.Take c n) Exchanged = inl refl
try_goes (TryLockRow.Take c n) (Changed w) = try_saw (n + 1) (fields_of w)
try_goes z a = inr (inr refl)

-- what their end is
abbrev Leaves : Whole → Operation → Reply → Type 0
Leaves p op x = (((x ≡ OK) ⊎ (x ≡ EOWNERDEAD)) × (leaving p op x ≡ Linking (link_started p.head p.entry) x) × ((b : Bool) → owns_after b op (Some x) ≡ true)) ⊎ ((x ≡ EFAULT) ⊎ ((leaving p op x ≡ Clearing x) × ((b : Bool) → owns_after b op (Some x) ≡ b)))

leaves_lock : (p : Whole) (x : Reply) → Leaves p operation.Lock x
leaves_lock p OK = inl (inl refl, refl, λ b. refl)
leaves_lock p EOWNERDEAD = inl (inr refl, refl, λ b. refl)
leaves_lock p EFAULT = inr (inl refl)
leaves_lock p x = inr (inr (refl, λ b. refl))

leaves_try : (p : Whole) (x : Reply) → Leaves p operation.TryLock x
leaves_try p OK = inl (inl refl, refl, λ b. refl)
leaves_try p EOWNERDEAD = inl (inr refl, refl, λ b. refl)
leaves_try p EFAULT = inr (inl refl)
leaves_try p x = inr (inr (refl, λ b. refl))

pointless : (own : Bool) (op : Operation) → owns_after own op None ≡ own
pointless own op = grind (arith)

never : (own : Bool) → (own && not true) ≡ (false && true)
never true = refl
never false = refl

-- ---- where an unlock goes on, and a declaration

abbrev LoadLeads : Led → Type 0
LoadLeads led = ((d : Bool) × (led.row ≡ row.Unlock (unlock.Release d)) × (led.point ≡ None)) ⊎ (((led.row ≡ row.Ended EPERM) × (led.point ≡ Some EPERM)) ⊎ (led.row ≡ row.Ended EFAULT))

abbrev FreeLeads : Bool → Led → Type 0
FreeLeads d led = ((led.point ≡ Some OK) × ((led.row ≡ row.Unlock (unlock.Wake d)) ⊎ (led.row ≡ row.Ended OK))) ⊎ (led.row ≡ row.Ended EFAULT)

abbrev WakeLeads : Led → Type 0
WakeLeads led = ((led.point ≡ None) × ((led.row ≡ row.Unlock unlock.Trim) ⊎ (led.row ≡ row.Ended OK))) ⊎ (led.row ≡ row.Ended EFAULT)

abbrev DeclareLeads : Led → Type 0
DeclareLeads led = ((z : ConsistentRow) × (led.row ≡ row.Consistent z) × (led.point ≡ None)) ⊎ (((x : Reply) × (led.row ≡ row.Ended x) × (led.point ≡ Some x)) ⊎ (led.row ≡ row.Ended EFAULT))

load_saw : (own : Bool) (c : Fields) → LoadLeads (if own then goes (row.Unlock (unlock.Release c.died)) else ends EPERM)
load_saw true c = inl (c.died, refl, refl)
load_saw false c = inr (inl (refl, refl))

load_leads : (t : ℕ) (a : Answer) → LoadLeads (unlock_resume t unlock.Load a)
load_leads t (Value w) = load_saw ((fields_of w).owner == t) (fields_of w)
load_leads t a = inr (inr refl)

free_saw : (d waits : Bool) → FreeLeads d (decides (if waits then row.Unlock (unlock.Wake d) else row.Ended OK) OK)
free_saw d true = inl (refl, inl refl)
free_saw d false = inl (refl, inr refl)

free_leads : (t : ℕ) (d : Bool) (a : Answer) → FreeLeads d (unlock_resume t (unlock.Release d) a)
free_leads t d (Value w) = free_saw d (fields_of w).waiters
free_leads t d a = inr refl

wake_saw : (nobody : Bool) → WakeLeads (goes (if nobody then row.Unlock unlock.Trim else row.Ended OK))
wake_saw true = inl (refl, inl refl)
wake_saw false = inl (refl, inr refl)

wake_leads : (t : ℕ) (all : Bool) (a : Answer) → WakeLeads (unlock_resume t (unlock.Wake all) a)
wake_leads t all (Count n) = wake_saw (not all && (n == 0))
wake_leads t all a = inr refl

trim_leads : (t : ℕ) (a : Answer) → WakeLeads (unlock_resume t unlock.Trim a)
trim_leads t (Trimmed done) = inl (refl, inr refl)
trim_leads t a = inr refl

declare_saw : (own died : Bool) → DeclareLeads (if not own then ends EPERM else if died then goes (row.Consistent ConsistentRow.Declare) else ends EINVAL)
declare_saw false died = inr (inl (EPERM, refl, refl))
declare_saw true true = inl (ConsistentRow.Declare, refl, refl)
declare_saw true false = inr (inl (EINVAL, refl, refl))

declare_leads : (t : ℕ) (z : ConsistentRow) (a : Answer) → DeclareLeads (consistent_resume t z a)
declare_leads t ConsistentRow.Load (Value w) = declare_saw ((fields_of w).owner == t) (fields_of w).died
declare_leads t ConsistentRow.Declare (Value w) = inr (inl (OK, refl, refl))
declare_leads t z a = inr (inr refl)

-- ---- a call of thread t on mutex m, whose access at the cell led there

module _ (l : Layout') (t m : ℕ) (is : IsThere l t m) (op : Operation) (owns owns' : ℕ → Bool) (led : Led) (o : Owns m op led owns owns') (w w' : ℕ → ℕ) (agree : AgreeOnOwn l t owns owns' w w') (es : List ℕ) (b : Bool) (owned : Entries l t owns (out_of m b) es) (chain : IsChainBothWays w (head_in l t) es) where
  abbrev head : ℕ
  head = head_in l t

  abbrev entry : ℕ
  entry = entry_in l t m

  abbrev pend : ℕ
  pend = pending_place head

  abbrev call : Phase → Whole
  call f = record { thread = t; operation = op; head = head; entry = entry; cell = address_in l t (cell_place l m); phase = f }

  -- its words are the same at the list's places
  same_word : (y : ℕ) → Links l t owns y → Links l t owns' y → w' y ≡ w y
  same_word y x x' =
      let at : x'.place ≡ x.place = sym x'.met ∙ x.met in
      subst (λ (z : ℕ). w' z ≡ w z) (sym x.from) (agree x.place (linked_own l t owns is.layout is.first is.last x.place x.linked) (subst (IsOwnPlace l t owns') at (linked_own l t owns' is.layout is.first is.last x'.place x'.linked)))

  pend_same : w' pend ≡ w pend
  pend_same = subst (λ (z : ℕ). w' z ≡ w z) (sym (head_further l t is.layout is.first is.last 2 (omega arith))) (agree (head_place t + 2) (inr (inl refl)) (inr (inl refl)))

  owned_then : (b' : Bool) → (owns m && not b) ≡ (owns' m && not b') → Entries l t owns' (out_of m b') es
  owned_then b' same = entries_then l t owns owns' m o.elsewhere b b' es owned same

  chain_then : (b' : Bool) → Entries l t owns' (out_of m b') es → IsChainBothWays w' head es
  chain_then b' owned' = both_same w w' head es (λ y on. same_word y (list_links l t owns is.layout is.first is.last (out_of m b) es y owned on) (list_links l t owns' is.layout is.first is.last (out_of m b') es y owned' on)) chain

  -- it goes on at the cell
  stays_at : (q : Row) (e : ℕ) → IsGoing q → Knows q → row_operation q ≡ op → OwnsAt (owns' m) q → left_out m (AtCell q) ≡ None → pending_at_row entry q ≡ e → w pend ≡ e → (owns m && not b) ≡ (owns' m && true) → KeepsList l t owns' m op (AtCell q) w'
  stays_at q e going knows of own out pending was same =
      let owned' = owned_then false same in
      record { knows = (going, knows); stands = (own, of); entries = es; owned = subst (λ (z : Option ℕ). Entries l t owns' z es) (sym out) owned'; chain = chain_then false owned'; pending = pend_same ∙ was ∙ sym pending }

  -- it has its entry to clear
  clears_then : (x : Reply) → w pend ≡ entry → (owns m && not b) ≡ (owns' m && true) → KeepsList l t owns' m op (Clearing x) w'
  clears_then x was same =
      let owned' = owned_then false same in
      record { knows = tt; stands = tt; entries = es; owned = owned'; chain = chain_then false owned'; pending = pend_same ∙ was }

  -- it is over
  ends_then : w pend ≡ 0 → (owns m && not b) ≡ (owns' m && true) → HasList l t owns' w'
  ends_then was same =
      let owned' = owned_then false same in
      record { entries = es; owned = owned'; chain = chain_then false owned'; pending = pend_same ∙ was }

  -- it has taken the mutex
  takes_then : (x : Reply) → w pend ≡ entry → owns m ≡ false → owns' m ≡ true → KeepsList l t owns' m op (Linking (link_started head entry) x) w'
  takes_then x was free own =
      let owned' = owned_then true (ap (λ (z : Bool). z && not b) free ∙ sym (ap (λ (z : Bool). z && false) own)) in
      record {
        knows = tt;
        stands = (refl, refl, own);
        entries = es;
        owned = owned';
        chain = links.right.begins head entry es w' (chain_then true owned') (lies_apart l t m es is.layout is.first is.last is.mutex (λ y among. let e = owned'.each y among in (e.0, e.1, e.2, λ same. e.4 (ap Some (sym same)))));
        pending = pend_same ∙ was;
      }

  -- it owns the mutex as it did
  as_owned : owns' m ≡ owns m → b ≡ false → (owns m && not b) ≡ (owns' m && true)
  as_owned e kept = ap (λ (z : Bool). owns m && not z) kept ∙ ap (λ (z : Bool). z && true) (sym e)

  -- it has released it
  gone : led.point ≡ Some OK → b ≡ true → op ≡ operation.Unlock → (owns m && not b) ≡ (owns' m && true)
  gone freed out unlocks = ap (λ (z : Bool). owns m && not z) out ∙ never (owns m) ∙ ap (λ (z : Bool). z && true) (sym (o.here ∙ ap (owns_after (owns m) op) freed ∙ ap (λ (z : Operation). owns_after (owns m) z (Some OK)) unlocks))

  -- the end of a call that takes
  leaves_then : (f : Phase) (x : Reply) → Leaves (call f) op x → b ≡ false → w pend ≡ entry → led.row ≡ row.Ended x → Looks (row.Ended x) led.point → Arrives l t owns' m op (leaving (call f) op x) w'
  leaves_then f x (inl (taken, to, own)) kept was at looks = subst (λ (g : Phase). Arrives l t owns' m op g w') (sym to) (takes_then x was (o.took x (by_point taken looks) (own false)) (o.here ∙ ap (owns_after (owns m) op) (by_point taken looks) ∙ own (owns m)))
    where
      by_point : (x ≡ OK) ⊎ (x ≡ EOWNERDEAD) → Looks (row.Ended x) led.point → led.point ≡ Some x
      by_point taken (inl is) = is
      by_point (inl ok) (inr (inl (lost, none))) = absurd (cc (sym ok ∙ lost))
      by_point (inr died) (inr (inl (lost, none))) = absurd (cc (sym died ∙ lost))
      by_point taken (inr (inr fault)) = absurd (o.faultless (at ∙ ap row.Ended fault))
  leaves_then f x (inr (inl fault)) kept was at looks = absurd (o.faultless (at ∙ ap row.Ended fault))
  leaves_then f x (inr (inr (to, own))) kept was at looks = subst (λ (g : Phase). Arrives l t owns' m op g w') (sym to) (clears_then x was (same looks))
    where
      here_same : owns' m ≡ owns m → (owns m && not b) ≡ (owns' m && true)
      here_same e = as_owned e kept

      same : Looks (row.Ended x) led.point → (owns m && not b) ≡ (owns' m && true)
      same (inl is) = here_same (o.here ∙ ap (owns_after (owns m) op) is ∙ own (owns m))
      same (inr (inl (lost, none))) = here_same (o.here ∙ ap (owns_after (owns m) op) none ∙ pointless (owns m) op)
      same (inr (inr fault)) = absurd (o.faultless (at ∙ ap row.Ended fault))

  -- a call that takes goes on, or is over
  module _ (leaves : (f : Phase) (x : Reply) → Leaves (call f) op x) (refused : (own : Bool) → owns_after own op (Some ENOTRECOVERABLE) ≡ own) (f : Phase) (kept : b ≡ false) (was : w pend ≡ entry) where
    taking : (q : Row) → led.row ≡ q → Looks q led.point → Knows q → IsOf op q → Arrives l t owns' m op (after_cell (call f) q) w'
    taking (row.Ended x) at looks knows of = leaves_then f x (leaves f x) kept was at looks
    taking (row.Lock z) at (inl none) knows of = stays_at (row.Lock z) entry tt knows of tt refl refl was (as_owned (o.here ∙ ap (owns_after (owns m) op) none ∙ pointless (owns m) op) kept)
    taking (row.Lock z) at (inr lost) knows of = stays_at (row.Lock z) entry tt knows of tt refl refl was (as_owned (o.here ∙ ap (owns_after (owns m) op) lost ∙ refused (owns m)) kept)
    taking (row.TryLock z) at none knows of = stays_at (row.TryLock z) entry tt knows of tt refl refl was (as_owned (o.here ∙ ap (owns_after (owns m) op) none ∙ pointless (owns m) op) kept)
    taking q at looks knows of = absurd looks

  -- without a point nothing comes or goes
  without_point : led.point ≡ None → b ≡ false → (owns m && not b) ≡ (owns' m && true)
  without_point none kept = as_owned (o.here ∙ ap (owns_after (owns m) op) none ∙ pointless (owns m) op) kept

  module _ (f : Phase) where
    -- an unlock that has looked at its cell
    looked : op ≡ operation.Unlock → LoadLeads led → b ≡ false → w pend ≡ 0 → Arrives l t owns' m op (after_cell (call f) led.row) w'
    looked unlocks (inl (d, at, none)) kept was =
        let owned' = owned_then false (without_point none kept) in
        let own : owns m ≡ true = subst (OwnsAt (owns m)) at o.releases in
        subst (λ (q : Row). Arrives l t owns' m op (after_cell (call f) q) w') (sym at) record {
          knows = (tt, tt);
          stands = (tt, o.here ∙ ap (owns_after (owns m) op) none ∙ pointless (owns m) op ∙ own, sym unlocks);
          entries = es;
          owned = owned';
          chain = chain_then false owned';
          pending = pend_same ∙ was;
        }
    looked unlocks (inr (inl (at, refused))) kept was =
        subst (λ (q : Row). Arrives l t owns' m op (after_cell (call f) q) w') (sym at)
        (subst (λ (z : Operation). Arrives l t owns' m op (leaving (call f) z EPERM) w') (sym unlocks)
        (ends_then was (as_owned (o.here ∙ ap (owns_after (owns m) op) refused ∙ ap (λ (z : Operation). owns_after (owns m) z (Some EPERM)) unlocks) kept)))
    looked unlocks (inr (inr fault)) kept was = absurd (o.faultless fault)

    -- one that is over at its cell
    unlocked : op ≡ operation.Unlock → w pend ≡ entry → (owns m && not b) ≡ (owns' m && true) → Arrives l t owns' m op (leaving (call f) op OK) w'
    unlocked unlocks was same = subst (λ (z : Operation). Arrives l t owns' m op (leaving (call f) z OK) w') (sym unlocks) (clears_then OK was same)

    -- one that has released its mutex
    released : op ≡ operation.Unlock → (d : Bool) → FreeLeads d led → b ≡ true → w pend ≡ entry → Arrives l t owns' m op (after_cell (call f) led.row) w'
    released unlocks d (inr fault) kept was = absurd (o.faultless fault)
    released unlocks d (inl (freed, inl at)) kept was = subst (λ (q : Row). Arrives l t owns' m op (after_cell (call f) q) w') (sym at) (stays_at (row.Unlock (unlock.Wake d)) entry tt tt (sym unlocks) tt refl refl was (gone freed kept unlocks))
    released unlocks d (inl (freed, inr at)) kept was = subst (λ (q : Row). Arrives l t owns' m op (after_cell (call f) q) w') (sym at) (unlocked unlocks was (gone freed kept unlocks))

    -- one that has woken somebody, or found nobody
    woken : op ≡ operation.Unlock → WakeLeads led → b ≡ false → w pend ≡ entry → Arrives l t owns' m op (after_cell (call f) led.row) w'
    woken unlocks (inr fault) kept was = absurd (o.faultless fault)
    woken unlocks (inl (none, inl at)) kept was = subst (λ (q : Row). Arrives l t owns' m op (after_cell (call f) q) w') (sym at) (stays_at (row.Unlock unlock.Trim) entry tt tt (sym unlocks) tt refl refl was (without_point none kept))
    woken unlocks (inl (none, inr at)) kept was = subst (λ (q : Row). Arrives l t owns' m op (after_cell (call f) q) w') (sym at) (unlocked unlocks was (without_point none kept))

    -- a declaration
    declared : op ≡ operation.Consistent → DeclareLeads led → Knows led.row → b ≡ false → w pend ≡ 0 → Arrives l t owns' m op (after_cell (call f) led.row) w'
    declared declares (inl (z, at, none)) knows kept was = subst (λ (q : Row). Arrives l t owns' m op (after_cell (call f) q) w') (sym at) (stays_at (row.Consistent z) 0 tt tt (sym declares) tt refl refl was (without_point none kept))
    declared declares (inr (inl (x, at, told))) knows kept was =
        subst (λ (q : Row). Arrives l t owns' m op (after_cell (call f) q) w') (sym at)
        (subst (λ (z : Operation). Arrives l t owns' m op (leaving (call f) z x) w') (sym declares)
        (over x (ends_then was (as_owned (o.here ∙ ap (owns_after (owns m) op) told ∙ ap (λ (z : Operation). owns_after (owns m) z (Some x)) declares) kept))))
      where
        over : (x : Reply) → HasList l t owns' w' → Arrives l t owns' m op (leaving (call f) operation.Consistent x) w'
        over EFAULT h = h
        over x h = h
    declared declares (inr (inr fault)) knows kept was = absurd (o.faultless fault)

-- ---- each row

module _ (l : Layout') (t m : ℕ) (is : IsThere l t m) (op : Operation) (owns owns' : ℕ → Bool) (a : Answer) (w w' : ℕ → ℕ) (agree : AgreeOnOwn l t owns owns' w w') (f : Phase) where
  abbrev of_op : Operation → Whole
  of_op z = record { thread = t; operation = z; head = head_in l t; entry = entry_in l t m; cell = address_in l t (cell_place l m); phase = f }

  pub by_row : (r : Row) → KeepsList l t owns m op (AtCell r) w → Owns m op (resume_of t r a) owns owns' → Arrives l t owns' m op (after_cell (of_op op) (resume_of t r a).row) w'
  by_row (row.Lock z) k o =
      let on = goes_on t (row.Lock z) a is.first k.knows.1 in
      taking l t m is op owns owns' (lock_resume t z a) o w w' agree k.entries false k.owned k.chain (λ g x. subst (λ (y : Operation). Leaves (record (of_op y) { phase = g }) y x) k.stands.1 (leaves_lock (record (of_op operation.Lock) { phase = g }) x))
      (λ own. ap (λ (y : Operation). owns_after own y (Some ENOTRECOVERABLE)) (sym k.stands.1)) f refl k.pending (lock_resume t z a).row refl (lock_goes t z a) on.0 (subst (λ (y : Operation). IsOf y (lock_resume t z a).row) k.stands.1 on.1)
  by_row (row.TryLock z) k o =
      let on = goes_on t (row.TryLock z) a is.first k.knows.1 in
      taking l t m is op owns owns' (try_resume z a) o w w' agree k.entries false k.owned k.chain (λ g x. subst (λ (y : Operation). Leaves (record (of_op y) { phase = g }) y x) k.stands.1 (leaves_try (record (of_op operation.TryLock) { phase = g }) x))
      (λ own. ap (λ (y : Operation). owns_after own y (Some ENOTRECOVERABLE)) (sym k.stands.1)) f refl k.pending (try_resume z a).row refl (try_goes z a) on.0 (subst (λ (y : Operation). IsOf y (try_resume z a).row) k.stands.1 on.1)
  by_row (row.Unlock unlock.Load) k o = looked l t m is op owns owns' (unlock_resume t unlock.Load a) o w w' agree k.entries false k.owned k.chain f (sym k.stands.1) (load_leads t a) refl k.pending
  by_row (row.Unlock (unlock.Release d)) k o = released l t m is op owns owns' (unlock_resume t (unlock.Release d) a) o w w' agree k.entries true k.owned k.chain f (sym k.stands.1) d (free_leads t d a) refl k.pending
  by_row (row.Unlock (unlock.Wake all)) k o = woken l t m is op owns owns' (unlock_resume t (unlock.Wake all) a) o w w' agree k.entries false k.owned k.chain f (sym k.stands.1) (wake_leads t all a) refl k.pending
  by_row (row.Unlock unlock.Trim) k o = woken l t m is op owns owns' (unlock_resume t unlock.Trim a) o w w' agree k.entries false k.owned k.chain f (sym k.stands.1) (trim_leads t a) refl k.pending
  by_row (row.Consistent z) k o = declared l t m is op owns owns' (consistent_resume t z a) o w w' agree k.entries false k.owned k.chain f (sym k.stands.1) (declare_leads t z a) (goes_on t (row.Consistent z) a is.first k.knows.1).0 refl k.pending
  by_row (row.Ended x) k o = absurd k.knows.0
