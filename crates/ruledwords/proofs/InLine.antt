-- Locks and unlocks that nobody crosses, access by access.
use Rattle.std.proofs.Common.{◌≡◌, ◌≢◌, ℕ, ◌<◌, ◌≤◌, ◌==◌, Bool, true, false, not, Option, Some, None, Result, Ok, Err, List, refl, sym, ap, ◌∙◌, subst, arith, eqb-true}
use Rattle.std.specs.Prelude.{◌&&◌, nat_le, if◌then◌else◌}
use Rattle.std.proofs.lemmas.Bool.{eq-eqb, ne_eqb}
use Rattle.std.proofs.lemmas.Bool.Decides.{nat_tests}
use Rattle.std.specs.Result.{IsErrAnd}
use Rattle.lockword.specs.Cells.{Fields, fields_of, word_of}
use Rattle.lockword.specs.declared.reply.Reply.{Reply}
use Rattle.lockword.specs.declared.reply.Reply.TheVariants.{OK, EDEADLK, EOWNERDEAD, ENOTRECOVERABLE, EPERM, XHELD}
use Rattle.stepprograms.specs.declared.access.Answer.{Answer}
use Rattle.stepprograms.specs.declared.access.Answer.TheVariants.{Exchanged, Changed}
use Rattle.stepprograms.specs.Accesses.{answer_at}
use Rattle.posixmutex.specs.declared.point.Point.{Point}
use Rattle.posixmutex.specs.declared.point.Operation.{Operation}
use Rattle.posixmutex.specs.declared.point.Operation.TheVariants as operation
use Rattle.robustlist.specs.declared.link.LinkRow.{LinkRow}
use Rattle.robustlist.specs.declared.link.LinkRow.TheVariants as link
use Rattle.robustlist.specs.declared.unlink.UnlinkRow.{UnlinkRow}
use Rattle.robustlist.specs.declared.unlink.UnlinkRow.TheVariants as out
use Rattle.robustlist.specs.Link.{link_at}
use Rattle.robustlist.specs.Unlink.{unlink_at}
use Rattle.memorymap.specs.Layouts.{Layout', address_in, base_of, cell_place}
use Rattle.mutex.specs.declared.phase.Phase.{Phase}
use Rattle.mutex.specs.declared.phase.Phase.TheVariants as phase
use Rattle.mutex.specs.declared.row.Row.{Row}
use Rattle.mutex.specs.declared.row.Row.TheVariants as row
use Rattle.mutex.specs.declared.row.Led.{Led}
use Rattle.mutex.specs.declared.lock.LockRow.TheVariants as lock
use Rattle.mutex.specs.declared.unlock.UnlockRow.TheVariants as unlock
use Rattle.mutex.specs.Rows.{goes, decides, ends}
use Rattle.mutex.specs.Lock.{lock_sees, after_loss}
use Rattle.mutex.specs.Unlock.{unlock_sees}
use Rattle.mutex.specs.Calls.{mutex_of}
use Rattle.mutex.specs.declared.call.Call.{Call}
use Rattle.mutex.specs.declared.call.Call.TheVariants as call
use Rattle.mutex.specs.Standings.{Standing, Whole}
use Rattle.mutex.specs.Whole.{begins, from_cell, leaving, linked_at, progress_in, unlinked_at, whole_access, whole_led, whole_moved, whole_point, whole_started, IsUnderWay as IsInProgress, PhaseKnows}
use Rattle.atomic_table.specs.declared.shared.Seat.{Seat}
use Rattle.ruledwords.specs.declared.pass.Card.{Card}
use Rattle.ruledwords.specs.declared.pass.Words.{Words}
use Rattle.ruledwords.specs.declared.pass.Pass.{Pass}
use Rattle.ruledwords.specs.declared.pass.Dead.{Dead}
use Rattle.ruledwords.specs.declared.pass.Live.{Live}
use Rattle.ruledwords.specs.declared.step.End.{End}
use Rattle.ruledwords.specs.declared.step.End.TheVariants as end
use Rattle.ruledwords.specs.declared.uncrossed.Crossed.{Crossed}
use Rattle.ruledwords.specs.declared.uncrossed.Crossed.TheVariants as crossed
use Rattle.ruledwords.specs.declared.uncrossed.Line.{Line}
use Rattle.ruledwords.specs.Fates.{Heeds}
use Rattle.ruledwords.specs.Calls.{count_after, standing_of, IsOnMutex}
use Rattle.ruledwords.specs.Lists.{IsInCall, IsMortal}
use Rattle.ruledwords.specs.Passes.{card, layout_of, IsLive, IsPassOf}
use Rattle.ruledwords.specs.Releases.{IsReleasing}
use Rattle.ruledwords.specs.Rules.{card_of}
use Rattle.ruledwords.specs.Straight.{crossed_answer, crossed_call, crossed_phase, ComesAcross}
use Rattle.ruledwords.specs.Stretches.{ComesOn, ComesToEnd}
use Rattle.ruledwords.specs.Turns.{running_of, Advances, FindsWord, HasDied, IsAtCell, IsCallOf, IsIn, IsOneStep, stops_with, stops_within}
use Rattle.ruledwords.specs.InLine.{announcing_lock, announcing_release, is_free, line_of, is_held, linking, loading_lock, loading_unlock, releasing, stands, taking, led_to, told_in, unlinking, Leads, LeadsTo, RepliesOk}
use Rattle.ruledwords.proofs.Advancing.{found_at_cell, found_untrimmed, goes as advances, lives as returns}
use Rattle.ruledwords.proofs.Fates.{heeds_on}
use Rattle.ruledwords.proofs.Listing.{call_begins, mortal}
use Rattle.ruledwords.proofs.OwnTurns.{answered_untrimmed}
use Rattle.ruledwords.proofs.ReleaseSteps.{ends_alone, releases_begun, stays_on}
use Rattle.ruledwords.proofs.Turning.{begun, begun_ready, begun_room, begun_under_way, died_in, starts_so}
use Rattle.ruledwords.proofs.Stepping.{after, comes_further, Went}

-- the point that a progress tells is that of the access
pub told : (point : Option Point) (f : Phase) → told_in (progress_in point f) ≡ point
told point (phase.Announcing r) = refl
told point (phase.AtCell r) = refl
told point (phase.Linking l x) = refl
told point (phase.Unlinking u d) = refl
told point (phase.Clearing x) = refl
told point (phase.Ended x) = refl

-- ---- an access that a call comes to

pub comes_on : (w : Words) (a : Pass Live) (p : Whole) (b : Pass Live) (q : Whole) → IsCallOf w a p → IsOneStep (whole_access p) → Advances w a p b q None → ComesOn w a p b q
comes_on w a p b q of one adv = ((adv of).0, (λ x call is. let t = adv is.0 in (t.0, t.1.2 x call is.1)), (λ m e y is. let t = adv is.0 in (t.0, t.1.3 m e y is.1)), (λ x m is. stays_on w x m a p one is b q adv), let t = adv of in let turned = t.1.1 in answered_untrimmed (layout_of w) p p.phase (card a) (card b) turned.0 turned.1)

pub comes_to_end : (w : Words) (a : Pass Live) (p : Whole) (b : Pass Live) (q : Whole) (x : Reply) → IsCallOf w a p → IsOneStep (whole_access p) → Advances w a p b q (Some x) → ComesToEnd w a p b (end.Replied x)
comes_to_end w a p b q x of one adv = ((λ y call is. (adv is.0).2 y call is.1), (λ m e y is. (adv is.0).3 m e y is.1), (λ y m is. ends_alone w y m a p one is b x q adv), let t = adv of in let turned = t.1 in answered_untrimmed (layout_of w) p p.phase (card a) (card b) turned.0 turned.1)

-- one was made, and found this word
pub leads : (w : Words) (a : Pass Live) (p : Whole) → IsCallOf w a p → IsOneStep (whole_access p) → (s : Seat (Unit {0}) (List Card)) (n : ℕ) → FindsWord w a.seat s p n → (point : Option Point) → point ≡ whole_point p (whole_led p (answer_at (whole_access p) n)).point → (h : ℕ) → h ≡ count_after a.held point
    → (b : Pass Live) → b.seat.table_id ≡ a.seat.table_id → card b ≡ card_of s.me.0 → b.held ≡ h → Leads w a p b n
leads w a p of one s n finds point counted h had b table is holds =
    let q : Whole = led_to p n in
    let x : Answer = answer_at (whole_access p) n in
    record {
      goes = λ under. comes_on w a p b q of one (λ at. advances w a p at one s n finds (whole_access p) refl x refl q refl point counted h had b table is holds under);
      ends = λ y ended. comes_to_end w a p b q y of one (λ at. returns w a p at one s n finds (whole_access p) refl x refl q refl point counted h had b table is holds y ended);
      found = λ at. ap (λ (z : Card). z.last) is ∙ (found_at_cell (layout_of w) p p.phase (card a) n (card_of s.me.0) at finds.2).1.2.last;
      trims = ap (λ (z : Card). z.trims) is ∙ found_untrimmed (layout_of w) p p.phase (card a) n (card_of s.me.0) finds.2;
    }

-- ---- what an access in the line needs

pub needs : {w : Words} {a : Pass Live} (l : Line) (f : Phase) {p : Whole} {base : ℕ} → p ≡ stands l f → IsCallOf w a (stands l f) → IsOneStep (whole_access (stands l f)) → base ≡ base_of (layout_of w) l.thread
    → record { call : IsCallOf w a p; step : IsOneStep (whole_access p); base : base ≡ base_of (layout_of w) p.thread }
needs {w} {a} l f {p} {base} is of one at = record {
  call = subst (IsCallOf w a) (sym is) of;
  step = subst (λ (z : Whole). IsOneStep (whole_access z)) (sym is) one;
  base = at ∙ ap (λ (z : Whole). base_of (layout_of w) z.thread) (sym is);
}

-- ---- and where it leads

pub leads_on : {w : Words} {a : Pass Live} (l : Line) (f g : Phase) {p : Whole} {b : Pass Live} {n s s' t t' : ℕ} → p ≡ stands l f → led_to (stands l f) n ≡ stands l g → IsInProgress g → record { leads : Leads w a p b n; fate : Heeds s s' t t' 0 } → Went w a (stands l f) b (stands l g) s s' t t'
leads_on {w} {a} l f g {p} {b} {n} is to going found =
    let there = subst (λ (z : Whole). Leads w a z b n) is found.leads in
    let came = there.goes (subst (λ (z : Whole). IsInProgress z.phase) (sym to) going) in
    record { came = subst (ComesOn w a (stands l f) b) to came; fate = found.fate }

-- it was the call's last
pub leads_out : {w : Words} {a : Pass Live} {p : Whole} {q : Whole} (l : Line) (f : Phase) (x : Reply) {b d : Pass Live} {n s s' s'' t t' t'' : ℕ} → Went w a p b (stands l f) s s' t t' → q ≡ stands l f → (led_to (stands l f) n).phase ≡ phase.Ended x → x ≡ OK → record { leads : Leads w b q d n; fate : Heeds s' s'' t' t'' 0 }
    → record { steps : ComesAcross w a p d l (Err (end.Replied x)); fate : Heeds s s'' t t'' 0 }
leads_out {w} {a} {p} {q} l f x {b} {d} {n} so_far is to ok found =
    let there = subst (λ (z : Whole). Leads w b z d n) is found.leads in
    record { steps = (after w a p b (stands l f) d (end.Replied x) so_far.came (there.ends x to), ok); fate = heeds_on _ _ _ _ _ _ _ so_far.fate found.fate }

-- it leaves its line at the cell
crosses_at_cell : (x : Crossed) → IsAtCell (crossed_phase x)
crosses_at_cell (crossed.Locking n) = tt
crosses_at_cell (crossed.Meeting c n) = tt
crosses_at_cell (crossed.Unlocking n) = tt
crosses_at_cell (crossed.Releasing n) = tt

-- there it left its line
pub leads_across : {w : Words} {a : Pass Live} {p : Whole} {q : Whole} (l : Line) (x : Crossed) {b d : Pass Live} {n s s' s'' t t' t'' : ℕ} → Went w a p b (stands l (crossed_phase x)) s s' t t' → q ≡ stands l (crossed_phase x) → PhaseKnows (crossed_phase x) → answer_at (whole_access (stands l (crossed_phase x))) n ≡ crossed_answer x → record { leads : Leads w b q d n; fate : Heeds s' s'' t' t'' 0 }
    → record { steps : ComesAcross w a p d l (Ok x); fate : Heeds s s'' t t'' 0 }
leads_across {w} {a} {p} {q} l x {b} {d} {n} so_far is knows answered found =
    let f : Phase = crossed_phase x in
    let there = subst (λ (z : Whole). Leads w b z d n) is found.leads in
    let to : led_to (stands l f) n ≡ crossed_call l x = ap (λ (y : Answer). whole_moved (stands l f) (whole_led (stands l f) y)) answered in
    record {
      steps = record {
        knows = knows;
        found = sym answered ∙ ap (answer_at (whole_access (stands l f))) (sym (there.found (crosses_at_cell x)));
        trims = there.trims ∙ so_far.came.4;
        goes = λ under. comes_further w a p b (stands l f) d (crossed_call l x) so_far.came (subst (ComesOn w b (stands l f) d) to (there.goes (subst (λ (z : Whole). IsInProgress z.phase) (sym to) under)));
        ends = λ y ended. after w a p b (stands l f) d (end.Replied y) so_far.came (there.ends y (ap (λ (z : Whole). z.phase) to ∙ ended));
      };
      fate = heeds_on _ _ _ _ _ _ _ so_far.fate found.fate;
    }

-- the thread was told to stop before an access, or an end is handed on by a `?`
pub stopped : {w : Words} {a : Pass Live} {p : Whole} {q : Whole} (l : Line) (f : Phase) {b : Pass Live} {s s' s'' t t' t'' : ℕ} (d : Pass Live) (e : End) (r : Result Crossed End) → Went w a p b (stands l f) s s' t t' → q ≡ stands l f → record { leads : ComesToEnd w b q d e × (e ≡ end.Stopped); fate : Heeds s' s'' t' t'' (stops_with e) } → IsErrAnd r (λ y. y ≡ e)
    → record { steps : ComesAcross w a p d l r; fate : Heeds s s'' t t'' (stops_within r) }
stopped l f d e (Ok z) so_far is found told = absurd told
stopped {w} {a} {p} {q} l f {b} {s} {s'} {s''} {t} {t'} {t''} d e (Err y) so_far is found told =
    let ends = after w a p b (stands l f) d e so_far.came (subst (λ (z : Whole). ComesToEnd w b z d e) is found.leads.0) in
    record {
      steps = subst (λ (z : End). ComesToEnd w a p d z × RepliesOk z) (sym told) (ends, subst RepliesOk (sym found.leads.1) tt);
      fate = subst (λ (z : End). Heeds s s'' t t'' (stops_with z)) (sym told) (heeds_on _ _ _ _ _ _ _ so_far.fate found.fate);
    }

pub stopped_within : {w : Words} {a : Pass Live} {p : Whole} {q : Whole} (l : Line) (f : Phase) {b : Pass Live} {s s' s'' t t' t'' : ℕ} (d : Pass Live) (z : Whole) (e : End) (r : Result Unit End) → Went w a p b (stands l f) s s' t t' → q ≡ stands l f → record { leads : ComesToEnd w b q d e × (e ≡ end.Stopped); fate : Heeds s' s'' t' t'' (stops_with e) } → IsErrAnd r (λ y. y ≡ e)
    → record { steps : LeadsTo w a p d z r; fate : Heeds s s'' t t'' (stops_within r) }
stopped_within l f d z e (Ok u) so_far is found told = absurd told
stopped_within {w} {a} {p} {q} l f {b} {s} {s'} {s''} {t} {t'} {t''} d z e (Err y) so_far is found told =
    let ends = after w a p b (stands l f) d e so_far.came (subst (λ (z : Whole). ComesToEnd w b z d e) is found.leads.0) in
    record {
      steps = subst (λ (z : End). ComesToEnd w a p d z × (z ≡ end.Stopped)) (sym told) (ends, found.leads.1);
      fate = subst (λ (z : End). Heeds s s'' t t'' (stops_with z)) (sym told) (heeds_on _ _ _ _ _ _ _ so_far.fate found.fate);
    }

-- accesses, and what came after them
pub behind : {w : Words} {a : Pass Live} {p : Whole} {b : Pass Live} {q : Whole} {s s' s'' t t' t'' : ℕ} (l : Line) (d : Pass Live) (r : Result Crossed End) → Went w a p b q s s' t t' → record { steps : ComesAcross w b q d l r; fate : Heeds s' s'' t' t'' (stops_within r) }
    → record { steps : ComesAcross w a p d l r; fate : Heeds s s'' t t'' (stops_within r) }
behind {w} {a} {p} {b} {q} l d (Ok x) so_far more = record {
  steps = record {
    knows = more.steps.knows;
    found = more.steps.found;
    trims = more.steps.trims ∙ so_far.came.4;
    goes = λ under. comes_further w a p b q d (crossed_call l x) so_far.came (more.steps.goes under);
    ends = λ y ended. after w a p b q d (end.Replied y) so_far.came (more.steps.ends y ended);
  };
  fate = heeds_on _ _ _ _ _ _ _ so_far.fate more.fate;
}
behind {w} {a} {p} {b} {q} l d (Err e) so_far more = record { steps = (after w a p b q d e so_far.came more.steps.0, more.steps.1); fate = heeds_on _ _ _ _ _ _ _ so_far.fate more.fate }

-- this many accesses were made
pub came_on : {w : Words} {a : Pass Live} {p : Whole} {b : Pass Live} {q : Whole} {s s' t t' : ℕ} → record { steps : ComesOn w a p b q; fate : Heeds s s' t t' 0 } → Went w a p b q s s' t t'
came_on so = record { came = so.steps; fate = so.fate }

-- or it ended in them
pub ended_so : {w : Words} {a : Pass Live} {p : Whole} {b : Pass Live} {q : Whole} {s s' s'' t t' t'' : ℕ} (l : Line) (d : Pass Live) (e : End) (r : Result Crossed End) → Went w a p b q s s' t t' → record { steps : ComesToEnd w b q d e × (e ≡ end.Stopped); fate : Heeds s' s'' t' t'' (stops_with e) } → IsErrAnd r (λ y. y ≡ e)
    → record { steps : ComesAcross w a p d l r; fate : Heeds s s'' t t'' (stops_within r) }
ended_so l d e (Ok z) so_far so told = absurd told
ended_so {w} {a} {p} {b} {q} {s} {s'} {s''} {t} {t'} {t''} l d e (Err y) so_far so told = record {
  steps = subst (λ (z : End). ComesToEnd w a p d z × RepliesOk z) (sym told) (after w a p b q d e so_far.came so.steps.0, subst RepliesOk (sym so.steps.1) tt);
  fate = subst (λ (z : End). Heeds s s'' t t'' (stops_with z)) (sym told) (heeds_on _ _ _ _ _ _ _ so_far.fate so.fate);
}

-- ---- where each access of a lock leads

free_owner : (c : Fields) → is_free c ≡ true → (c.owner == 0) ≡ true
free_owner c free = go (c.owner == 0) c.unusable c.died free
  where
    go : (o u d : Bool) → (o && (not u && not d)) ≡ true → o ≡ true
    go true u d e = refl
    go false u d e = absurd (cc e)

free_usable : (c : Fields) → is_free c ≡ true → c.unusable ≡ false
free_usable c free = go (c.owner == 0) c.unusable c.died free
  where
    go : (o u d : Bool) → (o && (not u && not d)) ≡ true → u ≡ false
    go true true d e = absurd (cc e)
    go true false d e = refl
    go false u d e = absurd (cc e)

free_consistent : (c : Fields) → is_free c ≡ true → c.died ≡ false
free_consistent c free = go (c.owner == 0) c.unusable c.died free
  where
    go : (o u d : Bool) → (o && (not u && not d)) ≡ true → d ≡ false
    go true true d e = absurd (cc e)
    go true false true e = absurd (cc e)
    go true false false e = refl
    go false u d e = absurd (cc e)

pub free_knows : (c : Fields) → is_free c ≡ true → (c.owner ≡ 0) × (c.unusable ≡ false)
free_knows c free = (eqb-true c.owner 0 (free_owner c free), free_usable c free)

lock_takes : (t : ℕ) (c : Fields) → 1 ≤ t → is_free c ≡ true → lock_sees t c ≡ goes (row.Lock (lock.Take c))
lock_takes t c pos free = go c.unusable (free_usable c free) (c.owner == t) refl (c.owner == 0) (free_owner c free)
  where
    go : (u : Bool) → u ≡ false → (m : Bool) → (c.owner == t) ≡ m → (f : Bool) → f ≡ true
        → (if u then decides (after_loss c) ENOTRECOVERABLE else if m then ends EDEADLK else if f then goes (row.Lock (lock.Take c)) else if c.waiters then goes (row.Lock (lock.Sleep c)) else goes (row.Lock (lock.SetWaiters c))) ≡ goes (row.Lock (lock.Take c))
    go true eu m em f ef = absurd (cc eu)
    go false eu true em f ef =
        let own : c.owner ≡ t = eqb-true c.owner t em in
        let none : c.owner ≡ 0 = eqb-true c.owner 0 (free_owner c free) in
        absurd (omega arith)
    go false eu false em true ef = refl
    go false eu false em false ef = absurd (cc ef)

-- it saw a free cell
pub to_take : (l : Line) (n : ℕ) (c : Fields) → c ≡ fields_of n → 1 ≤ l.thread → is_free c ≡ true → led_to (stands l loading_lock) n ≡ stands l (taking c)
to_take l n c is pos free = ap (λ (z : Led). whole_moved (stands l loading_lock) (from_cell (stands l loading_lock) z)) (ap (lock_sees l.thread) (sym is) ∙ lock_takes l.thread c pos free)

-- its exchange met that cell, or another one
pub to_link : (l : Line) (c : Fields) (n : ℕ) → l.operation ≡ operation.Lock → is_free c ≡ true → n ≡ word_of c → led_to (stands l (taking c)) n ≡ stands l (linking l link.LoadFirst)
to_link l c n op free hit =
    ap (λ (b : Bool). whole_moved (stands l (taking c)) (whole_led (stands l (taking c)) (if◌then◌else◌ {A = Answer} b Exchanged (Changed n)))) (eq-eqb n (word_of c) hit)
    ∙ ap (λ (d : Bool). stands l (leaving (stands l (taking c)) l.operation (if◌then◌else◌ {A = Reply} d EOWNERDEAD OK))) (free_consistent c free)
    ∙ ap (λ (o : Operation). stands l (leaving (stands l (taking c)) o OK)) op

pub misses : (l : Line) (c : Fields) (n : ℕ) → n ≢ word_of c → answer_at (whole_access (stands l (taking c))) n ≡ Changed n
misses l c n miss = ap (λ (b : Bool). if◌then◌else◌ {A = Answer} b Exchanged (Changed n)) (ne_eqb n (word_of c) miss)

-- after the stores to the entry's own words
abbrev behind_both : Line → ℕ → Bool → Phase
behind_both l f b = linked_at OK (link_at l.head l.entry (if◌then◌else◌ {A = LinkRow} b link.StoreFirst (link.StoreBehind f))) (if◌then◌else◌ {A = LinkRow} b link.StoreFirst (link.StoreBehind f))

pub to_first : (l : Line) (f n : ℕ) → f ≡ l.head → led_to (stands l (linking l (link.StorePrevious f))) n ≡ stands l (linking l link.StoreFirst)
to_first l f n is = ap (λ (b : Bool). stands l (behind_both l f b)) (eq-eqb f l.head is)

pub to_behind : (l : Line) (f n : ℕ) → f ≢ l.head → led_to (stands l (linking l (link.StorePrevious f))) n ≡ stands l (linking l (link.StoreBehind f))
to_behind l f n not_it = ap (λ (b : Bool). stands l (behind_both l f b)) (ne_eqb f l.head not_it)

-- ---- where each access of an unlock leads

held_owner : (c : Fields) (t : ℕ) → is_held c t ≡ true → (c.owner == t) ≡ true
held_owner c t held = go (c.owner == t) c.died held
  where
    go : (o d : Bool) → (o && not d) ≡ true → o ≡ true
    go true d e = refl
    go false d e = absurd (cc e)

held_consistent : (c : Fields) (t : ℕ) → is_held c t ≡ true → c.died ≡ false
held_consistent c t held = go (c.owner == t) c.died held
  where
    go : (o d : Bool) → (o && not d) ≡ true → d ≡ false
    go true true e = absurd (cc e)
    go true false e = refl
    go false d e = absurd (cc e)

-- it saw its thread's own cell
pub to_announce : (l : Line) (n : ℕ) (c : Fields) → c ≡ fields_of n → is_held c l.thread ≡ true → led_to (stands l loading_unlock) n ≡ stands l announcing_release
to_announce l n c is held =
    ap (λ (z : Fields). whole_moved (stands l loading_unlock) (from_cell (stands l loading_unlock) (unlock_sees l.thread z))) (sym is)
    ∙ ap (λ (b : Bool). whole_moved (stands l loading_unlock) (from_cell (stands l loading_unlock) (if◌then◌else◌ {A = Led} b (goes (row.Unlock (unlock.Release c.died))) (ends EPERM)))) (held_owner c l.thread held)
    ∙ ap (λ (d : Bool). stands l (phase.Announcing (row.Unlock (unlock.Release d)))) (held_consistent c l.thread held)

-- after the store that takes the entry out
abbrev behind_next : Line → ℕ → ℕ → Bool → Phase
behind_next l n p b = unlinked_at (unlink_at l.head l.entry (if◌then◌else◌ {A = UnlinkRow} b (out.Ended OK) (out.StorePrevious n p))) (if◌then◌else◌ {A = UnlinkRow} b (out.Ended OK) (out.StorePrevious n p)) false

pub to_release : (l : Line) (next previous n : ℕ) → next ≡ l.head → led_to (stands l (unlinking l (out.StoreNext next previous))) n ≡ stands l releasing
to_release l next previous n is = ap (λ (b : Bool). stands l (behind_next l next previous b)) (eq-eqb next l.head is)

pub to_previous : (l : Line) (next previous n : ℕ) → next ≢ l.head → led_to (stands l (unlinking l (out.StoreNext next previous))) n ≡ stands l (unlinking l (out.StorePrevious next previous))
to_previous l next previous n not_it = ap (λ (b : Bool). stands l (behind_next l next previous b)) (ne_eqb next l.head not_it)

-- its release found nobody to wait
pub to_clear : (l : Line) (n : ℕ) → l.operation ≡ operation.Unlock → (fields_of n).waiters ≡ false → led_to (stands l releasing) n ≡ stands l (phase.Clearing OK)
to_clear l n op none =
    ap (λ (b : Bool). whole_moved (stands l releasing) (from_cell (stands l releasing) (decides (if◌then◌else◌ {A = Row} b (row.Unlock (unlock.Wake false)) (row.Ended OK)) OK))) none
    ∙ ap (λ (o : Operation). stands l (leaving (stands l releasing) o OK)) op

-- ---- how a line begins, and how its thread dies

pub begins_in : (w : Words) (a : Pass Live) (call : Call) → IsLive w a → mutex_of call < (layout_of w).mutexes → whole_started (layout_of w) (card a).thread a.held call ≡ Ok (begins (layout_of w) (card a).thread call)
    → IsIn w a call a (begins (layout_of w) (card a).thread call)
begins_in w a call live inside started =
    let k : Layout' = layout_of w in
    let p : Whole = begins k (card a).thread call in
    let there : IsOnMutex k (standing_of p) (mutex_of call) = (inside, subst (λ (z : Standing). z.cell ≡ address_in k z.thread (cell_place k (mutex_of call))) (sym (starts_so k (card a).thread call)) refl) in
    let runs : IsPassOf w a × ((m : ℕ) × IsInCall k (card a) m p) = (live.0, (mutex_of call, call_begins k (card a) live.0.1 live.1 call p inside refl)) in (
      record { ready = begun_ready k (card a) call p refl; room = begun_room k (card a).thread a.held call p started a.few; going = begun_under_way k (card a).thread a.held call p started; words = runs },
      (runs, there, begun k (card a) call p refl),
    )

pub few : (h : ℕ) → h < 2048 → nat_le 2048 h ≡ false
few h low = grind (arith, nat_tests)

-- a lock, of a thread that holds fewer than 2,048 mutexes
pub lock_begins_in : (w : Words) (a : Pass Live) (m : ℕ) (l : Line) → IsLive w a → m < (layout_of w).mutexes → nat_le 2048 a.held ≡ false → l ≡ line_of (layout_of w) a.thread operation.Lock m → IsIn w a (call.Lock m) a (stands l announcing_lock)
lock_begins_in w a m l live inside few is =
    let k : Layout' = layout_of w in
    let started = ap (λ (b : Bool). if◌then◌else◌ {A = Result Whole Reply} b (Err XHELD) (Ok (begins k (card a).thread (call.Lock m)))) few in
    let same : stands l announcing_lock ≡ begins k (card a).thread (call.Lock m) = ap (λ (z : Line). stands z announcing_lock) is ∙ ap (λ (t : ℕ). begins k t (call.Lock m)) (sym a.own) in
    subst (IsIn w a (call.Lock m) a) (sym same) (begins_in w a (call.Lock m) live inside started)

pub unlock_begins_in : (w : Words) (a : Pass Live) (m : ℕ) (l : Line) → IsLive w a → m < (layout_of w).mutexes → l ≡ line_of (layout_of w) a.thread operation.Unlock m → IsIn w a (call.Unlock m) a (stands l loading_unlock)
unlock_begins_in w a m l live inside is =
    let k : Layout' = layout_of w in
    let same : stands l loading_unlock ≡ begins k (card a).thread (call.Unlock m) = ap (λ (z : Line). stands z loading_unlock) is ∙ ap (λ (t : ℕ). begins k t (call.Unlock m)) (sym a.own) in
    subst (IsIn w a (call.Unlock m) a) (sym same) (begins_in w a (call.Unlock m) live inside refl)

-- an unlock that begins so tells of no word yet
pub unlock_begins_releasing : (w : Words) (a : Pass Live) (m : ℕ) (l : Line) → IsLive w a → m < (layout_of w).mutexes → l ≡ line_of (layout_of w) a.thread operation.Unlock m → IsReleasing w a m a (stands l loading_unlock)
unlock_begins_releasing w a m l live inside is =
    let k : Layout' = layout_of w in
    let t = unlock_begins_in w a m l live inside is in
    let same : stands l loading_unlock ≡ begins k (card a).thread (call.Unlock m) = ap (λ (z : Line). stands z loading_unlock) is ∙ ap (λ (t : ℕ). begins k t (call.Unlock m)) (sym a.own) in
    releases_begun w a m (running_of w a (stands l loading_unlock) t.0) (ap Ok (sym same)) refl t.1

pub dies_in : (w : Words) (a : Pass Live) (call : Call) (b : Pass Live) (d : Pass Dead) → (q : Whole) × IsIn w a call b q → card d ≡ card b → (IsPassOf w b → IsPassOf w d) → HasDied w a call d
dies_in w a call b d t same of =
    let k : Layout' = layout_of w in
    let on = t.1.0 in
    let f = died_in w a call (running_of w b t.0 on) (card d) t.1.1 same in
    ((of on.words.0, subst (IsMortal k) (sym same) (mortal k (card b) on.words.0.1 on.words.1.0 t.0 on.words.1.1)), f.0, f.1)
