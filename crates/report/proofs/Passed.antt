-- Phases, one after the other, at whose ends all threads meet.
use Rattle.std.proofs.Common.{◌≡◌, ℕ, zero, suc, ◌+◌, ◌<◌, Bool, true, false, not, Option, Some, List, [], ◌∷◌, ◌++◌, length, map, drop, slice_get, Vec, refl, sym, ap, ◌∙◌, subst, arith, append_assoc, append-nil}
use Rattle.std.specs.Prelude.{◌||◌, ◌&&◌}
use Rattle.std.proofs.lemmas.Option.{slice_get_within, same_Some}
use Rattle.std.specs.declared.alloc.Global.{Global}
use mathlib.Core.List.{IsPrefix}
use Rattle.lockword.specs.declared.reply.Reply.{Reply}
use Rattle.posixmutex.specs.declared.point.Point.{Point}
use Rattle.memorymap.specs.Layouts.{Layout', cell_place}
use Rattle.condvar.specs.declared.op.Op.{Op}
use Rattle.ruledwords.specs.declared.pass.Card.{Card}
use Rattle.ruledwords.specs.declared.pass.Change.{Change}
use Rattle.ruledwords.specs.declared.pass.Words.{Words}
use Rattle.ruledwords.specs.Cards.{at}
use Rattle.ruledwords.specs.Meetings.{behind_meeting, ComesToKnow}
use Rattle.ruledwords.specs.Passes.{card, layout_of}
use Rattle.ruledwords.specs.Seen.{by}
use Rattle.script.specs.declared.workload.Phase.{Phase}
use Rattle.threadbench.specs.declared.job.WorkerPass.{WorkerPass}
use Rattle.threadbench.specs.declared.job.WorkerPass.TheVariants.{Lives, Reaped}
use Rattle.threadbench.specs.Answered.{card_in}
use Rattle.threadbench.specs.Jobs.{Worked}
use Rattle.report.specs.declared.threads.Worker.{Worker}
use Rattle.report.specs.Histories.{ArePointsBehind, IsCountOf, TakesPart}
use Rattle.report.specs.Parts.{Part}
use Rattle.report.specs.Meetings.{is_reaped, HaveMet}
use Rattle.report.specs.Threads.{calls_in, open_gate, HasPassed, Works, WorksFrom}
use Rattle.streams.proofs.Listed.{mapped_at}
use Rattle.report.proofs.Parts.{by_append}
use Rattle.report.proofs.Phases.{all_at, length_mapped, some_at}
use Rattle.report.proofs.Told.{Grew, points_behind, thread_stays, worked_grew}
use Rattle.report.proofs.Working.{as_many}

-- ---- lists

pub drop_past : {A : Type 0} (xs ys : List A) → drop (length xs) (xs ++ ys) ≡ ys
drop_past [] ys = refl
drop_past (x ∷ xs) ys = drop_past xs ys

pub same_rest : {A : Type 0} (xs ys zs : List A) → xs ++ ys ≡ xs ++ zs → ys ≡ zs
same_rest [] ys zs e = e
same_rest (x ∷ xs) ys zs e = same_rest xs ys zs (cc e)

abbrev pub items_at : List (Vec Reply Global) → ℕ → List Reply
items_at [] i = []
items_at (r ∷ rs) zero = r.items
items_at (r ∷ rs) (suc i) = items_at rs i

pub items_are : (rs : List (Vec Reply Global)) (i : ℕ) (r : Vec Reply Global) → slice_get rs i ≡ Some r → items_at rs i ≡ r.items
items_are [] i r is = absurd (cc is)
items_are (x ∷ rs) zero r is = let same : x ≡ r = cc is in ap (λ (v : Vec Reply Global). v.items) same
items_are (x ∷ rs) (suc i) r is = items_are rs i r is

abbrev pub gone_at : List Worker → ℕ → Bool
gone_at [] i = false
gone_at (v ∷ vs) zero = is_reaped v.pass
gone_at (v ∷ vs) (suc i) = gone_at vs i

pub gone_is : (vs : List Worker) (i : ℕ) (v : Worker) → slice_get vs i ≡ Some v → gone_at vs i ≡ is_reaped v.pass
gone_is [] i v is = absurd (cc is)
gone_is (x ∷ vs) zero v is = let same : x ≡ v = cc is in ap (λ (z : Worker). is_reaped z.pass) same
gone_is (x ∷ vs) (suc i) v is = gone_is vs i v is

pub gone_same : (us vs : List Worker) (i : ℕ) → map (λ (v : Worker). is_reaped v.pass) us ≡ map (λ (v : Worker). is_reaped v.pass) vs → gone_at us i ≡ gone_at vs i
gone_same [] [] i same = refl
gone_same [] (v ∷ vs) i same = absurd (cc same)
gone_same (u ∷ us) [] i same = absurd (cc same)
gone_same (u ∷ us) (v ∷ vs) zero same = cc same
gone_same (u ∷ us) (v ∷ vs) (suc i) same = gone_same us vs i (cc same)

pub and_true : (a : Bool) → (a && true) ≡ a
and_true true = refl
and_true false = refl

and_false : (a : Bool) → (a && false) ≡ false
and_false true = refl
and_false false = refl

pub or_assoc : (a b c : Bool) → ((a || b) || c) ≡ (a || (b || c))
or_assoc true b c = refl
or_assoc false b c = refl

-- ---- a phase

-- what a phase added, by what all had seen before it and after it
abbrev pub part_of : Layout' → List (List Point) → List (List Point) → List Worker → List Worker → List (Vec Reply Global) → List (Vec Reply Global) → Part
part_of k seen seen' us vs rs rs' = record {
  replies = λ i. drop (length (items_at rs i)) (items_at rs' i);
  died = λ i. gone_at vs i && not (gone_at us i);
  points = λ m. drop (length (at seen (cell_place k m))) (at seen' (cell_place k m));
}

-- a thread whose calls were made, or that had died
pub did : (w : Words) (m : ℕ) (calls : List Op) (u : Worker) (more : List Reply) (v : Worker) → m < (layout_of w).mutexes → Works w calls u more v → Grew (card_in u.pass) (cell_place (layout_of w) m) (card_in v.pass)
did w m calls u more v low works = from u.pass u.die works where
  from : (pass : WorkerPass) (die : Option ℕ) → WorksFrom w calls die pass more v → Grew (card_in pass) (cell_place (layout_of w) m) (card_in v.pass)
  from (Lives a) die works = worked_grew w m (card a) calls more v.pass low works.0
  from (Reaped d) die works = ([], ap (λ (z : WorkerPass). at (card_in z).seen (cell_place (layout_of w) m)) works.0 ∙ sym (append-nil (at (card d).seen (cell_place (layout_of w) m))))

-- what all have seen after the phase goes on from what all had seen before it
ahead : (w : Words) (m : ℕ) (seen seen' : List (List Point)) (calls : List Op) (u : Worker) (more : List Reply) (v : Worker) → m < (layout_of w).mutexes → (card_in u.pass).seen ≡ seen → Works w calls u more v → IsPrefix (at (card_in v.pass).seen (cell_place (layout_of w) m)) (at seen' (cell_place (layout_of w) m))
    → at seen' (cell_place (layout_of w) m) ≡ at seen (cell_place (layout_of w) m) ++ drop (length (at seen (cell_place (layout_of w) m))) (at seen' (cell_place (layout_of w) m))
ahead w m seen seen' calls u more v low was works begins =
    let p : ℕ = cell_place (layout_of w) m in
    let grew = did w m calls u more v low works in
    let rest : List Point = grew.0 ++ begins.0 in
    let from : at (card_in u.pass).seen p ≡ at seen p = ap (λ (s : List (List Point)). at s p) was in
    let all : at seen' p ≡ at seen p ++ rest = sym begins.1 ∙ ap (λ (l : List Point). l ++ begins.0) (grew.1 ∙ ap (λ (l : List Point). l ++ grew.0) from) ∙ append_assoc (at seen p) grew.0 begins.0 in
    all ∙ ap (λ (l : List Point). at seen p ++ l) (sym (ap (drop (length (at seen p))) all ∙ drop_past (at seen p) rest))

-- what a thread adds
takes : (w : Words) (i : ℕ) (seen seen' : List (List Point)) (changes : List (List Change)) (calls : List Op) (u : Worker) (more : List Reply) (v : Worker) → (card_in u.pass).seen ≡ seen → (card_in u.pass).thread ≡ i + 1 → ComesToKnow seen' changes (card_in v.pass) → Works w calls u more v
    → TakesPart (layout_of w) i (is_reaped u.pass) (λ m. at seen (cell_place (layout_of w) m)) calls more (is_reaped v.pass && not (is_reaped u.pass)) (λ m. drop (length (at seen (cell_place (layout_of w) m))) (at seen' (cell_place (layout_of w) m)))
takes w i seen seen' changes calls u more v was mine come works = from u.pass u.die was mine works (λ m low. ahead w m seen seen' calls u more v low was works (come.begins (cell_place (layout_of w) m))) where
  new : ℕ → List Point
  new m = drop (length (at seen (cell_place (layout_of w) m))) (at seen' (cell_place (layout_of w) m))

  from : (pass : WorkerPass) (die : Option ℕ) → (card_in pass).seen ≡ seen → (card_in pass).thread ≡ i + 1 → WorksFrom w calls die pass more v
      → ((m : ℕ) → m < (layout_of w).mutexes → at seen' (cell_place (layout_of w) m) ≡ at seen (cell_place (layout_of w) m) ++ drop (length (at seen (cell_place (layout_of w) m))) (at seen' (cell_place (layout_of w) m)))
      → TakesPart (layout_of w) i (is_reaped pass) (λ m. at seen (cell_place (layout_of w) m)) calls more (is_reaped v.pass && not (is_reaped pass)) (λ m. drop (length (at seen (cell_place (layout_of w) m))) (at seen' (cell_place (layout_of w) m)))
  from (Reaped d) die was mine works on = (
    works.1,
    and_false (is_reaped v.pass),
    λ m low.
        let t : ℕ = i + 1 in
        let p : ℕ = cell_place (layout_of w) m in
        let fresh : List Point = drop (length (at seen p)) (at seen' p) in
        let same : (card_in v.pass) ≡ card d = ap card_in works.0 in
        let thread : (card_in v.pass).thread ≡ t = ap (λ (c : Card). c.thread) same ∙ mine in
        let own : by t (at seen' p) ≡ by t (at seen p) = subst (λ (z : ℕ). by z (at seen' p) ≡ by z (at (card_in v.pass).seen p)) thread (come.own p) ∙ ap (λ (c : Card). by t (at c.seen p)) same ∙ ap (λ (s : List (List Point)). by t (at s p)) was in
        same_rest (by t (at seen p)) (by t fresh) [] (sym (by_append t (at seen p) fresh) ∙ ap (by t) (sym (on m low)) ∙ own ∙ sym (append-nil (by t (at seen p)))),
  )
  from (Lives a) die was mine works on = (
    subst (λ (b : Bool). IsCountOf b (length more) (length calls)) (sym (and_true (is_reaped v.pass))) (count v.pass works.0),
    λ m low.
        let t : ℕ = i + 1 in
        let p : ℕ = cell_place (layout_of w) m in
        let fresh : List Point = drop (length (at seen p)) (at seen' p) in
        let before : List Point = by t (at seen p) in
        let had : by t (at (card a).seen p) ≡ before = ap (λ (s : List (List Point)). by t (at s p)) was in
        let points = points_behind w t m before (card a) calls more v.pass low mine had works.0 in
        let own : by t (at seen' p) ≡ by t (at (card_in v.pass).seen p) = subst (λ (z : ℕ). by z (at seen' p) ≡ by z (at (card_in v.pass).seen p)) points.0 (come.own p) in
        let same : by t fresh ≡ points.1 = same_rest before (by t fresh) points.1 (sym (by_append t (at seen p) fresh) ∙ ap (by t) (sym (on m low)) ∙ own ∙ points.2) in
        subst (λ (z : Bool × List Point). ArePointsBehind (layout_of w) t m before calls more z.0 z.1) (λ z. (sym (and_true (is_reaped v.pass)) z, sym same z)) points.3,
  ) where
    count : (pass : WorkerPass) → Worked w open_gate (card a) calls more pass → IsCountOf (is_reaped pass) (length more) (length calls)
    count (Lives b) worked = as_many w (card a) calls more b worked
    count (Reaped d) worked = let last = worked.stops.1 in slice_get_within calls (length more) last.0 last.1

-- who had died is dead
stays_dead : (w : Words) (calls : List Op) (u : Worker) (more : List Reply) (v : Worker) → Works w calls u more v → is_reaped v.pass ≡ (is_reaped u.pass || (is_reaped v.pass && not (is_reaped u.pass)))
stays_dead w calls u more v works = from u.pass u.die works where
  from : (pass : WorkerPass) (die : Option ℕ) → WorksFrom w calls die pass more v → is_reaped v.pass ≡ (is_reaped pass || (is_reaped v.pass && not (is_reaped pass)))
  from (Lives a) die works = sym (and_true (is_reaped v.pass))
  from (Reaped d) die works = ap is_reaped works.0

-- ---- phases

-- all threads, each of which has seen the same
pub record AreAbreast (n : ℕ) (seen : List (List Point)) (us : List Worker) : Type 0 where
  pub as_many : length us ≡ n
  pub each : (i : ℕ) (u : Worker) → slice_get us i ≡ Some u → ((card_in u.pass).seen ≡ seen) × ((card_in u.pass).thread ≡ i + 1)
  pub changes : List (List Change)
  pub know : (i : ℕ) (u : Worker) → slice_get us i ≡ Some u → (card_in u.pass).changes ≡ changes

-- all that a thread met with, by what it knew
pub known_at : (w : Words) (vs met : List Worker) (m : HaveMet w vs met) (i : ℕ) (v : Worker) → slice_get vs i ≡ Some v → ComesToKnow m.know.seen m.know.changes (card_in v.pass)
known_at w vs met m i v is = all_at (ComesToKnow m.know.seen m.know.changes) (map (λ (z : Worker). card_in z.pass) vs) i (card_in v.pass) m.know.each (mapped_at (λ (z : Worker). card_in z.pass) vs i v is)

pub met_at : (w : Words) (vs met : List Worker) (m : HaveMet w vs met) (i : ℕ) (v x : Worker) → slice_get vs i ≡ Some v → slice_get met i ≡ Some x → card_in x.pass ≡ behind_meeting m.know.seen m.know.changes (card_in v.pass)
met_at w vs met m i v x is is' =
    let cards : List Card = map (λ (z : Worker). card_in z.pass) vs in
    same_Some _ _ (sym (mapped_at (λ (z : Worker). card_in z.pass) met i x is') ∙ ap (λ (cs : List Card). slice_get cs i) m.know.after ∙ mapped_at (behind_meeting m.know.seen m.know.changes) cards i (card_in v.pass) (mapped_at (λ (z : Worker). card_in z.pass) vs i v is))

pub many_met : (w : Words) (vs met : List Worker) → HaveMet w vs met → length met ≡ length vs
many_met w vs met m = sym (length_mapped (λ (z : Worker). z.die) met) ∙ ap length m.numbers ∙ length_mapped (λ (z : Worker). z.die) vs

abbrev pub calls_of : Phase → ℕ → List Op
calls_of p = λ t. calls_in t p

-- a thread in a phase
pub record PassesAs (w : Words) (i : ℕ) (seen : List (List Point)) (p : Phase) (us vs met : List Worker) (rs rs' : List (Vec Reply Global)) (seen' : List (List Point)) : Type 0 where
  pub part : TakesPart (layout_of w) i (gone_at us i) (λ m. at seen (cell_place (layout_of w) m)) (calls_in (i + 1) p) ((part_of (layout_of w) seen seen' us vs rs rs').replies i) ((part_of (layout_of w) seen seen' us vs rs rs').died i) (part_of (layout_of w) seen seen' us vs rs rs').points
  pub on : (m : ℕ) → m < (layout_of w).mutexes → at seen' (cell_place (layout_of w) m) ≡ at seen (cell_place (layout_of w) m) ++ (part_of (layout_of w) seen seen' us vs rs rs').points m
  pub answered : items_at rs' i ≡ items_at rs i ++ (part_of (layout_of w) seen seen' us vs rs rs').replies i
  pub dead : gone_at met i ≡ (gone_at us i || (part_of (layout_of w) seen seen' us vs rs rs').died i)

pub passes_as : (w : Words) (n i : ℕ) (seen : List (List Point)) (p : Phase) (us met : List Worker) (rs rs' : List (Vec Reply Global)) (h : HasPassed w p us met rs rs') → AreAbreast n seen us → length rs ≡ n → i < n → PassesAs w i seen p us h.worked met rs rs' h.meeting.know.seen
passes_as w n i seen p us met rs rs' h abreast long low =
    let vs : List Worker = h.worked in
    let seen' : List (List Point) = h.meeting.know.seen in
    let many = abreast.as_many in
    let many' = h.work.as_many in
    let long' = h.work.as_long in
    let u = some_at us i (omega arith) in
    let v = some_at vs i (omega arith) in
    let r = some_at rs i (omega arith) in
    let r' = some_at rs' i (omega arith) in
    let its = abreast.each i u.0 u.1 in
    let more = h.work.each i u.0 v.0 r.0 r'.0 u.1 v.1 r.1 r'.1 in
    let come = known_at w vs met h.meeting i v.0 v.1 in
    let gone : gone_at us i ≡ is_reaped u.0.pass = gone_is us i u.0 u.1 in
    let gone' : gone_at vs i ≡ is_reaped v.0.pass = gone_is vs i v.0 v.1 in
    let replied : items_at rs' i ≡ items_at rs i ++ more.0 = items_are rs' i r'.0 r'.1 ∙ more.1 ∙ ap (λ (l : List Reply). l ++ more.0) (sym (items_are rs i r.0 r.1)) in
    let new : drop (length (items_at rs i)) (items_at rs' i) ≡ more.0 = ap (drop (length (items_at rs i))) replied ∙ drop_past (items_at rs i) more.0 in
    let took = takes w i seen seen' h.meeting.know.changes (calls_in (i + 1) p) u.0 more.0 v.0 its.0 its.1 come more.2 in record {
      part = subst (λ (z : Bool × List Reply × Bool). TakesPart (layout_of w) i z.0 (λ m. at seen (cell_place (layout_of w) m)) (calls_in (i + 1) p) z.1 z.2 (λ m. drop (length (at seen (cell_place (layout_of w) m))) (at seen' (cell_place (layout_of w) m))))
          (λ z. (sym gone z, sym new z, sym gone' z && not (sym gone z))) took;
      on = λ m inside. ahead w m seen seen' (calls_in (i + 1) p) u.0 more.0 v.0 inside its.0 more.2 (come.begins (cell_place (layout_of w) m));
      answered = replied ∙ ap (λ (l : List Reply). items_at rs i ++ l) (sym new);
      dead = gone_same met vs i h.meeting.lives ∙ gone' ∙ stays_dead w (calls_in (i + 1) p) u.0 more.0 v.0 more.2 ∙ (λ z. sym gone z || (sym gone' z && not (sym gone z)));
    }

-- they are abreast again
abbrev pub abreast_again : (w : Words) (n : ℕ) (seen : List (List Point)) (p : Phase) (us met : List Worker) (rs rs' : List (Vec Reply Global)) (h : HasPassed w p us met rs rs') → AreAbreast n seen us → length rs ≡ n → AreAbreast n h.meeting.know.seen met
abreast_again w n seen p us met rs rs' h abreast long = record {
  as_many = many_met w h.worked met h.meeting ∙ h.work.as_many ∙ abreast.as_many;
  each = λ i x is.
      let inside = slice_get_within met i x is in
      let most = many_met w h.worked met h.meeting in
      let many = abreast.as_many in
      let many' = h.work.as_many in
      let long' = h.work.as_long in
      let u = some_at us i (omega arith) in
      let v = some_at h.worked i (omega arith) in
      let r = some_at rs i (omega arith) in
      let r' = some_at rs' i (omega arith) in
      let more = h.work.each i u.0 v.0 r.0 r'.0 u.1 v.1 r.1 r'.1 in
      let knows = met_at w h.worked met h.meeting i v.0 x v.1 is in
      (ap (λ (c : Card). c.seen) knows, ap (λ (c : Card). c.thread) knows ∙ thread_stays w (calls_in (i + 1) p) u.0 more.0 v.0 more.2 ∙ (abreast.each i u.0 u.1).1);
  changes = h.meeting.know.changes;
  know = λ i x is.
      let inside = slice_get_within met i x is in
      let most = many_met w h.worked met h.meeting in
      let v = some_at h.worked i (omega (arith, inside, most)) in
      ap (λ (c : Card). c.changes) (met_at w h.worked met h.meeting i v.0 x v.1 is);
}
