-- Where a run with buffers is.
use Rattle.std.proofs.Common.{◌≡◌, ◌≢◌, ◌⊎◌, inl, inr, ⊎_elim, ℕ, zero, suc, ◌+◌, ◌<◌, ◌≤◌, Bool, true, false, Some, List, [], ◌∷◌, ◌++◌, refl, sym, ap, ◌∙◌, subst, arith}
use Rattle.std.specs.Prelude.{if◌then◌else◌, nat_lt}
use Rattle.std.proofs.lemmas.Bool.Decides.{nat_tests}
use mathlib.Core.Path.{fun_ext}
use Rattle.lockword.specs.Cells.{fields_of}
use Rattle.posixmutex.specs.declared.object.Object.{Object}
use Rattle.posixmutex.specs.Objects.{object_of, fresh}
use Rattle.memorymap.specs.Layouts.{Layout', IsLayout, head_place, entry_place, cell_place, counter_place}
use Rattle.protocol.specs.declared.event.Event.{Event}
use Rattle.protocol.specs.declared.note.Note.{Note}
use Rattle.protocol.specs.declared.note.Note.TheVariants.{Nothing}
use Rattle.protocol.specs.Machine.{State, After, put, start, happens, run, notes, is_alive}
use Rattle.protocol.specs.Headline.{seen}
use Rattle.protocol.proofs.Puts.{by_put, put-same, put-other}
use Rattle.protocol.proofs.Kept.{Kept}
use Rattle.protocol.proofs.Runs.{sound, start_kept}
use Rattle.protocol.specs.Explained.{caller}
use Rattle.protocol.specs.Changes.{IsItsOwn}
use Rattle.protocol.specs.declared.thread.Thread.{Thread}
use Rattle.protocol.specs.declared.thread.Stage.{Stage}
use Rattle.protocol.specs.declared.thread.Stage.TheVariants.{Idle, Calling, AtCondition, Dying, Reaped}
use Rattle.storebuffers.specs.Buffers.{Store, Buffered, Waits, stored, with_words, drained, words_seen, Way, way, seen_by, left_by, Happening, next, run_buffered, noted, without_drains}
use Rattle.storebuffers.specs.Runs.{all_stored, settled, WaitsApart, BuffersChangeNothing}
use Rattle.storebuffers.specs.Buffers.Way.{Keeps, Appends, Writes, Flushes}
use Rattle.storebuffers.specs.Buffers.Happening.{Happens, Drain}
use Rattle.storebuffers.proofs.Stores.{stored-out, stored-same, stored-on, waits-on, waits_or_not, same_or_not, waits-left, waits-right}
use Rattle.storebuffers.proofs.Owning.{IsOwn, own_is_its, own_apart, own_no_cell, own_no_counter, shared_apart, met_apart}
use Rattle.storebuffers.proofs.Dying.{IsStill, others_stand, dies_so}
use Rattle.storebuffers.proofs.Staying.{IsWritten, owner_stays, own_stays}
use Rattle.storebuffers.proofs.Alike.{Does, Views, Pending_as, Comes, events_alike}

-- the machine in state s, but with these words in memory, and these stores that wait
abbrev pub buffered : (ℕ → ℕ) → (ℕ → List Store) → State → Buffered
buffered w waits s = record { memory = with_words s w; buffers = waits }

-- what waits is its thread's own; and each thread has, of each word that waits for nobody else, what the machine without buffers has
pub record Holds (w : ℕ → ℕ) (waits : ℕ → List Store) (s : State) : Type 0 where
  pub kept : Kept s
  pub own : (t p : ℕ) → Waits p (waits t) → (1 ≤ t) × (t ≤ s.layout.threads) × IsOwn s t p
  pub dead : (t : ℕ) → is_alive (s.threads t).stage ≡ false → waits t ≡ []
  pub sees : (t p : ℕ) → ((u : ℕ) → t ≢ u → Waits p (waits u) → ⊥) → stored (waits t) w p ≡ s.words p

module _ (w : ℕ → ℕ) (waits : ℕ → List Store) (s : State) (h : Holds w waits s) where
  -- no word waits for two threads
  pub apart_there : (t u p : ℕ) → t ≢ u → Waits p (waits t) → Waits p (waits u) → ⊥
  apart_there t u p apart a b = let x = h.own t p a in let y = h.own u p b in own_apart s t u p x.0 x.1 y.0 y.1 apart x.2 y.2

  pub views : (t : ℕ) → Views s t (stored (waits t) w)
  views t p met = h.sees t p (λ u apart there. let x = h.own u p there in met_apart s t u p x.0 x.1 apart met x.2)

  pub cells : (t m : ℕ) → m < s.layout.mutexes → stored (waits t) w (cell_place s.layout m) ≡ s.words (cell_place s.layout m)
  cells t m inside = h.sees t (cell_place s.layout m) (λ u apart there. let x = h.own u _ there in own_no_cell s u _ m x.0 x.1 inside x.2 refl)

  -- nothing waits for the dead, and what they had pending is nobody else's
  pub pendings : (t : ℕ) → Pending_as s (stored (waits t) w)
  pendings t u first last dead = h.sees t (head_place u + 2) (λ y apart there. go y there (same_or_not y u))
    where
      go : (y : ℕ) → Waits (head_place u + 2) (waits y) → (y ≡ u) ⊎ (y ≢ u) → ⊥
      go y there (inl is) = subst (Waits (head_place u + 2)) (ap waits is ∙ h.dead u dead) there
      go y there (inr other) = let x = h.own y (head_place u + 2) there in own_apart s y u (head_place u + 2) x.0 x.1 first last other x.2 (inl (inr (inl refl)))

  -- ---- one store reaches memory

  module _ (t : ℕ) (x : Store) (xs : List Store) (is : waits t ≡ x ∷ xs) where
    abbrev then_words : ℕ → ℕ
    then_words = put w x.at x.value

    abbrev then_waits : ℕ → List Store
    then_waits = put waits t xs

    had : (p : ℕ) → Waits p (x ∷ xs) → Waits p (waits t)
    had p there = subst (Waits p) (sym is) there

    -- whose it still is, it was
    before : (u p : ℕ) → Waits p (then_waits u) → Waits p (waits u)
    before u p = by_put (λ ys. Waits p ys → Waits p (waits u)) waits t xs u (λ e there. subst (λ (k : ℕ). Waits p (waits k)) (sym e) (had p (inr there))) (λ other there. there)

    still : (u p : ℕ) → t ≢ u → Waits p (waits u) → Waits p (then_waits u)
    still u p apart there = subst (Waits p) (sym (put-other waits t xs u (λ e. apart (sym e)))) there

    its : then_waits t ≡ xs
    its = put-same waits t xs

    then_own : (u p : ℕ) → Waits p (then_waits u) → (1 ≤ u) × (u ≤ s.layout.threads) × IsOwn s u p
    then_own u p there = h.own u p (before u p there)

    of_t : (p : ℕ) → ((u : ℕ) → t ≢ u → Waits p (then_waits u) → ⊥) → stored xs then_words p ≡ s.words p
    of_t p out = sym (ap (λ (ys : List Store). stored ys w p) is) ∙ h.sees t p (λ u apart there. out u apart (still u p apart there))

    of_other : (u p : ℕ) → t ≢ u → ((y : ℕ) → u ≢ y → Waits p (then_waits y) → ⊥) → stored (waits u) then_words p ≡ s.words p
    of_other u p apart out = ⊎_elim at_it (λ other. stored-same (waits u) then_words w p (put-other w x.at x.value p other) ∙ h.sees u p (λ y differs there. none y differs other there)) (same_or_not p x.at)
      where
        gone : Waits p xs → ⊥
        gone there = out t (λ e. apart (sym e)) (subst (Waits p) (sym its) there)

        none : (y : ℕ) → u ≢ y → p ≢ x.at → Waits p (waits y) → ⊥
        none y differs other there = ⊎_elim
            (λ e. ⊎_elim (λ here. other (sym here)) gone (subst (Waits p) is (subst (λ (k : ℕ). Waits p (waits k)) (sym e) there)))
            (λ another. out y differs (still y p another there))
            (same_or_not t y)

        at_it : p ≡ x.at → stored (waits u) then_words p ≡ s.words p
        at_it e =
            let here = had p (inl (sym e)) in
            stored-out (waits u) then_words p (λ there. apart_there t u p apart here there)
            ∙ sym (stored-out xs then_words p gone)
            ∙ sym (ap (λ (ys : List Store). stored ys w p) is)
            ∙ h.sees t p (λ y differs there. apart_there t y p differs here there)

    pub drain_holds : Holds then_words then_waits s
    drain_holds = record {
      kept = h.kept;
      own = then_own;
      dead = λ u dying. ⊎_elim
          (λ e. absurd (cc (sym (h.dead u dying) ∙ ap waits (sym e) ∙ is)))
          (λ apart. put-other waits t xs u (λ e. apart (sym e)) ∙ h.dead u dying)
          (same_or_not t u);
      sees = λ u p out. ⊎_elim
          (λ e. subst (λ (k : ℕ). ((y : ℕ) → k ≢ y → Waits p (then_waits y) → ⊥) → stored (then_waits k) then_words p ≡ s.words p) e
          (λ none. ap (λ (ys : List Store). stored ys then_words p) its ∙ of_t p none) out)
          (λ apart. ap (λ (ys : List Store). stored ys then_words p) (put-other waits t xs u (λ e. apart (sym e))) ∙ of_other u p apart out)
          (same_or_not t u);
    }

-- ---- one event

-- a mutex is as it was where its cell is
pub seen_same : (s s' : State) (k : ℕ) → s'.layout ≡ s.layout → (k < s.layout.mutexes → s'.words (cell_place s.layout k) ≡ s.words (cell_place s.layout k)) → seen s' k ≡ seen s k
seen_same s s' k same cell = ap (λ (l : Layout'). if nat_lt k l.mutexes then object_of (fields_of (s'.words (cell_place l k))) else fresh) same ∙ go (nat_lt k s.layout.mutexes) refl
  where
    go : (b : Bool) → nat_lt k s.layout.mutexes ≡ b → (if b then object_of (fields_of (s'.words (cell_place s.layout k))) else fresh) ≡ (if b then object_of (fields_of (s.words (cell_place s.layout k))) else fresh)
    go true e = ap (λ (x : ℕ). object_of (fields_of x)) (cell (grind (arith, nat_tests)))
    go false e = refl

-- a thread's own word is its own still, where what it owns is
pub own_moves : (s s' : State) (u p : ℕ) → s'.layout ≡ s.layout → ((k : ℕ) → (seen s k).owner ≡ Some u → (seen s' k).owner ≡ Some u) → IsOwn s u p → IsOwn s' u p
own_moves s s' u p same keeps (inr offset) = inr offset
own_moves s s' u p same keeps (inl (inl first)) = inl (inl first)
own_moves s s' u p same keeps (inl (inr (inl pending))) = inl (inr (inl pending))
own_moves s s' u p same keeps (inl (inr (inr (k, inside, place, own)))) =
    inl (inr (inr (k, subst (λ (l : Layout'). k < l.mutexes) (sym same) inside, subst (λ (l : Layout'). (p ≡ entry_place l k) ⊎ (p ≡ entry_place l k + 1)) (sym same) place, keeps k own)))

-- where a way leads
abbrev words_by : Way → (ℕ → ℕ) → (ℕ → ℕ) → ℕ → ℕ
words_by Keeps w a = w
words_by (Appends xs) w a = w
words_by (Writes at) w a = put w at (a at)
words_by Flushes w a = a

abbrev waits_by : Way → ℕ → (ℕ → List Store) → ℕ → List Store
waits_by Keeps t waits = waits
waits_by (Appends xs) t waits = put waits t (waits t ++ xs)
waits_by (Writes at) t waits = waits
waits_by Flushes t waits = put waits t []

module _ (w : ℕ → ℕ) (waits : ℕ → List Store) (s s' : State) (t : ℕ) (a : ℕ → ℕ) (h : Holds w waits s) (kept : Kept s') (same : s'.layout ≡ s.layout) (stays : (u k : ℕ) → t ≢ u → (seen s k).owner ≡ Some u → (seen s' k).owner ≡ Some u)
  where
    abbrev v : ℕ → ℕ
    v = stored (waits t) w

    there_own : (u p : ℕ) → ((k : ℕ) → (seen s k).owner ≡ Some u → (seen s' k).owner ≡ Some u) → (1 ≤ u) × (u ≤ s.layout.threads) × IsOwn s u p → (1 ≤ u) × (u ≤ s'.layout.threads) × IsOwn s' u p
    there_own u p keeps (first, most, own) = (first, subst (λ (l : Layout'). u ≤ l.threads) (sym same) most, own_moves s s' u p same keeps own)

    others_own : (u p : ℕ) → t ≢ u → Waits p (waits u) → (1 ≤ u) × (u ≤ s'.layout.threads) × IsOwn s' u p
    others_own u p apart there = there_own u p (λ k own. stays u k apart own) (h.own u p there)

    all_own : ((k : ℕ) → k < s.layout.mutexes → s'.words (cell_place s.layout k) ≡ s.words (cell_place s.layout k)) → (u p : ℕ) → (1 ≤ u) × (u ≤ s.layout.threads) × IsOwn s u p → (1 ≤ u) × (u ≤ s'.layout.threads) × IsOwn s' u p
    all_own cell u p x = there_own u p (λ k own. ap (λ (o : Object). o.owner) (seen_same s s' k same (cell k)) ∙ own) x

    unlike : (ys : List Store) (u : ℕ) → t ≢ u → put waits t ys u ≡ waits u
    unlike ys u apart = put-other waits t ys u (λ e. apart (sym e))

    way_holds : (y : Way) → (IsWritten y → is_alive (s.threads t).stage ≡ true → (k : ℕ) → (seen s k).owner ≡ Some t → (seen s' k).owner ≡ Some t) → ((u : ℕ) → is_alive (s'.threads u).stage ≡ false → waits_by y t waits u ≡ []) → Does s t v y a s'.words → Holds (words_by y w a) (waits_by y t waits) s'
    way_holds Keeps keeps dead does = record {
      kept = kept;
      dead = dead;
      own = λ u p there. all_own (λ k inside. does (cell_place s.layout k)) u p (h.own u p there);
      sees = λ u p out. h.sees u p out ∙ sym (does p);
    }
    way_holds (Appends xs) keeps dead (pos, known, words, mine) = record {
      kept = kept;
      dead = dead;
      own = λ u p there. ⊎_elim
          (λ e. subst (λ (k : ℕ). Waits p (put waits t (waits t ++ xs) k) → (1 ≤ k) × (k ≤ s'.layout.threads) × IsOwn s' k p) e
          (λ at_t. ⊎_elim (λ old. all_own cell t p (h.own t p old)) (λ new. all_own cell t p (pos, known, mine p new)) (waits-on p (waits t) xs (subst (Waits p) (put-same waits t (waits t ++ xs)) at_t))) there)
          (λ apart. all_own cell u p (h.own u p (subst (Waits p) (unlike (waits t ++ xs) u apart) there)))
          (same_or_not t u);
      sees = λ u p out. ⊎_elim
          (λ e. subst (λ (k : ℕ). ((y : ℕ) → k ≢ y → Waits p (put waits t (waits t ++ xs) y) → ⊥) → stored (put waits t (waits t ++ xs) k) w p ≡ s'.words p) e (λ none. at_t p none) out)
          (λ apart. ap (λ (ys : List Store). stored ys w p) (unlike (waits t ++ xs) u apart) ∙ at_other u p apart out)
          (same_or_not t u);
    }
      where
        cell : (k : ℕ) → k < s.layout.mutexes → s'.words (cell_place s.layout k) ≡ s.words (cell_place s.layout k)
        cell k inside = words (cell_place s.layout k) ∙ stored-out xs s.words (cell_place s.layout k) (λ there. own_no_cell s t _ k pos known inside (mine _ there) refl)

        at_t : (p : ℕ) → ((y : ℕ) → t ≢ y → Waits p (put waits t (waits t ++ xs) y) → ⊥) → stored (put waits t (waits t ++ xs) t) w p ≡ s'.words p
        at_t p none =
            ap (λ (ys : List Store). stored ys w p) (put-same waits t (waits t ++ xs))
            ∙ ap (λ (f : ℕ → ℕ). f p) (stored-on (waits t) xs w)
            ∙ stored-same xs v s.words p (h.sees t p (λ y apart there. none y apart (subst (Waits p) (sym (unlike (waits t ++ xs) y apart)) there)))
            ∙ sym (words p)

        at_other : (u p : ℕ) → t ≢ u → ((y : ℕ) → u ≢ y → Waits p (put waits t (waits t ++ xs) y) → ⊥) → stored (waits u) w p ≡ s'.words p
        at_other u p apart out =
            let none : Waits p (waits t ++ xs) → ⊥ = λ there. out t (λ e. apart (sym e)) (subst (Waits p) (sym (put-same waits t (waits t ++ xs))) there) in
            h.sees u p (λ y differs there. ⊎_elim
            (λ e. none (waits-left p (waits t) xs (subst (λ (k : ℕ). Waits p (waits k)) (sym e) there)))
            (λ another. out y differs (subst (Waits p) (sym (unlike (waits t ++ xs) y another)) there))
            (same_or_not t y))
            ∙ sym (stored-out xs s.words p (λ there. none (waits-right p (waits t) xs there)))
            ∙ sym (words p)
    way_holds (Writes at) keeps dead (shared, same_there, elsewhere) = record {
      kept = kept;
      dead = dead;
      own = λ u p there. ⊎_elim
          (λ e. subst (λ (k : ℕ). Waits p (waits k) → (1 ≤ k) × (k ≤ s'.layout.threads) × IsOwn s' k p) e (λ at_t. there_own t p (keeps tt (alive_there p at_t)) (h.own t p at_t)) there)
          (λ apart. others_own u p apart there)
          (same_or_not t u);
      sees = λ u p out. ⊎_elim
          (λ e. stored-out (waits u) (put w at (a at)) p (λ there. not_there u (subst (λ (x : ℕ). Waits x (waits u)) e there))
          ∙ ap (put w at (a at)) e ∙ put-same w at (a at) ∙ same_there ∙ ap s'.words (sym e))
          (λ far. stored-same (waits u) (put w at (a at)) w p (put-other w at (a at) p far) ∙ h.sees u p out ∙ sym (elsewhere p far))
          (same_or_not p at);
    }
      where
        not_there : (u : ℕ) → Waits at (waits u) → ⊥
        not_there u there = let x = h.own u at there in shared_apart s u at x.0 x.1 shared x.2

        alive_there : (p : ℕ) → Waits p (waits t) → is_alive (s.threads t).stage ≡ true
        alive_there p there = go (is_alive (s.threads t).stage) refl
          where
            go : (b : Bool) → is_alive (s.threads t).stage ≡ b → b ≡ true
            go true e = refl
            go false e = absurd (subst (Waits p) (h.dead t e) there)
    way_holds Flushes keeps dead (at, met, same_there, elsewhere) = record {
      kept = kept;
      dead = dead;
      own = λ u p there. ⊎_elim
          (λ e. absurd (subst (Waits p) (put-same waits t []) (subst (λ (k : ℕ). Waits p (put waits t [] k)) (sym e) there)))
          (λ apart. others_own u p apart (subst (Waits p) (unlike [] u apart) there))
          (same_or_not t u);
      sees = λ u p out. ⊎_elim
          (λ e. subst (λ (k : ℕ). ((y : ℕ) → k ≢ y → Waits p (put waits t [] y) → ⊥) → stored (put waits t [] k) a p ≡ s'.words p) e (λ none. ap (λ (ys : List Store). stored ys a p) (put-same waits t []) ∙ at_t p none) out)
          (λ apart. ap (λ (ys : List Store). stored ys a p) (unlike [] u apart) ∙ at_other u p apart out (same_or_not p at))
          (same_or_not t u);
    }
      where
        at_t : (p : ℕ) → ((y : ℕ) → t ≢ y → Waits p (put waits t [] y) → ⊥) → a p ≡ s'.words p
        at_t p none = ⊎_elim
            (λ e. ap a e ∙ same_there ∙ ap s'.words (sym e))
            (λ apart. (elsewhere p apart).0 ∙ h.sees t p (λ y differs there. none y differs (subst (Waits p) (sym (unlike [] y differs)) there)) ∙ sym (elsewhere p apart).1)
            (same_or_not p at)

        at_other : (u p : ℕ) → t ≢ u → ((y : ℕ) → u ≢ y → Waits p (put waits t [] y) → ⊥) → (p ≡ at) ⊎ (p ≢ at) → stored (waits u) a p ≡ s'.words p
        at_other u p apart out (inl e) =
            stored-out (waits u) a p (λ there. let x = h.own u p there in met_apart s t u at x.0 x.1 apart met (subst (IsOwn s u) e x.2))
            ∙ ap a e ∙ same_there ∙ ap s'.words (sym e)
        at_other u p apart out (inr far) = ⊎_elim
            (λ has. stored-same (waits u) a w p ((elsewhere p far).0 ∙ stored-out (waits t) w p (λ there. apart_there w waits s h t u p apart there has))
            ∙ h.sees u p (λ y differs there. apart_there w waits s h u y p differs has there) ∙ sym (elsewhere p far).1)
            (λ hasnt. stored-out (waits u) a p hasnt ∙ (elsewhere p far).0
            ∙ h.sees t p (λ y differs there. ⊎_elim (λ e. hasnt (subst (λ (k : ℕ). Waits p (waits k)) (sym e) there)) (λ another. out y another (subst (Waits p) (sym (unlike [] y differs)) there)) (same_or_not u y))
            ∙ sym (elsewhere p far).1)
            (waits_or_not p (waits u))

-- memory stays
abbrev pub IsUnwritten : Way → Type 0
IsUnwritten Keeps = Unit {0}
IsUnwritten (Appends xs) = Unit {0}
IsUnwritten y = ⊥

memory_stays : (y : Way) (w a : ℕ → ℕ) → IsUnwritten y → words_by y w a ≡ w
memory_stays Keeps w a stays = refl
memory_stays (Appends xs) w a stays = refl
memory_stays y w a stays = absurd stays

-- whoever makes no event keeps its buffer
unlike_by : (y : Way) (t : ℕ) (waits : ℕ → List Store) (u : ℕ) → t ≢ u → waits_by y t waits u ≡ waits u
unlike_by Keeps t waits u apart = refl
unlike_by (Appends xs) t waits u apart = put-other waits t (waits t ++ xs) u (λ e. apart (sym e))
unlike_by (Writes at) t waits u apart = refl
unlike_by Flushes t waits u apart = put-other waits t [] u (λ e. apart (sym e))

still_by : (y : Way) (t : ℕ) (waits : ℕ → List Store) (u : ℕ) → IsStill y → waits_by y t waits u ≡ waits u
still_by Keeps t waits u still = refl
still_by (Writes at) t waits u still = refl
still_by y t waits u still = absurd still

-- nothing waits of whoever is dead after an event
dead_by : (w : ℕ → ℕ) (waits : ℕ → List Store) (s : State) (e : Event) → Holds w waits s → (u : ℕ) → is_alive ((happens s e).state.threads u).stage ≡ false → waits_by (way s e (happens s e).note) (caller e) waits u ≡ []
dead_by w waits s e h u dying = ⊎_elim
    (λ is. subst (λ (k : ℕ). is_alive ((happens s e).state.threads k).stage ≡ false → waits_by (way s e (happens s e).note) (caller e) waits k ≡ []) is its dying)
    (λ apart. unlike_by (way s e (happens s e).note) (caller e) waits u apart ∙ h.dead u (sym (ap (λ (z : Thread). is_alive z.stage) (others_stand s e h.kept u apart)) ∙ dying))
    (same_or_not (caller e) u)
  where
    its : is_alive ((happens s e).state.threads (caller e)).stage ≡ false → waits_by (way s e (happens s e).note) (caller e) waits (caller e) ≡ []
    its on = ⊎_elim
        (λ flushes. ap (λ (y : Way). waits_by y (caller e) waits (caller e)) flushes ∙ put-same waits (caller e) [])
        (λ (was, still). still_by (way s e (happens s e).note) (caller e) waits (caller e) still ∙ h.dead (caller e) was)
        (dies_so s e on)

-- what a thread has is all that it stored
pub view_is : (w : ℕ → ℕ) (xs : List Store) (g : Stage) → (is_alive g ≡ false → xs ≡ []) → words_seen xs w g ≡ stored xs w
view_is w xs (Dying r) none = sym (ap (λ (ys : List Store). stored ys w) (none refl))
view_is w xs Idle none = refl
view_is w xs (Calling o p) none = refl
view_is w xs (AtCondition c p) none = refl
view_is w xs Reaped none = refl

-- where an event leads
pub record Next (w : ℕ → ℕ) (waits : ℕ → List Store) (s : State) (e : Event) : Type 0 where
  pub words : ℕ → ℕ
  pub buffers : ℕ → List Store
  pub note : (seen_by (buffered w waits s) e).note ≡ (happens s e).note
  pub to : next (buffered w waits s) (Happens e) ≡ buffered words buffers (happens s e).state
  pub holds : Holds words buffers (happens s e).state
  pub unwritten : IsUnwritten (way s e (happens s e).note) → words ≡ w
  pub still : (happens s e).note ≡ Nothing → (words ≡ w) × (buffers ≡ waits)

module _ (w : ℕ → ℕ) (waits : ℕ → List Store) (s : State) (e : Event) (h : Holds w waits s) where
  abbrev who : ℕ
  who = caller e

  abbrev sees : ℕ → ℕ
  sees = stored (waits who) w

  abbrev on_view : After
  on_view = happens (with_words s sees) e

  view_is_all : words_seen (waits who) w (s.threads who).stage ≡ sees
  view_is_all = view_is w (waits who) (s.threads who).stage (h.dead who)

  abbrev its_way : Way
  its_way = way s e (happens s e).note

  alike : Comes s sees e on_view (happens s e)
  alike = events_alike s sees e h.kept (views w waits s h who) (cells w waits s h who) (pendings w waits s h who)

  left_is : (y : Way) → left_by (buffered w waits s) e on_view y ≡ buffered (words_by y w on_view.state.words) (waits_by y who waits) (happens s e).state
  left_is Keeps = ap (λ (z : State). buffered w waits z) alike.rest
  left_is (Appends xs) = ap (λ (z : State). buffered w (put waits who (waits who ++ xs)) z) alike.rest
  left_is (Writes at) = ap (λ (z : State). buffered (put w at (on_view.state.words at)) waits z) alike.rest
  left_is Flushes = ap (λ (z : State). record { memory = z; buffers = put waits who [] }) alike.rest

  pub happens_so : Next w waits s e
  happens_so = record {
    words = words_by its_way w on_view.state.words;
    buffers = waits_by its_way who waits;
    note = ap (λ (f : ℕ → ℕ). (happens (with_words s f) e).note) view_is_all ∙ alike.note;
    to = ap (λ (f : ℕ → ℕ). left_by (buffered w waits s) e (happens (with_words s f) e) (way s e (happens (with_words s f) e).note)) view_is_all
        ∙ ap (λ (n : Note). left_by (buffered w waits s) e on_view (way s e n)) alike.note
        ∙ left_is its_way;
    holds = way_holds w waits s (happens s e).state who on_view.state.words h (sound s e h.kept).kept (sound s e h.kept).same (owner_stays s e h.kept) its_way (own_stays s e h.kept) (dead_by w waits s e h) alike.does;
    unwritten = λ stays. memory_stays its_way w on_view.state.words stays;
    still = λ quiet. (ap (λ (n : Note). words_by (way s e n) w on_view.state.words) quiet, ap (λ (n : Note). waits_by (way s e n) who waits) quiet);
  }

-- ---- runs

pub record Ran (w : ℕ → ℕ) (waits : ℕ → List Store) (s : State) (hs : List Happening) : Type 0 where
  pub words : ℕ → ℕ
  pub buffers : ℕ → List Store
  pub told : noted (buffered w waits s) hs ≡ notes s (without_drains hs)
  pub to : run_buffered (buffered w waits s) hs ≡ buffered words buffers (run s (without_drains hs))
  pub holds : Holds words buffers (run s (without_drains hs))

drains_so : (hs : List Happening) (w : ℕ → ℕ) (waits : ℕ → List Store) (s : State) → Holds w waits s → (t : ℕ) → ((v : ℕ → ℕ) (ws : ℕ → List Store) → Holds v ws s → Ran v ws s hs) → (xs : List Store) → waits t ≡ xs → Ran w waits s (Drain t ∷ hs)
drains_so hs w waits s h t later [] is =
    let rest = later w waits h in
    record {
      words = rest.words;
      buffers = rest.buffers;
      told = ap (λ (ys : List Store). noted (drained (buffered w waits s) t ys) hs) is ∙ rest.told;
      to = ap (λ (ys : List Store). run_buffered (drained (buffered w waits s) t ys) hs) is ∙ rest.to;
      holds = rest.holds;
    }
drains_so hs w waits s h t later (x ∷ xs) is =
    let rest = later (put w x.at x.value) (put waits t xs) (drain_holds w waits s h t x xs is) in
    record {
      words = rest.words;
      buffers = rest.buffers;
      told = ap (λ (ys : List Store). noted (drained (buffered w waits s) t ys) hs) is ∙ rest.told;
      to = ap (λ (ys : List Store). run_buffered (drained (buffered w waits s) t ys) hs) is ∙ rest.to;
      holds = rest.holds;
    }

pub runs_so : (hs : List Happening) (w : ℕ → ℕ) (waits : ℕ → List Store) (s : State) → Holds w waits s → Ran w waits s hs
runs_so [] w waits s h = record { words = w; buffers = waits; told = refl; to = refl; holds = h }
runs_so (Happens e ∷ hs) w waits s h =
    let one = happens_so w waits s e h in
    let rest = runs_so hs one.words one.buffers (happens s e).state one.holds in
    record {
      words = rest.words;
      buffers = rest.buffers;
      told = ap (λ (n : Note). n ∷ noted (next (buffered w waits s) (Happens e)) hs) one.note
          ∙ ap (λ (b : Buffered). (happens s e).note ∷ noted b hs) one.to
          ∙ ap (λ (ns : List Note). (happens s e).note ∷ ns) rest.told;
      to = ap (λ (b : Buffered). run_buffered b hs) one.to ∙ rest.to;
      holds = rest.holds;
    }
runs_so (Drain t ∷ hs) w waits s h = drains_so hs w waits s h t (λ v ws held. runs_so hs v ws s held) (waits t) refl

-- ---- what that says

module _ (w : ℕ → ℕ) (waits : ℕ → List Store) (s : State) (h : Holds w waits s) where
  abbrev all : ℕ → ℕ → ℕ
  all n = all_stored (buffered w waits s) n

  -- a word of one of the first n threads, or of none
  abbrev Stands : ℕ → ℕ → Type 0
  Stands n p = ((t : ℕ) × (t ≤ n) × Waits p (waits t) × (all n p ≡ s.words p)) ⊎ (((t : ℕ) → 1 ≤ t → t ≤ n → Waits p (waits t) → ⊥) × (all n p ≡ w p))

  stands : (n p : ℕ) → Stands n p
  stands zero p = inr (λ t first none there. absurd (omega (arith, first, none)), refl)
  stands (suc n) p = ⊎_elim
      (λ has. ⊎_elim
      (λ (t, below, there, is). absurd (apart_there w waits s h t (suc n) p (λ e. omega (arith, below, e)) there has))
      (λ (none, is). inl (suc n, omega arith, has, stored-same (waits (suc n)) (all n) w p is ∙ h.sees (suc n) p (λ y differs there. apart_there w waits s h (suc n) y p differs has there)))
      (stands n p))
      (λ hasnt. ⊎_elim
      (λ (t, below, there, is). inl (t, omega (arith, below), there, stored-out (waits (suc n)) (all n) p hasnt ∙ is))
      (λ (none, is). inr (λ t first most there. ⊎_elim (λ e. hasnt (subst (λ (k : ℕ). Waits p (waits k)) e there)) (λ other. none t first (omega (arith, most, other)) there) (same_or_not t (suc n)), stored-out (waits (suc n)) (all n) p hasnt ∙ is))
      (stands n p))
      (waits_or_not p (waits (suc n)))

  -- nobody's word
  in_memory : (p : ℕ) → ((t : ℕ) → Waits p (waits t) → ⊥) → w p ≡ s.words p
  in_memory p none = sym (stored-out (waits 0) w p (none 0)) ∙ h.sees 0 p (λ u apart there. none u there)

  all_is : all s.layout.threads ≡ s.words
  all_is = fun_ext (λ p. ⊎_elim
      (λ (t, below, there, is). is)
      (λ (none, is). is ∙ in_memory p (λ t there. let x = h.own t p there in none t x.0 x.1 there))
      (stands s.layout.threads p))

  pub settled_is : settled (buffered w waits s) ≡ s
  settled_is = ap (with_words s) all_is

  pub cell_is : (m : ℕ) → m < s.layout.mutexes → w (cell_place s.layout m) ≡ s.words (cell_place s.layout m)
  cell_is m inside = in_memory (cell_place s.layout m) (λ t there. let x = h.own t _ there in own_no_cell s t _ m x.0 x.1 inside x.2 refl)

  counter_is : (c : ℕ) → w (counter_place s.layout c) ≡ s.words (counter_place s.layout c)
  counter_is c = in_memory (counter_place s.layout c) (λ t there. let x = h.own t _ there in own_no_counter s t _ c x.0 x.1 x.2 refl)

  -- so its mutexes are the machine's
  pub seen_is : (m : ℕ) → seen (with_words s w) m ≡ seen s m
  seen_is m = seen_same s (with_words s w) m refl (cell_is m)

  pub waits_apart : WaitsApart (buffered w waits s)
  waits_apart = record {
    own = λ t p there. let x = h.own t p there in (x.0, x.1, subst (λ (z : State). IsItsOwn z t p) (sym settled_is) (own_is_its s t p x.2));
    apart = λ t u p differs a b. apart_there w waits s h t u p differs a b;
    cells = λ m inside. cell_is m inside ∙ sym (ap (λ (f : ℕ → ℕ). f (cell_place s.layout m)) all_is);
    counters = λ c. counter_is c ∙ sym (ap (λ (f : ℕ → ℕ). f (counter_place s.layout c)) all_is);
    dead = h.dead;
  }

pub begins : (l : Layout') (counters : ℕ → ℕ) → IsLayout l → Holds (start l counters).words (λ t. []) (start l counters)
begins l counters is = record { kept = start_kept l counters is; own = λ t p there. absurd there; dead = λ t on. refl; sees = λ t p out. refl }

pub change_nothing : BuffersChangeNothing
change_nothing l counters hs is =
    let ran = runs_so hs (start l counters).words (λ t. []) (start l counters) (begins l counters is) in
    record {
      notes = ran.told;
      state = ap settled ran.to ∙ settled_is ran.words ran.buffers (run (start l counters) (without_drains hs)) ran.holds;
      waits = subst WaitsApart (sym ran.to) (waits_apart ran.words ran.buffers (run (start l counters) (without_drains hs)) ran.holds);
    }
