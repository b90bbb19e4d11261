-- Events that are tried, one after the other.
use Rattle.std.proofs.Common.{◌≡◌, ◌⊎◌, inl, inr, ⊎_elim, ℕ, ◌+◌, ◌<◌, ◌≤◌, Bool, true, false, ◌&&◌, ◌||◌, List, length, Some, Result, Ok, Err, refl, sym, subst, arith}
use Rattle.std.specs.Prelude.{IfOk, nat_le}
use Rattle.std.proofs.lemmas.Bool.Decides.{nat_tests}
use Rattle.protocol.specs.declared.event.Event.{Event}
use Rattle.protocol.specs.declared.event.Event.TheVariants.{Begin, Step, Expire}
use Rattle.outcomes.specs.declared.plan.Plan.{Plan}
use Rattle.outcomes.specs.declared.events.Kind.{Kind}
use Rattle.outcomes.specs.declared.events.Kind.TheVariants as kind
use Rattle.outcomes.specs.declared.search.Reached.{Reached}
use Rattle.outcomes.specs.declared.search.Tried.{Tried}
use Rattle.outcomes.specs.declared.search.Tried.TheVariants.{Never, Found, NoRoom}
use Rattle.outcomes.specs.Positions.{Position}
use Rattle.outcomes.specs.Events.{MayCome, after}
use Rattle.outcomes.specs.Runs.{GoesOn}
use Rattle.outcomes.specs.Searches.{Has, Grows, IsOf, IsTried, IsTriedOf, IsThread, AreThreads, thread_of, event_for, came, had_room}
use Rattle.outcomes.proofs.Asking.{found_asked, asked_found, of_a_kind}
use Rattle.outcomes.proofs.Reaching.{has_grown, long_grown}

pub if_ok_map : {A E : Type 0} (r : Result A E) (P Q : A → Type 0) → ((x : A) → P x → Q x) → IfOk r P → IfOk r Q
if_ok_map (Ok x) P Q f h = f x h
if_ok_map (Err e) P Q f h = tt

module _ (plan : Plan) (p : Position) (limit : ℕ) (rs : List Reached) where
  -- an event that was tried is the one of its kind and thread
  pub tried_of : (k : Kind) (t : ℕ) (e : Event) → event_for plan p k t ≡ Some e → (x : Tried) → IsTried plan p limit rs e x → IsTriedOf plan p limit rs k t x
  tried_of k t e is x h = go x h
    where
      one : (f : Event) → IsOf k f → thread_of f ≡ t → MayCome plan p f → e ≡ f
      one f of whose may = (let found = subst (λ (u : ℕ). event_for plan p k u ≡ Some f) whose (asked_found plan p k f may.0 of) in cc)

      go : (x : Tried) → IsTried plan p limit rs e x → IsTriedOf plan p limit rs k t x
      go Never h = λ f of whose may. h (subst (MayCome plan p) (sym (one f of whose may)) may)
      go Found h = (e, (found_asked plan p k t e is).1, h.0, λ f of whose may. subst (λ (z : Event). Has plan.layout rs (after plan p z)) (one f of whose may) h.1)
      go NoRoom h = (e, (found_asked plan p k t e is).1, h.0, h.1)

  -- ---- what one says

  goes_of : (k : Kind) (t : ℕ) (x : Tried) → ((e : Event) → IsOf k e → GoesOn e) → IsTriedOf plan p limit rs k t x → came x ≡ true → (e : Event) × GoesOn e × MayCome plan p e
  goes_of k t Never on h c = absurd cc
  goes_of k t Found on h c = (h.0, on h.0 h.1, h.2)
  goes_of k t NoRoom on h c = (h.0, on h.0 h.1, h.2)

  over_of : (k : Kind) (t : ℕ) (x : Tried) → IsTriedOf plan p limit rs k t x → came x ≡ false → (e : Event) → IsOf k e → thread_of e ≡ t → MayCome plan p e → ⊥
  over_of k t Never h c = h
  over_of k t Found h c = absurd cc
  over_of k t NoRoom h c = absurd cc

  closed_of : (k : Kind) (t : ℕ) (x : Tried) → IsTriedOf plan p limit rs k t x → had_room x ≡ true → (e : Event) → IsOf k e → thread_of e ≡ t → MayCome plan p e → Has plan.layout rs (after plan p e)
  closed_of k t Never h c e of whose may = absurd (h e of whose may)
  closed_of k t Found h c e of whose may = h.3 e of whose may
  closed_of k t NoRoom h c e of whose may = absurd cc

  full_of : (k : Kind) (t : ℕ) (x : Tried) → IsTriedOf plan p limit rs k t x → had_room x ≡ false → limit ≤ length rs
  full_of k t Never h c = absurd cc
  full_of k t Found h c = absurd cc
  full_of k t NoRoom h c = h.3

  begin_goes : (e : Event) → IsOf kind.Begin e → GoesOn e
  begin_goes (Begin t o) of = tt
  begin_goes e of = absurd of

  step_goes : (e : Event) → IsOf kind.Step e → GoesOn e
  step_goes (Step t) of = tt
  step_goes e of = absurd of

  expire_goes : (e : Event) → IsOf kind.Expire e → GoesOn e
  expire_goes (Expire t) of = tt
  expire_goes e of = absurd of

  three_true : (a b c : Bool) → ((a || b) || c) ≡ true → (a ≡ true) ⊎ ((b ≡ true) ⊎ (c ≡ true))
  three_true true b c h = inl refl
  three_true false true c h = inr (inl refl)
  three_true false false c h = inr (inr h)

  three_false : (a b c : Bool) → ((a || b) || c) ≡ false → (a ≡ false) × (b ≡ false) × (c ≡ false)
  three_false true b c h = absurd cc
  three_false false true c h = absurd cc
  three_false false false c h = (refl, refl, h)

  all_true : (a b c d e f : Bool) → (((a && b) && c) && ((d && e) && f)) ≡ true → (a ≡ true) × (b ≡ true) × (c ≡ true) × (d ≡ true) × (e ≡ true) × (f ≡ true)
  all_true true true true true true f h = (refl, refl, refl, refl, refl, h)
  all_true true true true true false f h = absurd cc
  all_true true true true false e f h = absurd cc
  all_true true true false d e f h = absurd cc
  all_true true false c d e f h = absurd cc
  all_true false b c d e f h = absurd cc

  one_false : (a b c d e f : Bool) → (((a && b) && c) && ((d && e) && f)) ≡ false → (a ≡ false) ⊎ ((b ≡ false) ⊎ ((c ≡ false) ⊎ ((d ≡ false) ⊎ ((e ≡ false) ⊎ (f ≡ false)))))
  one_false false b c d e f h = inl refl
  one_false true false c d e f h = inr (inl refl)
  one_false true true false d e f h = inr (inr (inl refl))
  one_false true true true false e f h = inr (inr (inr (inl refl)))
  one_false true true true true false f h = inr (inr (inr (inr (inl refl))))
  one_false true true true true true f h = inr (inr (inr (inr (inr h))))

  -- ---- what all six say of a thread
  pub six_tried : (t : ℕ) (b s x k l r : Tried) → IsTriedOf plan p limit rs kind.Begin t b → IsTriedOf plan p limit rs kind.Step t s → IsTriedOf plan p limit rs kind.Expire t x → IsTriedOf plan p limit rs kind.Kill t k → IsTriedOf plan p limit rs kind.Leave t l
      → IsTriedOf plan p limit rs kind.Spare t r → IsThread plan p limit rs t ((came b || came s) || came x) (((had_room b && had_room s) && had_room x) && ((had_room k && had_room l) && had_room r))
  six_tried t b s x k l r hb hs hx hk hl hr = record {
    goes = λ on. ⊎_elim (λ c. goes_of kind.Begin t b begin_goes hb c) (λ more. ⊎_elim (λ c. goes_of kind.Step t s step_goes hs c) (λ c. goes_of kind.Expire t x expire_goes hx c) more) (three_true (came b) (came s) (came x) on);
    over = λ off e whose goes may. let n = three_false (came b) (came s) (came x) off in ends n.0 n.1 n.2 e whose goes may;
    closed = λ room e whose may. let a = all_true (had_room b) (had_room s) (had_room x) (had_room k) (had_room l) (had_room r) room in let of = of_a_kind plan p e may in by_kind a.0 a.1 a.2 a.3 a.4 a.5 of.0 e of.1 whose may;
    full = λ none. ⊎_elim (λ c. full_of kind.Begin t b hb c) (λ m. ⊎_elim (λ c. full_of kind.Step t s hs c) (λ m. ⊎_elim (λ c. full_of kind.Expire t x hx c) (λ m. ⊎_elim (λ c. full_of kind.Kill t k hk c) (λ m. ⊎_elim (λ c. full_of kind.Leave t l hl c) (λ c. full_of kind.Spare t r hr c) m) m) m) m)
        (one_false (had_room b) (had_room s) (had_room x) (had_room k) (had_room l) (had_room r) none);
  }
    where
      ends : came b ≡ false → came s ≡ false → came x ≡ false → (e : Event) → thread_of e ≡ t → GoesOn e → MayCome plan p e → ⊥
      ends nb ns nx (Begin u o) whose goes may = over_of kind.Begin t b hb nb (Begin u o) tt whose may
      ends nb ns nx (Step u) whose goes may = over_of kind.Step t s hs ns (Step u) tt whose may
      ends nb ns nx (Expire u) whose goes may = over_of kind.Expire t x hx nx (Expire u) tt whose may
      ends nb ns nx e whose goes may = absurd goes

      by_kind : had_room b ≡ true → had_room s ≡ true → had_room x ≡ true → had_room k ≡ true → had_room l ≡ true → had_room r ≡ true → (q : Kind) (e : Event) → IsOf q e → thread_of e ≡ t → MayCome plan p e → Has plan.layout rs (after plan p e)
      by_kind ab az ax ak al ar kind.Begin = closed_of kind.Begin t b hb ab
      by_kind ab az ax ak al ar kind.Step = closed_of kind.Step t s hs az
      by_kind ab az ax ak al ar kind.Expire = closed_of kind.Expire t x hx ax
      by_kind ab az ax ak al ar kind.Kill = closed_of kind.Kill t k hk ak
      by_kind ab az ax ak al ar kind.Leave = closed_of kind.Leave t l hl al
      by_kind ab az ax ak al ar kind.Spare = closed_of kind.Spare t r hr ar

-- ---- as more is reached

pub tried_grown : (plan : Plan) (p : Position) (limit : ℕ) (old new : List Reached) → Grows old new → (k : Kind) (t : ℕ) (x : Tried) → IsTriedOf plan p limit old k t x → IsTriedOf plan p limit new k t x
tried_grown plan p limit old new grows k t Never h = h
tried_grown plan p limit old new grows k t Found h = (h.0, h.1, h.2, λ f of whose may. has_grown old new grows plan.layout (after plan p f) (h.3 f of whose may))
tried_grown plan p limit old new grows k t NoRoom h = (h.0, h.1, h.2, (let long = long_grown old new grows in let full = h.3 in omega arith))

either : (a b : Bool) → (a || b) ≡ true → (a ≡ true) ⊎ (b ≡ true)
either true b h = inl refl
either false b h = inr h

neither : (a b : Bool) → (a || b) ≡ false → (a ≡ false) × (b ≡ false)
neither true b h = absurd cc
neither false b h = (refl, h)

both : (a b : Bool) → (a && b) ≡ true → (a ≡ true) × (b ≡ true)
both true b h = (refl, h)
both false b h = absurd cc

not_both : (a b : Bool) → (a && b) ≡ false → (a ≡ false) ⊎ (b ≡ false)
not_both true b h = inr h
not_both false b h = inl refl

pub no_threads : (plan : Plan) (p : Position) (limit : ℕ) (rs : List Reached) → AreThreads plan p limit rs 0 false true
no_threads plan p limit rs = record {
  goes = λ on. absurd cc;
  over = λ off e first last goes may. omega (arith, first, last);
  closed = λ room e first last may. absurd (omega (arith, first, last));
  full = λ none. absurd cc;
}

-- one thread more
pub more_threads : (plan : Plan) (p : Position) (limit : ℕ) (old new : List Reached) (n t : ℕ) (on room on' room' : Bool) → Grows old new → t ≡ n + 1 → AreThreads plan p limit old n on room → IsThread plan p limit new t on' room' → AreThreads plan p limit new (n + 1) (on || on') (room && room')
more_threads plan p limit old new n t on room on' room' grows is before this = record {
  goes = λ h. ⊎_elim before.goes this.goes (either on on' h);
  over = λ h e first last goes may. let no = neither on on' h in elim_last e first last (λ lower. before.over no.0 e first lower goes may) (λ it. this.over no.1 e it goes may);
  closed = λ h e first last may. let yes = both room room' h in elim_last' e first last (λ lower. has_grown old new grows plan.layout (after plan p e) (before.closed yes.0 e first lower may)) (λ it. this.closed yes.1 e it may);
  full = λ h. ⊎_elim (λ a. let full = before.full a in let long = long_grown old new grows in omega arith) this.full (not_both room room' h);
}
  where
    split : (u : ℕ) → u ≤ n + 1 → (u ≤ n) ⊎ (u ≡ t)
    split u last = go (nat_le u n) refl
      where
        go : (b : Bool) → nat_le u n ≡ b → (u ≤ n) ⊎ (u ≡ t)
        go true e = inl (grind (arith, nat_tests))
        go false e = let high : n < u = grind (arith, nat_tests) in inr (omega (arith, high, last, is))

    elim_last : (e : Event) → 1 ≤ thread_of e → thread_of e ≤ n + 1 → (thread_of e ≤ n → ⊥) → (thread_of e ≡ t → ⊥) → ⊥
    elim_last e first last f g = ⊎_elim f g (split (thread_of e) last)

    elim_last' : (e : Event) → 1 ≤ thread_of e → thread_of e ≤ n + 1 → (thread_of e ≤ n → Has plan.layout new (after plan p e)) → (thread_of e ≡ t → Has plan.layout new (after plan p e)) → Has plan.layout new (after plan p e)
    elim_last' e first last f g = ⊎_elim f g (split (thread_of e) last)
