-- Each exchange and each wake has its reason in the answer before it.
use Rattle.std.proofs.Common.{◌≡◌, ℕ, ◌==◌, Bool, true, false, Some, refl, sym, ap, ◌∙◌, subst, eqb-true}
use Rattle.std.specs.Prelude.{if◌then◌else◌, ◌||◌, ◌&&◌}
use Rattle.lockword.specs.Cells.{fields_of}
use Rattle.stepprograms.specs.declared.access.Access.{Access}
use Rattle.stepprograms.specs.declared.access.Access.TheVariants.{Exchange, Wake}
use Rattle.stepprograms.specs.declared.access.Answer.{Answer}
use Rattle.stepprograms.specs.declared.access.Answer.TheVariants.{Value, Exchanged, Changed, Count}
use Rattle.stepprograms.specs.Accesses.{address_of, IsAnswerOf}
use Rattle.exitwalk.specs.declared.row.Rest.{Rest}
use Rattle.exitwalk.specs.declared.row.Part.{Part}
use Rattle.exitwalk.specs.declared.row.Part.TheVariants as part
use Rattle.exitwalk.specs.declared.row.Row.{Row}
use Rattle.exitwalk.specs.declared.row.Row.TheVariants.{LoadFirst, LoadOffset, LoadPending, LoadNext, LoadWord, Mark, WakeOne, Ended}
use Rattle.exitwalk.specs.Words.{sum_of, owner_in, has_waiters, died_word}
use Rattle.exitwalk.specs.Walks.{marked_word, row_access, row_after, is_pending, to_pending, forward, goes_on, further, after_next, looks, IsGoing}
use Rattle.exitwalk.specs.AnyAnswers.{IsExchange, told, Asks, WakesFor, AnyAnswersEnd}
use Rattle.exitwalk.proofs.Treatments.{marked_died}
use Rattle.exitwalk.proofs.Ends.{stays, ends, loads}

-- a row whose access only loads
abbrev pub Only : Row → Type 0
Only (Mark at seen again p) = ⊥
Only (WakeOne at p) = ⊥
Only r = Unit {0}

module _ (h : ℕ) where
  no_exchange : (r : Row) → Only r → (at old new : ℕ) → row_access h r ≡ Exchange at old new → ⊥
  no_exchange (Mark a seen again p) only at old new is = only
  no_exchange (WakeOne a p) only at old new is = only
  no_exchange LoadFirst only at old new is = cc
  no_exchange (LoadOffset first) only at old new is = cc
  no_exchange (LoadPending first offset) only at old new is = cc
  no_exchange (LoadNext r) only at old new is = cc
  no_exchange (LoadWord a p) only at old new is = cc
  no_exchange Ended only at old new is = cc

  no_wake : (r : Row) → Only r → (at n : ℕ) → row_access h r ≡ Wake at n → ⊥
  no_wake (Mark a seen again p) only at n is = only
  no_wake (WakeOne a p) only at n is = only
  no_wake LoadFirst only at n is = cc
  no_wake (LoadOffset first) only at n is = cc
  no_wake (LoadPending first offset) only at n is = cc
  no_wake (LoadNext r) only at n is = cc
  no_wake (LoadWord a p) only at n is = cc
  no_wake Ended only at n is = cc

  -- on after a word
  lasts : (offset pending : ℕ) → Only (to_pending offset pending)
  lasts offset pending = go (pending == 0)
    where
      go : (b : Bool) → Only (if b then Ended else LoadWord (sum_of pending offset) part.Pending)
      go true = tt
      go false = tt

  forwards : (r : Rest) → Only (forward h r)
  forwards r = go (r.entry == h || r.loaded == 2048)
    where
      go : (b : Bool) → Only (if b then to_pending r.offset r.pending else LoadNext r)
      go true = lasts r.offset r.pending
      go false = tt

  goes : (p : Part) → Only (goes_on h p)
  goes (part.List r) = forwards r
  goes part.Pending = tt

  next : (r : Rest) (v : ℕ) → Only (after_next h r v)
  next r v = go (r.entry == r.pending)
    where
      go : (b : Bool) → Only (if b then forward h (further r v) else LoadWord (sum_of r.entry r.offset) (part.List (further r v)))
      go true = forwards (further r v)
      go false = tt

-- what a walk may do with a word that was reported to it
pub record Minds (t h : ℕ) (x : Access) (a : Answer) (r : Row) : Type 0 where
  pub asks : (at old new : ℕ) → row_access h r ≡ Exchange at old new → Asks t x a at old new
  pub wakes : (at n : ℕ) → row_access h r ≡ Wake at n → (address_of x ≡ at) × (n ≡ 1) × WakesFor x a

module _ (t h : ℕ) where
  quiet : (x : Access) (a : Answer) (r : Row) → Only r → Minds t h x a r
  quiet x a r only = record { asks = λ at old new is. absurd (no_exchange h r only at old new is); wakes = λ at n is. absurd (no_wake h r only at n is) }

  -- a word that is to be marked
  marks : (x : Access) (a : Answer) (at v : ℕ) (again : Bool) (p : Part) → address_of x ≡ at → told x a ≡ Some v → owner_in v ≡ t → Minds t h x a (Mark at v again p)
  marks x a at v again p here given own = record {
    asks = λ b old new is.
        let place : at ≡ b = cc is in
        let seen : v ≡ old = cc is in
        let change : marked_word v ≡ new = cc is in
        record { place = here ∙ place; given = given ∙ ap Some seen; owner = ap owner_in (sym seen) ∙ own; change = sym change ∙ marked_died v ∙ ap died_word seen };
    wakes = λ b n is. absurd (cc is);
  }

  -- a word whose sleeper is to be woken
  rouses : (x : Access) (a : Answer) (at : ℕ) (p : Part) → address_of x ≡ at → WakesFor x a → Minds t h x a (WakeOne at p)
  rouses x a at p here why = record {
    asks = λ b old new is. absurd (cc is);
    wakes = λ b n is.
        let place : at ≡ b = cc is in
        let one : 1 ≡ n = cc is in
        (here ∙ place, sym one, why);
  }

  -- a word that is seen
  sees : (x : Access) (a : Answer) (at v : ℕ) (again : Bool) (p : Part) → address_of x ≡ at → told x a ≡ Some v → (owner_in v ≡ 0 → WakesFor x a) → Minds t h x a (looks t h at v again p)
  sees x a at v again p here given wake = go (is_pending p) ((fields_of v).owner == 0) refl ((fields_of v).owner == t) refl
    where
      go : (b n : Bool) → ((fields_of v).owner == 0) ≡ n → (o : Bool) → ((fields_of v).owner == t) ≡ o → Minds t h x a (if b && n then WakeOne at p else if o then Mark at v again p else goes_on h p)
      go true true none o own = rouses x a at p here (wake (eqb-true (owner_in v) 0 none))
      go true false some true own = marks x a at v again p here given (eqb-true (owner_in v) t own)
      go true false some false own = quiet x a (goes_on h p) (goes h p)
      go false n some true own = marks x a at v again p here given (eqb-true (owner_in v) t own)
      go false n some false own = quiet x a (goes_on h p) (goes h p)

  -- a word that was marked
  rouses_marked : (at seen : ℕ) (again : Bool) (p : Part) (b : Bool) → has_waiters seen ≡ b → Minds t h (row_access h (Mark at seen again p)) Exchanged (if b then WakeOne at p else goes_on h p)
  rouses_marked at seen again p true waits = rouses _ _ at p refl waits
  rouses_marked at seen again p false nobody = quiet _ _ (goes_on h p) (goes h p)

  after : (r : Row) (a : Answer) → Minds t h (row_access h r) a (row_after t h r a)
  after LoadFirst (Value v) = quiet _ _ (LoadOffset v) tt
  after LoadFirst a = quiet _ _ Ended tt
  after (LoadOffset first) (Value v) = quiet _ _ (LoadPending first v) tt
  after (LoadOffset first) a = quiet _ _ Ended tt
  after (LoadPending first offset) (Value v) = quiet _ _ _ (forwards h (record { entry = first; offset = offset; pending = v; loaded = 0 }))
  after (LoadPending first offset) a = quiet _ _ Ended tt
  after (LoadNext r) (Value v) = quiet _ _ _ (next h r v)
  after (LoadNext r) a = quiet _ _ Ended tt
  after (LoadWord at p) (Value v) = sees _ _ at v false p refl refl (λ none. none)
  after (LoadWord at p) a = quiet _ _ Ended tt
  after (Mark at seen again p) Exchanged = rouses_marked at seen again p (has_waiters seen) refl
  after (Mark at seen true p) (Changed v) = quiet _ _ (goes_on h p) (goes h p)
  after (Mark at seen false p) (Changed v) = sees _ _ at v true p refl refl (λ none. none)
  after (Mark at seen again p) a = quiet _ _ Ended tt
  after (WakeOne at p) (Count n) = quiet _ _ (goes_on h p) (goes h p)
  after (WakeOne at p) a = quiet _ _ Ended tt
  after Ended a = quiet _ _ _ (subst (λ (z : Row). Only z) (sym (stays t h a)) tt)

  -- a row that only loads is no exchange
  loads_only : (r : Row) → Only r → IsExchange (row_access h r) → ⊥
  loads_only (Mark a seen again p) only is = only
  loads_only (WakeOne a p) only is = only
  loads_only LoadFirst only is = is
  loads_only (LoadOffset first) only is = is
  loads_only (LoadPending first offset) only is = is
  loads_only (LoadNext r) only is = is
  loads_only (LoadWord a p) only is = is
  loads_only Ended only is = is

  -- after a mark there is no exchange
  marked_last : (at : ℕ) (p : Part) (b : Bool) → IsExchange (row_access h (if b then WakeOne at p else goes_on h p)) → ⊥
  marked_last at p true is = is
  marked_last at p false is = loads_only (goes_on h p) (goes h p) is

  -- after a second exchange neither
  second_last : (at seen : ℕ) (p : Part) (a : Answer) → IsExchange (row_access h (row_after t h (Mark at seen true p) a)) → ⊥
  second_last at seen p Exchanged is = marked_last at p (fields_of seen).waiters is
  second_last at seen p (Changed v) is = loads_only (goes_on h p) (goes h p) is
  second_last at seen p a is = is

  -- after a first one there may be a second
  third : (at v : ℕ) (p : Part) (a : Answer) (x y : Bool) → IsExchange (row_access h (if x then WakeOne at p else if y then Mark at v true p else goes_on h p))
      → IsExchange (row_access h (row_after t h (if x then WakeOne at p else if y then Mark at v true p else goes_on h p) a)) → ⊥
  third at v p a true y is more = is
  third at v p a false true is more = second_last at v p a more
  third at v p a false false is more = loads_only (goes_on h p) (goes h p) is

  twice : (r : Row) (a b : Answer) → IsExchange (row_access h r) → IsExchange (row_access h (row_after t h r a)) → IsExchange (row_access h (row_after t h (row_after t h r a) b)) → ⊥
  twice (Mark at seen again p) Exchanged b one two three = marked_last at p (fields_of seen).waiters two
  twice (Mark at seen true p) (Changed v) b one two three = loads_only (goes_on h p) (goes h p) two
  twice (Mark at seen false p) (Changed v) b one two three = third at v p b (is_pending p && ((fields_of v).owner == 0)) ((fields_of v).owner == t) two three
  twice (Mark at seen again p) a b one two three = two
  twice LoadFirst a b one two three = one
  twice (LoadOffset first) a b one two three = one
  twice (LoadPending first offset) a b one two three = one
  twice (LoadNext r) a b one two three = one
  twice (LoadWord at p) a b one two three = one
  twice (WakeOne at p) a b one two three = one
  twice Ended a b one two three = one

  -- an answer that isn't one of its access
  faults : (r : Row) (a : Answer) → IsGoing r → ¬ IsAnswerOf (row_access h r) a → row_after t h r a ≡ Ended
  faults LoadFirst (Value v) going other = absurd (other tt)
  faults LoadFirst a going other = refl
  faults (LoadOffset first) (Value v) going other = absurd (other tt)
  faults (LoadOffset first) a going other = refl
  faults (LoadPending first offset) (Value v) going other = absurd (other tt)
  faults (LoadPending first offset) a going other = refl
  faults (LoadNext r) (Value v) going other = absurd (other tt)
  faults (LoadNext r) a going other = refl
  faults (LoadWord at p) (Value v) going other = absurd (other tt)
  faults (LoadWord at p) a going other = refl
  faults (Mark at seen again p) Exchanged going other = absurd (other tt)
  faults (Mark at seen again p) (Changed v) going other = absurd (other tt)
  faults (Mark at seen again p) a going other = refl
  faults (WakeOne at p) (Count n) going other = absurd (other tt)
  faults (WakeOne at p) a going other = refl
  faults Ended a going other = absurd going

pub end : AnyAnswersEnd
end = record {
  ends = ends;
  loads = loads;
  asks = λ t h r a. (after t h r a).asks;
  twice = twice;
  wakes = λ t h r a. (after t h r a).wakes;
  faults = faults;
}
