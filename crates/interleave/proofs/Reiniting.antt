-- Mutexes that are reinitialised: the store of the cell is a write into the state.
use Rattle.std.proofs.Common.{◌≡◌, ℕ, ◌<◌, Bool, true, false, ◌&&◌, List, length, sym, ap, ◌∙◌, arith}
use Rattle.std.specs.Prelude.{if◌then◌else◌, slice_index, nat_lt}
use Rattle.std.proofs.lemmas.Bool.Decides.{nat_tests}
use Rattle.stepprograms.specs.declared.access.Access.TheVariants.{Store}
use Rattle.memorymap.specs.Layouts.{Layout', cell_place, words_of}
use Rattle.syscalls.specs.Kernels.{Kernel', queue_of}
use Rattle.syscalls.specs.Memories.{words_after}
use Rattle.protocol.specs.declared.event.Event.TheVariants.{Remake}
use Rattle.protocol.specs.declared.thread.Thread.{Thread}
use Rattle.protocol.specs.Machine.{State, After, put, is_idle, is_unusable, may_remake, waiters_of, has_thread, nothing, reinited, happens}
use Rattle.interleave.specs.Shown.{state_at}
use Rattle.interleave.proofs.Views.{words-set}
use Rattle.interleave.proofs.Reaches.{stored}

-- by its tests
module _ (s : State) (t m : ℕ) where
  abbrev to : ℕ
  to = waiters_of (s.words (cell_place s.layout m))

  abbrev by : ℕ → Bool → After
  by w x = if x then reinited s t m w else nothing s

  -- where one fails

  pub remake_not_resting : (b : Bool) → b ≡ (has_thread s t && is_idle (s.threads t).stage) → b ≡ false → happens s (Remake t m) ≡ nothing s
  remake_not_resting b is fails = let none : (has_thread s t && is_idle (s.threads t).stage) ≡ false = sym is ∙ fails in let never : may_remake s t m ≡ false = grind (arith) in ap (by to) never

  pub remake_not_unusable : (b : Bool) → b ≡ (nat_lt m s.layout.mutexes && is_unusable s m) → b ≡ false → happens s (Remake t m) ≡ nothing s
  remake_not_unusable b is fails = let none : (nat_lt m s.layout.mutexes && is_unusable s m) ≡ false = sym is ∙ fails in let never : may_remake s t m ≡ false = grind (arith) in ap (by to) never

  -- where none does

  pub remakes : (a b : Bool) → a ≡ (has_thread s t && is_idle (s.threads t).stage) → a ≡ true → b ≡ (nat_lt m s.layout.mutexes && is_unusable s m) → b ≡ true → happens s (Remake t m) ≡ reinited s t m to
  remakes a b resting is_a unusable is_b =
      let first : (has_thread s t && is_idle (s.threads t).stage) ≡ true = sym resting ∙ is_a in
      let second : (nat_lt m s.layout.mutexes && is_unusable s m) ≡ true = sym unusable ∙ is_b in
      let always : may_remake s t m ≡ true = grind (arith) in ap (by to) always

-- its mutex is one of the layout
pub is_inside : (b : Bool) (m n : ℕ) (c : Bool) → b ≡ (nat_lt m n && c) → b ≡ true → m < n
is_inside b m n c is holds = let both : (nat_lt m n && c) ≡ true = sym is ∙ holds in grind (arith, nat_tests)

-- the store of a mutex's cell
pub cell_stored : (l : Layout') (ws ws' : List ℕ) (kernel : Kernel') (ts : List Thread) (t m at w : ℕ) → length ws ≡ words_of l → m < l.mutexes → at ≡ cell_place l m → ws' ≡ words_after (Store at w) ws
    → state_at l ws' kernel ts ≡ (reinited (state_at l ws kernel ts) t m w).state
cell_stored l ws ws' kernel ts t m at w room inside place wrote =
    let words : (λ p. slice_index ws' p) ≡ put (λ p. slice_index ws p) (cell_place l m) w =
    ap (λ (z : List ℕ). λ (p : ℕ). slice_index z p) (wrote ∙ stored ws at w (omega (arith, place)) (omega (arith, place))) ∙ words-set ws at w (omega (arith, place)) ∙ ap (λ (x : ℕ). put (λ p. slice_index ws p) x w) place in
    λ i. record { layout = l; words = words i; queues = λ q. queue_of kernel q; threads = λ u. (state_at l ws kernel ts).threads u }
