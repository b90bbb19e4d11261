-- Threads that are renewed: the stores of their heads are writes into the state.
use Rattle.std.proofs.Common.{◌≡◌, ◌≢◌, ℕ, ◌+◌, ◌<◌, ◌≤◌, Bool, true, false, ◌&&◌, List, length, refl, sym, ap, ◌∙◌, arith, slice_set}
use Rattle.std.specs.Prelude.{if◌then◌else◌, slice_index}
use Rattle.std.proofs.lemmas.Bool.Decides.{nat_tests}
use Rattle.std.proofs.lemmas.List.{length-set}
use mathlib.Core.Path.{fun_ext}
use Rattle.stepprograms.specs.declared.access.Access.TheVariants.{Store}
use Rattle.memorymap.specs.Layouts.{Layout', head_place, head_word, first_word, words_of}
use Rattle.syscalls.specs.Kernels.{Kernel', queue_of}
use Rattle.syscalls.specs.Memories.{words_after}
use Rattle.protocol.specs.declared.event.Event.TheVariants.{Renew}
use Rattle.protocol.specs.declared.thread.Thread.{Thread}
use Rattle.protocol.specs.declared.note.Note.TheVariants.{Renewed}
use Rattle.protocol.specs.Machine.{State, After, put, idle, is_in_head, is_gone, has_thread, nothing, renewed, happens}
use Rattle.protocol.proofs.Puts.{by_put}
use Rattle.interleave.specs.Shown.{state_at, thread_at}
use Rattle.interleave.proofs.Views.{words-set, threads-set}
use Rattle.interleave.proofs.Reaches.{stored}

-- whoever wasn't reaped stays as it was
pub renew_rests : (s : State) (t : ℕ) → is_gone (s.threads t).stage ≡ false → happens s (Renew t) ≡ nothing s
renew_rests s t alive = go (has_thread s t)
  where
    go : (b : Bool) → (if b && is_gone (s.threads t).stage then renewed s t else nothing s) ≡ nothing s
    go true = ap (λ (b : Bool). if b then renewed s t else nothing s) alive
    go false = refl

-- the words of a head at first
first_is : (l : Layout') (t k : ℕ) → 1 ≤ t → t ≤ l.threads → k < 3 → first_word l (λ c. 0) (head_place t + k) ≡ head_word l (head_place t + k)
first_is l t k pos known few = grind (arith, nat_tests)

-- the words where thread t's head is as at first
abbrev anew : Layout' → ℕ → (ℕ → ℕ) → ℕ → ℕ
anew l t words p = if is_in_head t p then head_word l p else words p

-- one store at a valid place
module _ (ws ws' : List ℕ) (at v : ℕ) (first : 1 ≤ at) (last : at < length ws) (wrote : ws' ≡ words_after (Store at v) ws) where
  set_is : ws' ≡ slice_set ws at v
  set_is = wrote ∙ stored ws at v first last

  pub as_long : length ws' ≡ length ws
  as_long = ap length set_is ∙ length-set ws at v

  pub put_is : (λ p. slice_index ws' p) ≡ put (λ p. slice_index ws p) at v
  put_is = ap (λ (z : List ℕ). λ (p : ℕ). slice_index z p) set_is ∙ words-set ws at v last

-- the three stores of thread t's head, which begins at h
module _ (l : Layout') (t h : ℕ) (pos : 1 ≤ t) (known : t ≤ l.threads) (there : h ≡ head_place t) (ws one two three : List ℕ) (u v w : ℕ) (room : length ws ≡ words_of l)
    (first : u ≡ first_word l (λ c. 0) h) (second : v ≡ first_word l (λ c. 0) (h + 1)) (third : w ≡ first_word l (λ c. 0) (h + 2))
    (one_is : one ≡ words_after (Store h u) ws) (two_is : two ≡ words_after (Store (h + 1) v) one) (three_is : three ≡ words_after (Store (h + 2) w) two) where
  one_long : length one ≡ length ws
  one_long = as_long ws one h u (omega arith) (omega arith) one_is

  two_long : length two ≡ length ws
  two_long = let before = one_long in as_long one two (h + 1) v (omega arith) (omega arith) two_is ∙ before

  pub three_long : length three ≡ length ws
  three_long = let before = two_long in as_long two three (h + 2) w (omega arith) (omega arith) three_is ∙ before

  abbrev words : ℕ → ℕ
  words = λ p. slice_index ws p

  puts_are : (λ p. slice_index three p) ≡ put (put (put words h u) (h + 1) v) (h + 2) w
  puts_are =
      let long = one_long in
      let longer = two_long in
      put_is two three (h + 2) w (omega arith) (omega arith) three_is
      ∙ ap (λ (f : ℕ → ℕ). put f (h + 2) w) (put_is one two (h + 1) v (omega arith) (omega arith) two_is ∙ ap (λ (f : ℕ → ℕ). put f (h + 1) v) (put_is ws one h u (omega arith) (omega arith) one_is))

  -- a word of the head
  its_word : (k x : ℕ) → k < 3 → x ≡ first_word l (λ c. 0) (h + k) → (p : ℕ) → p ≡ h + k → x ≡ anew l t words p
  its_word k x few is p at =
      is ∙ ap (λ (y : ℕ). first_word l (λ c. 0) (y + k)) there ∙ first_is l t k pos known few ∙ ap (head_word l) (ap (λ (y : ℕ). y + k) (sym there) ∙ sym at)
      ∙ sym (ap (λ (b : Bool). if b then head_word l p else words p) (inside few at))
    where
      inside : k < 3 → p ≡ h + k → is_in_head t p ≡ true
      inside few at = grind (arith, nat_tests)

  -- and any other
  other_word : (p : ℕ) → p ≢ h → p ≢ h + 1 → p ≢ h + 2 → words p ≡ anew l t words p
  other_word p a b c = sym (ap (λ (z : Bool). if z then head_word l p else words p) outside)
    where
      outside : is_in_head t p ≡ false
      outside = grind (arith, nat_tests)

  pub renewed_words : (λ p. slice_index three p) ≡ anew l t words
  renewed_words = puts_are ∙ fun_ext each
    where
      each : (p : ℕ) → put (put (put words h u) (h + 1) v) (h + 2) w p ≡ anew l t words p
      each p =
          by_put (λ (x : ℕ). x ≡ anew l t words p) (put (put words h u) (h + 1) v) (h + 2) w p (its_word 2 w (omega arith) third p)
          (λ c. by_put (λ (x : ℕ). x ≡ anew l t words p) (put words h u) (h + 1) v p (its_word 1 v (omega arith) second p)
          (λ b. by_put (λ (x : ℕ). x ≡ anew l t words p) words h u p (λ is. its_word 0 u (omega arith) (first ∙ ap (first_word l (λ c. 0)) (omega arith)) p (is ∙ omega arith))
          (λ a. other_word p a b c)))

-- so is what the machine's lists show then
module _ (l : Layout') (ws three : List ℕ) (kernel : Kernel') (ts : List Thread) (k t : ℕ) (pos : 1 ≤ t) (known : t ≤ l.threads) (at : k + 1 ≡ t) (len : length ts ≡ l.threads) (gone : is_gone (thread_at ts t).stage ≡ true)
    (words_are : (λ p. slice_index three p) ≡ anew l t (λ p. slice_index ws p)) where
  abbrev s : State
  s = state_at l ws kernel ts

  ran : happens s (Renew t) ≡ renewed s t
  ran =
      let there : has_thread s t ≡ true = grind (arith, nat_tests) in
      ap (λ (b : Bool). if b && is_gone (thread_at ts t).stage then renewed s t else nothing s) there ∙ ap (λ (b : Bool). if b then renewed s t else nothing s) gone

  pub renew_state : state_at l three kernel (slice_set ts k idle) ≡ (happens s (Renew t)).state
  renew_state =
      let threads : thread_at (slice_set ts k idle) ≡ put (thread_at ts) t idle = threads-set ts k t idle at (omega arith) in
      (λ i. record { layout = l; words = words_are i; queues = λ q. queue_of kernel q; threads = threads i }) ∙ sym (ap (λ (a : After). a.state) ran)

  pub renew_note : Renewed t ≡ (happens s (Renew t)).note
  renew_note = sym (ap (λ (a : After). a.note) ran)
