-- What the kernel would find of each thread, were it to die now (get_robust_list(2); robust-futexes, its ABI document).
--
-- *What a walk would find.* From the head of a thread that lives next words lead over different entries, 2,048 at most,
-- and back, all by their addresses in the thread's process: those of mutexes that it owns; each mutex that it owns is
-- one of them or the pending one. Of every state that events lead to: the law `lists_are_kept`. Source:
-- get_robust_list(2), robust-futex-ABI.
use Rattle.std.specs.Prelude.{ℕ, ◌≡◌, ◌+◌, ◌<◌, ◌≤◌, ◌⊎◌, true, Some, List, length}
use Rattle.memorymap.specs.Chains.{IsAmong, IsChain}
use Rattle.posixmutex.specs.Objects.{held_limit}
use Rattle.memorymap.specs.Addresses.{words_from}
use Rattle.memorymap.specs.Layouts.{Layout', IsLayout, head_place, entry_place, base_of, address_in, cell_offset}
use Rattle.protocol.specs.declared.event.Event.{Event}
use Rattle.protocol.specs.Machine.{State, start, run, is_alive}
use Rattle.protocol.specs.Headline.{seen}

-- from thread t's head next words lead over some entries, all different, and back: each is that of a mutex that t owns;
-- and each mutex that t owns is one of them, or the pending one. They are 2,048 at most, and cells are where the offset
-- says. All this is by addresses of t's process
pub record HasList (s : State) (t : ℕ) : Type 0 where
  pub entries : List ℕ
  pub chain : IsChain (words_from (base_of s.layout t) s.words) (address_in s.layout t (head_place t)) entries
  pub few : length entries ≤ held_limit
  pub owned : (e : ℕ) → IsAmong e entries
      → (m : ℕ) × (m < s.layout.mutexes) × (e ≡ address_in s.layout t (entry_place s.layout m))
      × ((seen s m).owner ≡ Some t)
  pub all : (m : ℕ) → m < s.layout.mutexes → (seen s m).owner ≡ Some t
      → IsAmong (address_in s.layout t (entry_place s.layout m)) entries
      ⊎ (s.words (head_place t + 2) ≡ address_in s.layout t (entry_place s.layout m))
  pub offset : s.words (head_place t + 1) ≡ cell_offset

-- whatever happens, with any values of the counters at the beginning, of each thread that lives
abbrev pub ListsAreKept : Type 0
ListsAreKept = (l : Layout') (counters : ℕ → ℕ) (events : List Event) → IsLayout l → (t : ℕ) → 1 ≤ t → t ≤ l.threads
    → is_alive ((run (start l counters) events).threads t).stage ≡ true → HasList (run (start l counters) events) t
