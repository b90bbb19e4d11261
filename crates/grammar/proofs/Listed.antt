-- The words that are listed at a place are those that lead on from it.
use Rattle.std.proofs.Common.{◌≡◌, ℕ, Bool, true, false, ◌||◌, ◌⊎◌, ◌↔◌, cond, if◌then◌else◌, List, [], ◌∷◌, get_or}
use Rattle.std.proofs.Common.{map, Contains, find, Option, Some, None, option_and_then, codes, refl, sym, subst, ◌∙◌}
use Rattle.std.specs.Bool.{one_answer}
use Rattle.std.specs.List.{list_any}
use Rattle.std.specs.Option.{is_some}
use Rattle.std.specs.Str.{bytes_eq}
use Rattle.std.proofs.Math.Logic.{⊎_elim, ⊎_map}
use Rattle.std.proofs.lemmas.Bool.{or_cases, or_left, or_right}
use Rattle.std.proofs.lemmas.List.Folds.{list_any_at}
use Rattle.std.proofs.lemmas.Map.Views.{Contains-from_any}
use Rattle.std.proofs.lemmas.Slice.Eq.{bytes_eq-Decides}
use Rattle.lines.specs.Numbers.{is_number}
use Rattle.lockword.specs.Replies.{all_replies, reply_of, reply_word}
use Rattle.posixmutex.specs.declared.point.Operation.{Operation as Op}
use Rattle.posixmutex.specs.declared.point.Operation.TheVariants as op
use Rattle.posixmutex.specs.Words.{operation_of, operation_word}
use Rattle.script.specs.declared.command.Mode.{Mode}
use Rattle.script.specs.declared.command.Mode.TheVariants.{Run, Threads}
use Rattle.verdict.specs.Forms.{of_call, ◌>>=◌}
use Rattle.grammar.specs.declared.next.Next.{Next}
use Rattle.grammar.specs.declared.next.Next.TheVariants.{End, Keyword, Name, Number, Call, Head, ThreeNumbers, Event}
use Rattle.grammar.specs.declared.next.Next.TheVariants.{Deed, Reply, Operation, CallReply}
use Rattle.grammar.specs.Known.{call_words, deeds, keywords, known_words, reply_words, told_words}
use Rattle.grammar.specs.Laws.{TakesJustTheListed, KnownWordsAreThoseThatFit}
use Rattle.grammar.specs.Nexts.{after, deed, event, fitting, is_call, is_made, is_reply, keyword, made, made_on, or_else}

-- whether the word is one of these
abbrev is_among : List ℕ → List (List ℕ) → Bool
is_among w vs = list_any (bytes_eq w) vs

-- ---- tables that try word by word

fits : (b : Bool) (m : Next) → is_some (fitting b m) ≡ b
fits true m = refl
fits false m = refl

tries : (b : Bool) (m : Next) (o : Option Next) → is_some (if b then Some m else o) ≡ (b || is_some o)
tries true m o = refl
tries false m o = refl

-- the same of a table after which another one is tried
tries_first : (b : Bool) (m : Next) (o p : Option Next)
    → is_some (or_else (if b then Some m else o) p) ≡ (b || is_some (or_else o p))
tries_first true m o p = refl
tries_first false m o p = refl

keyword_is : (k : Mode) (w : List ℕ) → is_some (keyword k w) ≡ is_among w (keywords k)
keyword_is Run w = simp (tries_first, tries) refl
keyword_is Threads w = simp (tries_first, tries) refl

deed_is : (w : List ℕ) → is_some (deed w) ≡ is_among w deeds
deed_is w = simp tries refl

alone : (b : Bool) → b ≡ (b || false)
alone true = refl
alone false = refl

-- ---- words that are looked up

same_either_way : (v w : List ℕ) → bytes_eq v w ≡ bytes_eq w v
same_either_way v w = let there = bytes_eq-Decides w v in
    one_answer (bytes_eq v w) (bytes_eq w v) (bytes_eq-Decides v w) (λ t. sym (there.0 t), λ e. there.1 (sym e))

-- by its word something is found just where the word is one of theirs
found : {X : Type 0} (word : X → List ℕ) (w : List ℕ) (xs : List X)
    → is_some (find (λ x. bytes_eq (word x) w) xs) ≡ is_among w (map word xs)
found word w [] = refl
found {X} word w (x ∷ xs) = go _ _ (same_either_way (word x) w) _ (found word w xs)
  where
    go : (b d : Bool) → b ≡ d → (o : Option X) → is_some o ≡ is_among w (map word xs)
        → is_some (cond b (Some x) o) ≡ (d || is_among w (map word xs))
    go true true e o behind = refl
    go true false e o behind = absurd cc
    go false true e o behind = absurd cc
    go false false e o behind = behind

reply_is : (w : List ℕ) → is_reply w ≡ is_among w reply_words
unfolding reply_of
reply_is w = found reply_word w all_replies

-- of the operations that are looked up one that is kept
kept : {A : Type 0} (keep : Op → Option A) (w : List ℕ) (x : Op) (o : Option Op) (c : Bool)
    → is_some (keep x) ≡ true → is_some (option_and_then keep o) ≡ c
    → is_some (option_and_then keep (cond (bytes_eq (operation_word x) w) (Some x) o))
    ≡ (bytes_eq w (operation_word x) || c)
kept {A} keep w x o c is behind = go _ _ (same_either_way (operation_word x) w)
  where
    go : (b d : Bool) → b ≡ d → is_some (option_and_then keep (cond b (Some x) o)) ≡ (d || c)
    go true true e = is
    go true false e = absurd cc
    go false true e = absurd cc
    go false false e = behind

-- and one that isn't, whose word is none of those after it
passed : {A : Type 0} (keep : Op → Option A) (w : List ℕ) (x : Op) (o : Option Op) (vs : List (List ℕ))
    → is_some (keep x) ≡ false → is_among (operation_word x) vs ≡ false
    → is_some (option_and_then keep o) ≡ is_among w vs
    → is_some (option_and_then keep (cond (bytes_eq (operation_word x) w) (Some x) o)) ≡ is_among w vs
passed {A} keep w x o vs dropped apart behind = go _ refl
  where
    go : (b : Bool) → bytes_eq (operation_word x) w ≡ b
        → is_some (option_and_then keep (cond b (Some x) o)) ≡ is_among w vs
    go true e = dropped ∙ sym (subst (λ v. is_among v vs ≡ false) ((bytes_eq-Decides (operation_word x) w).0 e) apart)
    go false e = behind

-- the calls of scripts after those with a time limit
abbrev behind_timed : List (List ℕ)
behind_timed = map operation_word (op.Unlock ∷ op.Consistent ∷ op.Wait ∷ op.Signal ∷ op.Broadcast ∷ [])

-- and after waits with one
abbrev behind_waits : List (List ℕ)
behind_waits = map operation_word (op.Signal ∷ op.Broadcast ∷ [])

call_is : (k : Mode) (w : List ℕ) → is_made k w ≡ is_among w (call_words k)
unfolding operation_of
call_is Run w = kept (made Run) w op.Lock _ _ refl (kept (made Run) w op.TryLock _ _ refl
    (kept (made Run) w op.TimedLock _ _ refl (kept (made Run) w op.Unlock _ _ refl
    (kept (made Run) w op.Consistent _ _ refl (kept (made Run) w op.Wait _ _ refl
    (kept (made Run) w op.TimedWait _ _ refl
    (kept (made Run) w op.Signal _ _ refl (kept (made Run) w op.Broadcast _ _ refl
    (passed (made Run) w op.Death _ [] refl refl (passed (made Run) w op.Reinit _ [] refl refl refl))))))))))
call_is Threads w = kept (made Threads) w op.Lock _ _ refl (kept (made Threads) w op.TryLock _ _ refl
    (passed (made Threads) w op.TimedLock _ behind_timed refl refl
    (kept (made Threads) w op.Unlock _ _ refl (kept (made Threads) w op.Consistent _ _ refl
    (kept (made Threads) w op.Wait _ _ refl (passed (made Threads) w op.TimedWait _ behind_waits refl refl
    (kept (made Threads) w op.Signal _ _ refl
    (kept (made Threads) w op.Broadcast _ _ refl (passed (made Threads) w op.Death _ [] refl refl
    (passed (made Threads) w op.Reinit _ [] refl refl refl))))))))))

-- where just those operations are kept that calls have
told_is : {A : Type 0} (keep : Op → Option A) → ((x : Op) → is_some (keep x) ≡ is_some (of_call x))
    → (w : List ℕ) → is_some (option_and_then keep (operation_of w)) ≡ is_among w told_words
unfolding operation_of
told_is keep h w = kept keep w op.Lock _ _ (h op.Lock) (kept keep w op.TryLock _ _ (h op.TryLock)
    (kept keep w op.TimedLock _ _ (h op.TimedLock)
    (kept keep w op.Unlock _ _ (h op.Unlock) (kept keep w op.Consistent _ _ (h op.Consistent)
    (kept keep w op.Wait _ _ (h op.Wait) (kept keep w op.TimedWait _ _ (h op.TimedWait)
    (kept keep w op.Signal _ _ (h op.Signal)
    (kept keep w op.Broadcast _ _ (h op.Broadcast) (passed keep w op.Death _ (codes "reinit" ∷ []) (h op.Death) refl
    (kept keep w op.Reinit _ _ (h op.Reinit) refl))))))))))

every_call_is_made_on_something : (x : Op) → is_some (made_on x) ≡ is_some (of_call x)
every_call_is_made_on_something op.Lock = refl
every_call_is_made_on_something op.TryLock = refl
every_call_is_made_on_something op.TimedLock = refl
every_call_is_made_on_something op.Unlock = refl
every_call_is_made_on_something op.Consistent = refl
every_call_is_made_on_something op.Wait = refl
every_call_is_made_on_something op.TimedWait = refl
every_call_is_made_on_something op.Signal = refl
every_call_is_made_on_something op.Broadcast = refl
every_call_is_made_on_something op.Death = refl
every_call_is_made_on_something op.Reinit = refl

call_told_is : (w : List ℕ) → is_call w ≡ is_among w told_words
call_told_is w = go (operation_of w) ∙ told_is of_call (λ x. refl) w
  where
    go : (o : Option Op) → is_some (o >>= of_call) ≡ is_some (option_and_then of_call o)
    go None = refl
    go (Some x) = refl

-- ---- each place

among : (vs : List (List ℕ)) (w : List ℕ) → (is_among w vs ≡ true) ↔ Contains vs w
among vs w = (Contains-from_any (λ x y. (bytes_eq-Decides x y).0) w vs, there)
  where
    there : Contains vs w → is_among w vs ≡ true
    there c = list_any_at (bytes_eq w) vs c.0 w c.1 ((bytes_eq-Decides w (get_or vs c.0 w)).1 (sym c.2))

listed : (n : Next) → ((w : List ℕ) → is_some (after n w) ≡ is_among w (known_words n)) → TakesJustTheListed n
listed n same w = let these = among (known_words n) w in
    (λ t. these.0 (sym (same w) ∙ t), λ c. same w ∙ these.1 c)

event_is : (w : List ℕ) → is_some (event w) ≡ (is_among w (known_words Event) || is_number w)
event_is w = go (bytes_eq w (codes "end")) (is_number w)
  where
    go : (b c : Bool) → is_some (if b then Some Number else fitting c Deed) ≡ ((b || false) || c)
    go true c = refl
    go false c = fits c Deed

listed_or_number : (w : List ℕ)
    → (is_some (after Event w) ≡ true) ↔ (Contains (known_words Event) w ⊎ (is_number w ≡ true))
listed_or_number w = let these = among (known_words Event) w in (
  λ t. ⊎_map these.0 (λ n. n) (or_cases _ _ (sym (event_is w) ∙ t)),
  λ c. event_is w ∙ ⊎_elim (λ it. or_left _ _ (these.1 it)) (λ it. or_right _ _ it) c,
)

pub known_words_fit : KnownWordsAreThoseThatFit
known_words_fit = record {
  keyword = λ k. listed (Keyword k) (keyword_is k);
  head = listed Head (λ w. fits _ ThreeNumbers ∙ alone (bytes_eq w (codes "trace")));
  event = listed_or_number;
  deed = listed Deed deed_is;
  call = λ k. listed (Call k) (λ w. fits (is_made k w) Name ∙ call_is k w);
  operation = listed Operation (told_is made_on every_call_is_made_on_something);
  call_reply = listed CallReply (λ w. fits (is_call w) Reply ∙ call_told_is w);
  reply = listed Reply (λ w. fits (is_reply w) End ∙ reply_is w);
}
