-- The lines of traces are those that the table goes through.
use Rattle.std.proofs.Common.{◌≡◌, ℕ, Bool, false, ◌&&◌, ◌||◌, List, [], ◌∷◌, Option, Some, None, option_and_then, if◌then◌else◌, refl, sym, ap, ◌∙◌}
use Rattle.std.specs.Prelude.{codes}
use Rattle.std.specs.Option.{is_some}
use Rattle.std.specs.Str.{bytes_eq}
use Rattle.lines.specs.Numbers.{is_number}
use Rattle.lockword.specs.Replies.{reply_of}
use Rattle.posixmutex.specs.declared.point.Operation.{Operation as Op}
use Rattle.posixmutex.specs.declared.point.Operation.TheVariants as op
use Rattle.posixmutex.specs.Words.{operation_of}
use Rattle.verdict.specs.declared.form.Said.{Said}
use Rattle.verdict.specs.declared.form.Said.TheVariants as said
use Rattle.verdict.specs.declared.form.Form.{Form}
use Rattle.verdict.specs.declared.form.Form.TheVariants.{Told, End as form_end}
use Rattle.verdict.specs.Forms.{◌>>=◌, number_of, thread_word, mutex_word, condition_word, of_mutex, mutex_operation, of_condition, call_operation, head_form, sleeps, object_said, begin_on_said, point_said, words_form}
use Rattle.verdict.specs.declared.form.HeadForm.{HeadForm}
use Rattle.grammar.specs.declared.next.Next.{Next}
use Rattle.grammar.specs.declared.next.Next.TheVariants.{End, Number, TwoNumbers, ThreeNumbers, Head, Event, Deed, Thread, ThreadMutex, ThreadPlace, ThreadReply, ThreadCall, ThreadPoint, Mutex, Place, Reply, Operation, ConditionMutex, MutexCallReply, CallReply}
use Rattle.grammar.specs.Nexts.{after, deed, fitting, is_call, is_lettered, is_reply, made_on}
use Rattle.grammar.proofs.Running.{ends, run}
use Rattle.grammar.proofs.Fitting.{both, fits_end, fits_last, fits_then}
use Rattle.grammar.proofs.Words.{number_is_some, pick}

-- what is there, and then something else
bound : {A B : Type 0} (o : Option A) (f : A → Option B) (b : Bool) → ((x : A) → is_some (f x) ≡ b) → is_some (o >>= f) ≡ (is_some o && b)
bound None f b h = refl
bound (Some x) f b h = h x

bound_last : {A B : Type 0} (o : Option A) (f : A → B) → is_some (o >>= λ x. Some (f x)) ≡ is_some o
bound_last None f = refl
bound_last (Some x) f = refl

-- of whichever kind
abbrev nothing : (A : Type 0) → Option A
nothing A = None

bound_none : {A : Type 0} (B : Type 0) (o : Option A) → is_some (o >>= λ x. nothing B) ≡ false
bound_none B None = refl
bound_none B (Some x) = refl

-- ---- after an event's number, the word of what it did and its thread

abbrev behind : Option ℕ → List ℕ → List (List ℕ) → Option ℕ → Option Form
behind i w [] u = if bytes_eq w (codes "kill") then Some (Told i (said.Kill u))
    else (if bytes_eq w (codes "wake") then Some (Told i (said.Wake u))
    else (if bytes_eq w (codes "reaped") then Some (Told i (said.Reap u))
    else (if bytes_eq w (codes "renew") then Some (Told i (said.Renew u)) else None)))
behind i w (o ∷ []) u = object_said w u o >>= λ s. Some (Told i s)
behind i w (a ∷ m ∷ []) u = mutex_operation a >>= λ operation. mutex_word m >>= λ mutex. if bytes_eq w (codes "begin") then Some (Told i (said.Begin u operation mutex)) else None
behind i w (a ∷ b ∷ c ∷ []) u = if bytes_eq w (codes "begin") then (begin_on_said u a b c >>= λ s. Some (Told i s))
    else (if bytes_eq w (codes "point") then (point_said u a b c >>= λ s. Some (Told i s)) else None)
behind i w ws u = None

two_none : {A B : Type 0} (C : Type 0) (o : Option A) (p : Option B) → is_some (o >>= λ x. p >>= λ y. nothing C) ≡ false
two_none C None p = refl
two_none C (Some x) None = refl
two_none C (Some x) (Some y) = refl

one_bound : {A : Type 0} (o : Option A) (f : A → Said) (i : Option ℕ) → is_some (o >>= (λ x. Some (f x)) >>= λ s. Some (Told i s)) ≡ is_some o
one_bound None f i = refl
one_bound (Some x) f i = refl

behind_kill : (i : Option ℕ) (ws : List (List ℕ)) (u : Option ℕ) → is_some (behind i (codes "kill") ws u) ≡ ends (run End ws)
behind_kill i [] u = refl
behind_kill i (o ∷ []) u = refl
behind_kill i (a ∷ m ∷ []) u = two_none Form (mutex_operation a) (mutex_word m)
behind_kill i (a ∷ b ∷ c ∷ []) u = refl
behind_kill i (a ∷ b ∷ c ∷ d ∷ ws) u = refl

behind_wake : (i : Option ℕ) (ws : List (List ℕ)) (u : Option ℕ) → is_some (behind i (codes "wake") ws u) ≡ ends (run End ws)
behind_wake i [] u = refl
behind_wake i (o ∷ []) u = refl
behind_wake i (a ∷ m ∷ []) u = two_none Form (mutex_operation a) (mutex_word m)
behind_wake i (a ∷ b ∷ c ∷ []) u = refl
behind_wake i (a ∷ b ∷ c ∷ d ∷ ws) u = refl

behind_reaped : (i : Option ℕ) (ws : List (List ℕ)) (u : Option ℕ) → is_some (behind i (codes "reaped") ws u) ≡ ends (run End ws)
behind_reaped i [] u = refl
behind_reaped i (o ∷ []) u = refl
behind_reaped i (a ∷ m ∷ []) u = two_none Form (mutex_operation a) (mutex_word m)
behind_reaped i (a ∷ b ∷ c ∷ []) u = refl
behind_reaped i (a ∷ b ∷ c ∷ d ∷ ws) u = refl

behind_renew : (i : Option ℕ) (ws : List (List ℕ)) (u : Option ℕ) → is_some (behind i (codes "renew") ws u) ≡ ends (run End ws)
behind_renew i [] u = refl
behind_renew i (o ∷ []) u = refl
behind_renew i (a ∷ m ∷ []) u = two_none Form (mutex_operation a) (mutex_word m)
behind_renew i (a ∷ b ∷ c ∷ []) u = refl
behind_renew i (a ∷ b ∷ c ∷ d ∷ ws) u = refl

behind_death : (i : Option ℕ) (ws : List (List ℕ)) (u : Option ℕ) → is_some (behind i (codes "death") ws u) ≡ ends (run Mutex ws)
behind_death i [] u = refl
behind_death i (o ∷ []) u = one_bound (mutex_word o) (said.Death u) i ∙ sym (fits_end (is_lettered 109 o))
behind_death i (a ∷ m ∷ []) u = two_none Form (mutex_operation a) (mutex_word m) ∙ sym (fits_last (is_lettered 109 a) m [])
behind_death i (a ∷ b ∷ c ∷ []) u = sym (fits_last (is_lettered 109 a) b (c ∷ []))
behind_death i (a ∷ b ∷ c ∷ d ∷ ws) u = sym (fits_last (is_lettered 109 a) b (c ∷ d ∷ ws))

behind_move : (i : Option ℕ) (ws : List (List ℕ)) (u : Option ℕ) → is_some (behind i (codes "move") ws u) ≡ ends (run Mutex ws)
behind_move i [] u = refl
behind_move i (o ∷ []) u = one_bound (mutex_word o) (said.Move u) i ∙ sym (fits_end (is_lettered 109 o))
behind_move i (a ∷ m ∷ []) u = two_none Form (mutex_operation a) (mutex_word m) ∙ sym (fits_last (is_lettered 109 a) m [])
behind_move i (a ∷ b ∷ c ∷ []) u = sym (fits_last (is_lettered 109 a) b (c ∷ []))
behind_move i (a ∷ b ∷ c ∷ d ∷ ws) u = sym (fits_last (is_lettered 109 a) b (c ∷ d ∷ ws))

slept : (i u : Option ℕ) (m c : Option (Option ℕ)) → is_some (sleeps u m c >>= λ s. Some (Told i s)) ≡ (is_some m || is_some c)
slept i u (Some m) c = refl
slept i u None None = refl
slept i u None (Some k) = refl

behind_sleep : (i : Option ℕ) (ws : List (List ℕ)) (u : Option ℕ) → is_some (behind i (codes "sleep") ws u) ≡ ends (run Place ws)
behind_sleep i [] u = refl
behind_sleep i (o ∷ []) u = slept i u (mutex_word o) (condition_word o) ∙ sym (fits_end (is_lettered 109 o || is_lettered 99 o))
behind_sleep i (a ∷ m ∷ []) u = two_none Form (mutex_operation a) (mutex_word m) ∙ sym (fits_last (is_lettered 109 a || is_lettered 99 a) m [])
behind_sleep i (a ∷ b ∷ c ∷ []) u = sym (fits_last (is_lettered 109 a || is_lettered 99 a) b (c ∷ []))
behind_sleep i (a ∷ b ∷ c ∷ d ∷ ws) u = sym (fits_last (is_lettered 109 a || is_lettered 99 a) b (c ∷ d ∷ ws))

behind_return : (i : Option ℕ) (ws : List (List ℕ)) (u : Option ℕ) → is_some (behind i (codes "return") ws u) ≡ ends (run Reply ws)
behind_return i [] u = refl
behind_return i (o ∷ []) u = one_bound (reply_of o) (said.Return u) i ∙ sym (fits_end (is_reply o))
behind_return i (a ∷ m ∷ []) u = two_none Form (mutex_operation a) (mutex_word m) ∙ sym (fits_last (is_reply a) m [])
behind_return i (a ∷ b ∷ c ∷ []) u = sym (fits_last (is_reply a) b (c ∷ []))
behind_return i (a ∷ b ∷ c ∷ d ∷ ws) u = sym (fits_last (is_reply a) b (c ∷ d ∷ ws))

-- a call that begins, on a mutex
begun : (i u : Option ℕ) (o : Option Op) (m : List ℕ) (p : Option (Option ℕ)) → is_some p ≡ is_lettered 109 m → is_some ((o >>= of_mutex) >>= λ operation. p >>= λ mutex. Some (Told i (said.Begin u operation mutex))) ≡ ends (option_and_then (λ n. run n (m ∷ [])) (option_and_then made_on o))
begun i u None m p e = refl
begun i u (Some op.Lock) m p e = bound_last p (λ mutex. Told i (said.Begin u op.Lock mutex)) ∙ e ∙ sym (fits_end (is_lettered 109 m))
begun i u (Some op.TryLock) m p e = bound_last p (λ mutex. Told i (said.Begin u op.TryLock mutex)) ∙ e ∙ sym (fits_end (is_lettered 109 m))
begun i u (Some op.TimedLock) m p e = bound_last p (λ mutex. Told i (said.Begin u op.TimedLock mutex)) ∙ e ∙ sym (fits_end (is_lettered 109 m))
begun i u (Some op.Unlock) m p e = bound_last p (λ mutex. Told i (said.Begin u op.Unlock mutex)) ∙ e ∙ sym (fits_end (is_lettered 109 m))
begun i u (Some op.Consistent) m p e = bound_last p (λ mutex. Told i (said.Begin u op.Consistent mutex)) ∙ e ∙ sym (fits_end (is_lettered 109 m))
begun i u (Some op.Reinit) m p e = bound_last p (λ mutex. Told i (said.Begin u op.Reinit mutex)) ∙ e ∙ sym (fits_end (is_lettered 109 m))
begun i u (Some op.Wait) m p e = sym (fits_then (is_lettered 99 m) Mutex [] ∙ both (is_lettered 99 m) false refl)
begun i u (Some op.TimedWait) m p e = sym (fits_then (is_lettered 99 m) Mutex [] ∙ both (is_lettered 99 m) false refl)
begun i u (Some op.Signal) m p e = sym (fits_then (is_lettered 99 m) Mutex [] ∙ both (is_lettered 99 m) false refl)
begun i u (Some op.Broadcast) m p e = sym (fits_then (is_lettered 99 m) Mutex [] ∙ both (is_lettered 99 m) false refl)
begun i u (Some op.Death) m p e = refl

-- and on a condition variable
on_both : (i u : Option ℕ) (p : Op) (c m : Option (Option ℕ)) → is_some ((c >>= λ condition. m >>= λ mutex. Some (said.BeginOn u p condition mutex)) >>= λ s. Some (Told i s)) ≡ (is_some c && is_some m)
on_both i u p None m = refl
on_both i u p (Some x) None = refl
on_both i u p (Some x) (Some y) = refl

waited : (b c : List ℕ) → (is_lettered 99 b && is_lettered 109 c) ≡ ends (run ConditionMutex (b ∷ c ∷ []))
waited b c = sym (fits_then (is_lettered 99 b) Mutex (c ∷ []) ∙ ap (λ (t : Bool). is_lettered 99 b && t) (fits_end (is_lettered 109 c)))

begun_on : (i u : Option ℕ) (o : Option Op) (b c : List ℕ) → is_some (((o >>= of_condition) >>= λ operation. condition_word b >>= λ condition. mutex_word c >>= λ mutex. Some (said.BeginOn u operation condition mutex)) >>= λ s. Some (Told i s)) ≡ ends (option_and_then (λ n. run n (b ∷ c ∷ [])) (option_and_then made_on o))
begun_on i u None b c = refl
begun_on i u (Some op.Lock) b c = sym (fits_last (is_lettered 109 b) c [])
begun_on i u (Some op.TryLock) b c = sym (fits_last (is_lettered 109 b) c [])
begun_on i u (Some op.TimedLock) b c = sym (fits_last (is_lettered 109 b) c [])
begun_on i u (Some op.Unlock) b c = sym (fits_last (is_lettered 109 b) c [])
begun_on i u (Some op.Consistent) b c = sym (fits_last (is_lettered 109 b) c [])
begun_on i u (Some op.Reinit) b c = sym (fits_last (is_lettered 109 b) c [])
begun_on i u (Some op.Wait) b c = on_both i u op.Wait (condition_word b) (mutex_word c) ∙ waited b c
begun_on i u (Some op.TimedWait) b c = on_both i u op.TimedWait (condition_word b) (mutex_word c) ∙ waited b c
begun_on i u (Some op.Signal) b c = on_both i u op.Signal (condition_word b) (mutex_word c) ∙ waited b c
begun_on i u (Some op.Broadcast) b c = on_both i u op.Broadcast (condition_word b) (mutex_word c) ∙ waited b c
begun_on i u (Some op.Death) b c = refl

-- no call has more words
made_long : (o : Option Op) (b c d : List ℕ) (ws : List (List ℕ)) → ends (option_and_then (λ n. run n (b ∷ c ∷ d ∷ ws)) (option_and_then made_on o)) ≡ false
made_long None b c d ws = refl
made_long (Some op.Lock) b c d ws = fits_last (is_lettered 109 b) c (d ∷ ws)
made_long (Some op.TryLock) b c d ws = fits_last (is_lettered 109 b) c (d ∷ ws)
made_long (Some op.TimedLock) b c d ws = fits_last (is_lettered 109 b) c (d ∷ ws)
made_long (Some op.Unlock) b c d ws = fits_last (is_lettered 109 b) c (d ∷ ws)
made_long (Some op.Consistent) b c d ws = fits_last (is_lettered 109 b) c (d ∷ ws)
made_long (Some op.Reinit) b c d ws = fits_last (is_lettered 109 b) c (d ∷ ws)
made_long (Some op.Wait) b c d ws = fits_then (is_lettered 99 b) Mutex (c ∷ d ∷ ws) ∙ both (is_lettered 99 b) _ (fits_last (is_lettered 109 c) d ws)
made_long (Some op.TimedWait) b c d ws = fits_then (is_lettered 99 b) Mutex (c ∷ d ∷ ws) ∙ both (is_lettered 99 b) _ (fits_last (is_lettered 109 c) d ws)
made_long (Some op.Signal) b c d ws = fits_then (is_lettered 99 b) Mutex (c ∷ d ∷ ws) ∙ both (is_lettered 99 b) _ (fits_last (is_lettered 109 c) d ws)
made_long (Some op.Broadcast) b c d ws = fits_then (is_lettered 99 b) Mutex (c ∷ d ∷ ws) ∙ both (is_lettered 99 b) _ (fits_last (is_lettered 109 c) d ws)
made_long (Some op.Death) b c d ws = refl

made_short : (o : Option Op) → ends (option_and_then (λ n. run n []) (option_and_then made_on o)) ≡ false
made_short None = refl
made_short (Some op.Lock) = refl
made_short (Some op.TryLock) = refl
made_short (Some op.TimedLock) = refl
made_short (Some op.Unlock) = refl
made_short (Some op.Consistent) = refl
made_short (Some op.Reinit) = refl
made_short (Some op.Wait) = refl
made_short (Some op.TimedWait) = refl
made_short (Some op.Signal) = refl
made_short (Some op.Broadcast) = refl
made_short (Some op.Death) = refl

behind_begin : (i : Option ℕ) (ws : List (List ℕ)) (u : Option ℕ) → is_some (behind i (codes "begin") ws u) ≡ ends (run Operation ws)
behind_begin i [] u = refl
behind_begin i (o ∷ []) u = sym (made_short (operation_of o))
behind_begin i (a ∷ m ∷ []) u = begun i u (operation_of a) m (mutex_word m) refl
behind_begin i (a ∷ b ∷ c ∷ []) u = begun_on i u (operation_of a) b c
behind_begin i (a ∷ b ∷ c ∷ d ∷ ws) u = sym (made_long (operation_of a) b c d ws)

pointed : {A B C : Type 0} (i : Option ℕ) (o : Option A) (p : Option B) (q : Option C) (f : A → B → C → Said) → is_some ((o >>= λ x. p >>= λ y. q >>= λ z. Some (f x y z)) >>= λ s. Some (Told i s)) ≡ (is_some o && (is_some p && is_some q))
pointed i None p q f = refl
pointed i (Some x) None q f = refl
pointed i (Some x) (Some y) None f = refl
pointed i (Some x) (Some y) (Some z) f = refl

behind_point : (i : Option ℕ) (ws : List (List ℕ)) (u : Option ℕ) → is_some (behind i (codes "point") ws u) ≡ ends (run MutexCallReply ws)
behind_point i [] u = refl
behind_point i (o ∷ []) u = sym (fits_then (is_lettered 109 o) CallReply [] ∙ both (is_lettered 109 o) false refl)
behind_point i (a ∷ m ∷ []) u = two_none Form (mutex_operation a) (mutex_word m) ∙ sym (fits_then (is_lettered 109 a) CallReply (m ∷ []) ∙ both (is_lettered 109 a) _ (fits_then (is_call m) Reply [] ∙ both (is_call m) false refl))
behind_point i (a ∷ b ∷ c ∷ []) u =
    pointed i (mutex_word a) (call_operation b) (reply_of c) (λ m operation x. said.Point u m operation x)
    ∙ sym (fits_then (is_lettered 109 a) CallReply (b ∷ c ∷ []) ∙ ap (λ (t : Bool). is_lettered 109 a && t) (fits_then (is_call b) Reply (c ∷ []) ∙ ap (λ (t : Bool). is_call b && t) (fits_end (is_reply c))))
behind_point i (a ∷ b ∷ c ∷ d ∷ ws) u = sym (fits_then (is_lettered 109 a) CallReply (b ∷ c ∷ d ∷ ws) ∙ both (is_lettered 109 a) _ (fits_then (is_call b) Reply (c ∷ d ∷ ws) ∙ both (is_call b) _ (fits_last (is_reply c) d ws)))

-- ---- a line of an event

-- its words, where the first is this number
told_form : (e w t : List ℕ) (ws : List (List ℕ)) (i : Option ℕ) → number_of e ≡ Some i → is_some (words_form (e ∷ w ∷ t ∷ ws)) ≡ is_some (thread_word t >>= behind i w ws)
told_form e w t [] i n = ap (λ (o : Option (Option ℕ)). is_some (o >>= λ j. thread_word t >>= behind j w [])) n
told_form e w t (o ∷ []) i n = ap (λ (p : Option (Option ℕ)). is_some (p >>= λ j. thread_word t >>= behind j w (o ∷ []))) n
told_form e w t (a ∷ m ∷ []) i n = ap (λ (p : Option (Option ℕ)). is_some (p >>= λ j. thread_word t >>= behind j w (a ∷ m ∷ []))) n
told_form e w t (a ∷ b ∷ c ∷ []) i n = ap (λ (p : Option (Option ℕ)). is_some (p >>= λ j. thread_word t >>= behind j w (a ∷ b ∷ c ∷ []))) n
told_form e w t (a ∷ b ∷ c ∷ d ∷ ws) i n = sym (bound_none Form (thread_word t))

-- after an event's number
abbrev Agree : List ℕ → Option ℕ → List (List ℕ) → List ℕ → Type 0
Agree e i ws w = is_some (words_form (e ∷ w ∷ ws)) ≡ ends (run Deed (w ∷ ws))

agree : (e w : List ℕ) (i : Option ℕ) (ws : List (List ℕ)) (x y : Next) → bytes_eq e (codes "end") ≡ false → number_of e ≡ Some i → deed w ≡ Some x → ((t : List ℕ) → after x t ≡ fitting (is_lettered 116 t) y) → ends (Some x) ≡ false → ((vs : List (List ℕ)) (u : Option ℕ) → is_some (behind i w vs u) ≡ ends (run y vs)) → Agree e i ws w
agree e w i [] x y isnt n d f o h = ap (λ (b : Bool). is_some (if b then (number_of w >>= λ j. Some (form_end j)) else None)) isnt ∙ sym (ap (λ (q : Option Next). ends (option_and_then (λ m. run m []) q)) d ∙ o)
agree e w i (t ∷ ws) x y isnt n d f o h =
    told_form e w t ws i n ∙ bound (thread_word t) (behind i w ws) (ends (run y ws)) (λ u. h ws u)
    ∙ sym (ap (λ (q : Option Next). ends (option_and_then (λ m. run m (t ∷ ws)) q)) d ∙ ap (λ (q : Option Next). ends (option_and_then (λ m. run m ws) q)) (f t) ∙ fits_then (is_lettered 116 t) y ws)

record Unknown (w : List ℕ) : Type 0 where
  begin_isnt : bytes_eq w (codes "begin") ≡ false
  kill_isnt : bytes_eq w (codes "kill") ≡ false
  point_isnt : bytes_eq w (codes "point") ≡ false
  death_isnt : bytes_eq w (codes "death") ≡ false
  sleep_isnt : bytes_eq w (codes "sleep") ≡ false
  wake_isnt : bytes_eq w (codes "wake") ≡ false
  move_isnt : bytes_eq w (codes "move") ≡ false
  return_isnt : bytes_eq w (codes "return") ≡ false
  reaped_isnt : bytes_eq w (codes "reaped") ≡ false
  renew_isnt : bytes_eq w (codes "renew") ≡ false

-- a word that no event has
behind_unknown : (w : List ℕ) → Unknown w → (i : Option ℕ) (ws : List (List ℕ)) (u : Option ℕ) → is_some (behind i w ws u) ≡ false
behind_unknown w k i [] u = simp (k.kill_isnt, k.wake_isnt, k.reaped_isnt, k.renew_isnt)
behind_unknown w k i (o ∷ []) u = simp (k.death_isnt, k.sleep_isnt, k.move_isnt, k.return_isnt)
behind_unknown w k i (a ∷ m ∷ []) u = simp (k.begin_isnt) (two_none Form (mutex_operation a) (mutex_word m))
behind_unknown w k i (a ∷ b ∷ c ∷ []) u = simp (k.begin_isnt, k.point_isnt)
behind_unknown w k i (a ∷ b ∷ c ∷ d ∷ ws) u = refl

no_deed : (w : List ℕ) → Unknown w → deed w ≡ None
no_deed w k = simp (k.begin_isnt, k.kill_isnt, k.point_isnt, k.death_isnt, k.sleep_isnt, k.wake_isnt, k.move_isnt, k.return_isnt, k.reaped_isnt, k.renew_isnt)

unknown : (e w : List ℕ) (i : Option ℕ) (ws : List (List ℕ)) → bytes_eq e (codes "end") ≡ false → number_of e ≡ Some i → Unknown w → Agree e i ws w
unknown e w i [] isnt n k = ap (λ (b : Bool). is_some (if b then (number_of w >>= λ j. Some (form_end j)) else None)) isnt ∙ sym (ap (λ (q : Option Next). ends (option_and_then (λ m. run m []) q)) (no_deed w k))
unknown e w i (t ∷ ws) isnt n k =
    told_form e w t ws i n ∙ bound (thread_word t) (behind i w ws) false (λ u. behind_unknown w k i ws u) ∙ both (is_some (thread_word t)) false refl
    ∙ sym (ap (λ (q : Option Next). ends (option_and_then (λ m. run m (t ∷ ws)) q)) (no_deed w k))

numbered_line : (e w : List ℕ) (i : Option ℕ) (ws : List (List ℕ)) → bytes_eq e (codes "end") ≡ false → number_of e ≡ Some i → Agree e i ws w
numbered_line e w i ws isnt n =
    pick (Agree e i ws) w (codes "begin") (agree e (codes "begin") i ws ThreadCall Operation isnt n refl (λ t. refl) refl (behind_begin i)) (λ e0.
    pick (Agree e i ws) w (codes "kill") (agree e (codes "kill") i ws Thread End isnt n refl (λ t. refl) refl (behind_kill i)) (λ e1.
    pick (Agree e i ws) w (codes "point") (agree e (codes "point") i ws ThreadPoint MutexCallReply isnt n refl (λ t. refl) refl (behind_point i)) (λ e2.
    pick (Agree e i ws) w (codes "death") (agree e (codes "death") i ws ThreadMutex Mutex isnt n refl (λ t. refl) refl (behind_death i)) (λ e3.
    pick (Agree e i ws) w (codes "sleep") (agree e (codes "sleep") i ws ThreadPlace Place isnt n refl (λ t. refl) refl (behind_sleep i)) (λ e4.
    pick (Agree e i ws) w (codes "wake") (agree e (codes "wake") i ws Thread End isnt n refl (λ t. refl) refl (behind_wake i)) (λ e5.
    pick (Agree e i ws) w (codes "move") (agree e (codes "move") i ws ThreadMutex Mutex isnt n refl (λ t. refl) refl (behind_move i)) (λ e6.
    pick (Agree e i ws) w (codes "return") (agree e (codes "return") i ws ThreadReply Reply isnt n refl (λ t. refl) refl (behind_return i)) (λ e7.
    pick (Agree e i ws) w (codes "reaped") (agree e (codes "reaped") i ws Thread End isnt n refl (λ t. refl) refl (behind_reaped i)) (λ e8.
    pick (Agree e i ws) w (codes "renew") (agree e (codes "renew") i ws Thread End isnt n refl (λ t. refl) refl (behind_renew i)) (λ e9.
    unknown e w i ws isnt n (record { begin_isnt = e0; kill_isnt = e1; point_isnt = e2; death_isnt = e3; sleep_isnt = e4; wake_isnt = e5; move_isnt = e6; return_isnt = e7; reaped_isnt = e8; renew_isnt = e9 })))))))))))

-- no number, and no `end`
unnumbered : (e w : List ℕ) (ws : List (List ℕ)) → bytes_eq e (codes "end") ≡ false → number_of e ≡ None → is_some (words_form (e ∷ w ∷ ws)) ≡ false
unnumbered e w [] isnt n = simp isnt
unnumbered e w (t ∷ []) isnt n = simp n
unnumbered e w (t ∷ o ∷ []) isnt n = simp n
unnumbered e w (t ∷ a ∷ m ∷ []) isnt n = simp n
unnumbered e w (t ∷ a ∷ b ∷ c ∷ []) isnt n = simp n
unnumbered e w (t ∷ a ∷ b ∷ c ∷ d ∷ ws) isnt n = refl

by_number : (e w : List ℕ) (ws : List (List ℕ)) → bytes_eq e (codes "end") ≡ false → (o : Option (Option ℕ)) → number_of e ≡ o → is_some (words_form (e ∷ w ∷ ws)) ≡ (is_some o && ends (run Deed (w ∷ ws)))
by_number e w ws isnt None n = unnumbered e w ws isnt n
by_number e w ws isnt (Some i) n = numbered_line e w i ws isnt n

event_is : (e : List ℕ) (ws : List (List ℕ)) → bytes_eq e (codes "end") ≡ false → ends (run Event (e ∷ ws)) ≡ (is_number e && ends (run Deed ws))
event_is e ws isnt = ap (λ (b : Bool). ends (option_and_then (λ m. run m ws) (if b then Some Number else fitting (is_number e) Deed))) isnt ∙ fits_then (is_number e) Deed ws

-- the last line
ended : (ws : List (List ℕ)) → is_some (words_form (codes "end" ∷ ws)) ≡ ends (run Number ws)
ended [] = refl
ended (n ∷ []) = bound_last (number_of n) form_end ∙ number_is_some n ∙ sym (fits_end (is_number n))
ended (n ∷ w ∷ []) = sym (fits_last (is_number n) w [])
ended (n ∷ w ∷ a ∷ []) = sym (fits_last (is_number n) w (a ∷ []))
ended (n ∷ w ∷ a ∷ b ∷ []) = sym (fits_last (is_number n) w (a ∷ b ∷ []))
ended (n ∷ w ∷ a ∷ b ∷ c ∷ []) = sym (fits_last (is_number n) w (a ∷ b ∷ c ∷ []))
ended (n ∷ w ∷ a ∷ b ∷ c ∷ d ∷ ws) = sym (fits_last (is_number n) w (a ∷ b ∷ c ∷ d ∷ ws))

lone : (e : List ℕ) → bytes_eq e (codes "end") ≡ false → is_some (words_form (e ∷ [])) ≡ ends (run Event (e ∷ []))
lone e isnt = sym (event_is e [] isnt ∙ both (is_number e) false refl)

not_end : (e : List ℕ) (ws : List (List ℕ)) → bytes_eq e (codes "end") ≡ false → is_some (words_form (e ∷ ws)) ≡ ends (run Event (e ∷ ws))
not_end e [] isnt = lone e isnt
not_end e (w ∷ ws) isnt = by_number e w ws isnt (number_of e) refl ∙ ap (λ (b : Bool). b && ends (run Deed (w ∷ ws))) (number_is_some e) ∙ sym (event_is e (w ∷ ws) isnt)

pub traces_are_run : (ws : List (List ℕ)) → is_some (words_form ws) ≡ ends (run Event ws)
traces_are_run [] = refl
traces_are_run (e ∷ ws) = pick (λ v. is_some (words_form (v ∷ ws)) ≡ ends (run Event (v ∷ ws))) e (codes "end") (ended ws) (λ isnt. not_end e ws isnt)

-- ---- the first line

three_numbers : (t m c : Option (Option ℕ)) (f : Option ℕ → Option ℕ → Option ℕ → HeadForm) → is_some (t >>= λ x. m >>= λ y. c >>= λ z. Some (f x y z)) ≡ (is_some t && (is_some m && is_some c))
three_numbers None m c f = refl
three_numbers (Some x) None c f = refl
three_numbers (Some x) (Some y) None f = refl
three_numbers (Some x) (Some y) (Some z) f = refl

headed : (ws : List (List ℕ)) → is_some (head_form (codes "trace" ∷ ws)) ≡ ends (run ThreeNumbers ws)
headed [] = refl
headed (t ∷ []) = sym (fits_then (is_number t) TwoNumbers [] ∙ both (is_number t) false refl)
headed (t ∷ m ∷ []) = sym (fits_then (is_number t) TwoNumbers (m ∷ []) ∙ both (is_number t) _ (fits_then (is_number m) Number [] ∙ both (is_number m) false refl))
headed (t ∷ m ∷ c ∷ []) =
    three_numbers (number_of t) (number_of m) (number_of c) (λ x y z. record { threads = x; mutexes = y; conditions = z })
    ∙ ap (λ (b : Bool). b && (is_some (number_of m) && is_some (number_of c))) (number_is_some t)
    ∙ ap (λ (b : Bool). is_number t && (b && is_some (number_of c))) (number_is_some m)
    ∙ ap (λ (b : Bool). is_number t && (is_number m && b)) (number_is_some c)
    ∙ sym (fits_then (is_number t) TwoNumbers (m ∷ c ∷ []) ∙ ap (λ (b : Bool). is_number t && b) (fits_then (is_number m) Number (c ∷ []) ∙ ap (λ (b : Bool). is_number m && b) (fits_end (is_number c))))
headed (t ∷ m ∷ c ∷ d ∷ ws) = sym (fits_then (is_number t) TwoNumbers (m ∷ c ∷ d ∷ ws) ∙ both (is_number t) _ (fits_then (is_number m) Number (c ∷ d ∷ ws) ∙ both (is_number m) _ (fits_last (is_number c) d ws)))

unheaded : (w : List ℕ) (ws : List (List ℕ)) → bytes_eq w (codes "trace") ≡ false → is_some (head_form (w ∷ ws)) ≡ false
unheaded w [] e = refl
unheaded w (t ∷ []) e = refl
unheaded w (t ∷ m ∷ []) e = refl
unheaded w (t ∷ m ∷ c ∷ []) e = simp e
unheaded w (t ∷ m ∷ c ∷ d ∷ ws) e = refl

pub heads_are_run : (ws : List (List ℕ)) → is_some (head_form ws) ≡ ends (run Head ws)
heads_are_run [] = refl
heads_are_run (w ∷ ws) = pick (λ v. is_some (head_form (v ∷ ws)) ≡ ends (run Head (v ∷ ws))) w (codes "trace") (headed ws) (λ e. unheaded w ws e ∙ sym (ap (λ (b : Bool). ends (option_and_then (λ m. run m ws) (fitting b ThreeNumbers))) e))
