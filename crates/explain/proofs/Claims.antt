-- What an explanation claims is so.
use Rattle.std.proofs.Common.{◌≡◌, ◌≢◌, ◌⊎◌, ◌∙◌, ◌==◌, ◌&&◌, ◌||◌, ◌∷◌, ◌++◌, Bool, true, false, ℕ, Option, Some, None, List, [], append-nil, append_assoc, ap, eqb-true, inl, inr, not, refl, subst, sym, arith}
use Rattle.std.specs.Prelude.{codes, decimal, if◌then◌else◌}
use Rattle.std.specs.List.{concat}
use Rattle.std.specs.Option.{is_some}
use Rattle.std.proofs.lemmas.Bool.{and_parts}
use Rattle.std.proofs.lemmas.Bool.Decides.{nat_tests}
use Rattle.lockword.specs.Replies.{all_replies, reply_word}
use Rattle.lockword.specs.declared.reply.Reply.{Reply}
use Rattle.lockword.specs.declared.reply.Reply.TheVariants.{OK, EPERM, ESRCH, EAGAIN, EFAULT, EBUSY, EINVAL, EDEADLK, ETIMEDOUT, EOWNERDEAD, ENOTRECOVERABLE, XNOMEM, XRACED, XHELD, XFULL, XSTATE}
use Rattle.posixmutex.specs.Objects.{stepped}
use Rattle.posixmutex.specs.Words.{operation_word}
use Rattle.posixmutex.specs.declared.object.Object.{Object}
use Rattle.posixmutex.specs.declared.point.Decision.{Decision}
use Rattle.posixmutex.specs.declared.point.Operation.{Operation}
use Rattle.posixmutex.specs.declared.point.Operation.TheVariants as operation
use Rattle.facts.specs.Facts.{decides, decision_of, is_kill, is_passive, is_point, is_renewal, thread_of}
use Rattle.facts.specs.Lives.{IsWait}
use Rattle.facts.specs.declared.fact.Begun.{Begun}
use Rattle.facts.specs.declared.fact.Fact.{Fact}
use Rattle.facts.specs.declared.fact.Fact.TheVariants as fact
use Rattle.facts.specs.declared.fact.Line.{Line}
use Rattle.verdict.specs.Earlier.{call_in, objects_after, told_of}
use Rattle.verdict.specs.declared.misfit.Misfit.{Misfit}
use Rattle.verdict.specs.declared.misfit.Misfit.TheVariants as misfit
use Rattle.explain.specs.Advised.{asked_at}
use Rattle.explain.specs.Allowed.{allowed_words, allows, before_reply, behind_replies, end_words, reply_words, standing_of, unanswered}
use Rattle.script.specs.Faults as script
use Rattle.script.specs.declared.command.Mode.TheVariants.{Run, Threads}
use Rattle.verdict.specs.Faults as traces
use Rattle.explain.specs.Texts.{fault_text, place_text, point_words, points_text, spoiling_text}
use Rattle.explain.specs.declared.explanation.Title.TheVariants.{Good, Illegal, Legal, Script, Trace}
use Rattle.explain.specs.Laws.{TitlesSayWhatIsFound, at_line, fault_said, points_said, AllOfTheKindAreOrigins, Among, Begins, FallsAsleep, HasPoint, IsKilled, IsMoved, IsOwn, IsReaped, IsSpoilingWait, IsStepOf, IsWoken, LivesAgain, MayReply, NamesItsReplies, OriginsAreOfTheirKind, RepliesAreThoseAllowed, Returns, Speaks, SpoilingWaitsAreFound, WaitsAreAskedAsWaits, no_reply, or_others, replies_said, where_said}
use Rattle.explain.specs.Origins.{is_begin, is_origin, is_own, is_reap, is_return, is_sleep, is_step_like, is_step_of, is_wake}
use Rattle.explain.specs.Spoiling.{is_release, is_wait, is_waiting, spoils}
use Rattle.explain.specs.declared.explanation.Standing.{Standing}
use Rattle.explain.proofs.Allowing.{permitted}

-- ---- titles

abbrev pub joined : List (List ℕ) → List ℕ → List ℕ
joined [] after = after
joined (p ∷ ps) after = p ++ joined ps after

spread : (ps : List (List ℕ)) (after : List ℕ) → concat ps ++ after ≡ joined ps after
spread [] after = refl
spread (p ∷ ps) after = append_assoc p (concat ps) after ∙ ap (λ l. p ++ l) (spread ps after)

placed : (file : List ℕ) (line : ℕ) (after : List ℕ) → place_text file line ++ after ≡ at_line file line after
placed file line after = spread (file ∷ codes ": line " ∷ decimal line ∷ codes ": " ∷ []) after

faulted : (number : ℕ) (words kind : List ℕ) → fault_text number words ++ kind ≡ fault_said number words kind
faulted number words kind = spread (codes "fault " ∷ decimal number ∷ codes ": " ∷ words ∷ []) kind

pointed : (points : ℕ) → concat (decimal points ∷ point_words points ∷ []) ≡ points_said points
unfolding point_words
pointed points = ap (λ l. decimal points ++ l) (append-nil (point_words points))

legal : (file : List ℕ) (points : ℕ) → points_text file points ≡ file ++ (codes ": a legal trace, of " ++ points_said points)
legal file points = spread (file ∷ codes ": a legal trace, of " ∷ []) _ ∙ ap (λ l. file ++ (codes ": a legal trace, of " ++ l)) (pointed points)

pub titles_say_what_is_found : TitlesSayWhatIsFound
titles_say_what_is_found (Good true false) file = (spread (file ∷ codes ": a good script for " ∷ []) _, refl)
titles_say_what_is_found (Good false true) file = (spread (file ∷ codes ": a good script for " ∷ []) _, refl)
titles_say_what_is_found (Good true true) file = (spread (file ∷ codes ": a good script for " ∷ []) _, refl)
titles_say_what_is_found (Good false false) file = refl
titles_say_what_is_found (Script Run e) file = (placed file e.line _ ∙ ap (λ l. at_line file e.line l) (faulted (script.number_of e.fault) (script.words_of e.fault) _), refl)
titles_say_what_is_found (Script Threads e) file = (placed file e.line _ ∙ ap (λ l. at_line file e.line l) (faulted (script.number_of e.fault) (script.words_of e.fault) _), refl)
titles_say_what_is_found (Trace e) file = (placed file e.line _ ∙ ap (λ l. at_line file e.line l) (faulted (traces.number_of e.fault) (traces.words_of e.fault) _), refl)
titles_say_what_is_found (Illegal why) file = (placed file why.line _, refl)
titles_say_what_is_found (Legal points None) file = (append-nil (points_text file points) ∙ legal file points, refl)
titles_say_what_is_found (Legal points (Some line)) file = (
  ap (λ l. l ++ spoiling_text file (Some line)) (legal file points)
      ∙ append_assoc file (codes ": a legal trace, of " ++ points_said points) _ ∙ ap (λ l. file ++ (codes ": a legal trace, of " ++ l)) (append_assoc (decimal points) _ _ ∙ ap (λ l. decimal points ++ l) (ap (λ l. (if points == 1 then codes " point\n" else codes " points\n") ++ l) (placed file line _)) ∙ sym (append_assoc (decimal points) _ _)),
  refl,
)

-- ---- the replies that are named

kept : Standing → Operation → List Reply → List Reply
kept s op [] = []
kept s op (r ∷ rs) = if allows s op r then r ∷ kept s op rs else kept s op rs

abbrev pub kept_if : Bool → Reply → List Reply → List Reply
kept_if b r rs = if b then r ∷ rs else rs

others_said : (s : Standing) (op : Operation) (rs : List Reply) → allowed_words s op true rs ≡ or_others (kept s op rs)
unfolding allowed_words kept
others_said s op [] = refl
others_said s op (r ∷ rs) = go (allows s op r) (others_said s op rs)
  where
    go : (b : Bool) → allowed_words s op true rs ≡ or_others (kept s op rs) → (if b then concat (before_reply true ∷ reply_word r ∷ []) else []) ++ allowed_words s op true rs ≡ or_others (kept_if b r (kept s op rs))
    go true rest = ap (λ l. codes " or " ++ l) (append_assoc (reply_word r) [] (allowed_words s op true rs) ∙ ap (λ l. reply_word r ++ l) rest)
    go false rest = rest

none_same : (op : Operation) → concat (unanswered op ∷ []) ≡ no_reply op
none_same operation.Lock = refl
none_same operation.TryLock = refl
none_same operation.TimedLock = refl
none_same operation.Unlock = refl
none_same operation.Consistent = refl
none_same operation.Wait = refl
none_same operation.TimedWait = refl
none_same operation.Signal = refl
none_same operation.Broadcast = refl
none_same operation.Death = refl
none_same operation.Reinit = refl

replies_are_said : (s : Standing) (op : Operation) (rs : List Reply) → allowed_words s op false rs ≡ replies_said op (kept s op rs)
unfolding allowed_words kept
replies_are_said s op [] = none_same op
replies_are_said s op (r ∷ rs) = go (allows s op r) (replies_are_said s op rs) (others_said s op rs)
  where
    go : (b : Bool) → allowed_words s op false rs ≡ replies_said op (kept s op rs) → allowed_words s op true rs ≡ or_others (kept s op rs) → (if b then concat (before_reply false ∷ reply_word r ∷ []) else []) ++ allowed_words s op (false || b) rs ≡ replies_said op (kept_if b r (kept s op rs))
    go true rest others = ap (λ l. codes " may reply " ++ l) (append_assoc (reply_word r) [] (allowed_words s op true rs) ∙ ap (λ l. reply_word r ++ l) others)
    go false rest others = rest

where_same : (op : Operation) → concat (behind_replies op ∷ []) ≡ where_said op
where_same operation.Lock = refl
where_same operation.TryLock = refl
where_same operation.TimedLock = refl
where_same operation.Unlock = refl
where_same operation.Consistent = refl
where_same operation.Wait = refl
where_same operation.TimedWait = refl
where_same operation.Signal = refl
where_same operation.Broadcast = refl
where_same operation.Death = refl
where_same operation.Reinit = refl

is_reply : (r : Reply) → Among r all_replies
is_reply OK = inl refl
is_reply EPERM = inr (inl refl)
is_reply ESRCH = inr (inr (inl refl))
is_reply EAGAIN = inr (inr (inr (inl refl)))
is_reply EFAULT = inr (inr (inr (inr (inl refl))))
is_reply EBUSY = inr (inr (inr (inr (inr (inl refl)))))
is_reply EINVAL = inr (inr (inr (inr (inr (inr (inl refl))))))
is_reply EDEADLK = inr (inr (inr (inr (inr (inr (inr (inl refl)))))))
is_reply ETIMEDOUT = inr (inr (inr (inr (inr (inr (inr (inr (inl refl))))))))
is_reply EOWNERDEAD = inr (inr (inr (inr (inr (inr (inr (inr (inr (inl refl)))))))))
is_reply ENOTRECOVERABLE = inr (inr (inr (inr (inr (inr (inr (inr (inr (inr (inl refl))))))))))
is_reply XNOMEM = inr (inr (inr (inr (inr (inr (inr (inr (inr (inr (inr (inl refl)))))))))))
is_reply XRACED = inr (inr (inr (inr (inr (inr (inr (inr (inr (inr (inr (inr (inl refl))))))))))))
is_reply XHELD = inr (inr (inr (inr (inr (inr (inr (inr (inr (inr (inr (inr (inr (inl refl)))))))))))))
is_reply XFULL = inr (inr (inr (inr (inr (inr (inr (inr (inr (inr (inr (inr (inr (inr (inl refl))))))))))))))
is_reply XSTATE = inr (inr (inr (inr (inr (inr (inr (inr (inr (inr (inr (inr (inr (inr (inr (inl refl)))))))))))))))

among_so : (s : Standing) (op : Operation) (r : Reply) (rs : List Reply) → Among r (kept s op rs) → allows s op r ≡ true
unfolding kept
among_so s op r [] h = absurd h
among_so s op r (x ∷ xs) h = go (allows s op x) refl (among_so s op r xs) h
  where
    go : (b : Bool) → allows s op x ≡ b → (Among r (kept s op xs) → allows s op r ≡ true) → Among r (kept_if b x (kept s op xs)) → allows s op r ≡ true
    go true is rest (inl e) = ap (allows s op) e ∙ is
    go true is rest (inr g) = rest g
    go false is rest g = rest g

so_among : (s : Standing) (op : Operation) (r : Reply) (rs : List Reply) → allows s op r ≡ true → Among r rs → Among r (kept s op rs)
unfolding kept
so_among s op r [] may h = h
so_among s op r (x ∷ xs) may h = go (allows s op x) refl (so_among s op r xs may) h
  where
    go : (b : Bool) → allows s op x ≡ b → (Among r xs → Among r (kept s op xs)) → (r ≡ x) ⊎ Among r xs → Among r (kept_if b x (kept s op xs))
    go true is rest (inl e) = inl e
    go true is rest (inr g) = inr (rest g)
    go false is rest (inl e) = let z : true ≡ false = sym may ∙ ap (allows s op) e ∙ is in absurd cc
    go false is rest (inr g) = rest g

pub replies_are_those_allowed : RepliesAreThoseAllowed
replies_are_those_allowed o t op =
    let s = standing_of o t in
    record {
      replies = kept s op all_replies;
      just = λ r. (λ h. (permitted o t op r).0 (among_so s op r all_replies h), λ h. so_among s op r all_replies ((permitted o t op r).1 h) (is_reply r));
      said =
          ap (λ l. codes "  = " ++ l) (append_assoc (operation_word op) [] _)
          ∙ ap (λ l. codes "  = " ++ (operation_word op ++ (l ++ concat (behind_replies op ∷ [])))) (replies_are_said s op all_replies)
          ∙ ap (λ l. codes "  = " ++ (operation_word op ++ (replies_said op (kept s op all_replies) ++ l))) (where_same op);
    }

-- ---- what is asked

asked_owned : (op : Operation) (call : Option Operation) → asked_at true op call ≡ op
asked_owned operation.Lock call = refl
asked_owned operation.TryLock call = refl
asked_owned operation.TimedLock call = refl
asked_owned operation.Unlock call = refl
asked_owned operation.Consistent call = refl
asked_owned operation.Wait call = refl
asked_owned operation.TimedWait call = refl
asked_owned operation.Signal call = refl
asked_owned operation.Broadcast call = refl
asked_owned operation.Death call = refl
asked_owned operation.Reinit call = refl

asked_refused : (call : Operation) → IsWait call → asked_at false operation.Unlock (Some call) ≡ operation.Wait
asked_refused call (inl h) = ap (λ (c : Operation). asked_at false operation.Unlock (Some c)) h
asked_refused call (inr h) = ap (λ (c : Operation). asked_at false operation.Unlock (Some c)) h

asked_other : (owns : Bool) (op : Operation) (call : Option Operation) → op ≢ operation.Unlock → asked_at owns op call ≡ op
asked_other true op call other = asked_owned op call
asked_other false operation.Unlock call other = absurd (other refl)
asked_other false operation.Lock call other = refl
asked_other false operation.TryLock call other = refl
asked_other false operation.TimedLock call other = refl
asked_other false operation.Consistent call other = refl
asked_other false operation.Wait call other = refl
asked_other false operation.TimedWait call other = refl
asked_other false operation.Signal call other = refl
asked_other false operation.Broadcast call other = refl
asked_other false operation.Death call other = refl
asked_other false operation.Reinit call other = refl

asked_no_call : (owns : Bool) (op : Operation) → asked_at owns op None ≡ op
asked_no_call true op = asked_owned op None
asked_no_call false operation.Lock = refl
asked_no_call false operation.TryLock = refl
asked_no_call false operation.TimedLock = refl
asked_no_call false operation.Unlock = refl
asked_no_call false operation.Consistent = refl
asked_no_call false operation.Wait = refl
asked_no_call false operation.TimedWait = refl
asked_no_call false operation.Signal = refl
asked_no_call false operation.Broadcast = refl
asked_no_call false operation.Death = refl
asked_no_call false operation.Reinit = refl

asked_unlock : (call : Operation) → (IsWait call → ⊥) → asked_at false operation.Unlock (Some call) ≡ operation.Unlock
asked_unlock operation.Wait other = absurd (other (inl refl))
asked_unlock operation.TimedWait other = absurd (other (inr refl))
asked_unlock operation.Lock other = refl
asked_unlock operation.TryLock other = refl
asked_unlock operation.TimedLock other = refl
asked_unlock operation.Unlock other = refl
asked_unlock operation.Consistent other = refl
asked_unlock operation.Signal other = refl
asked_unlock operation.Broadcast other = refl
asked_unlock operation.Death other = refl
asked_unlock operation.Reinit other = refl

asked_no_wait : (owns : Bool) (op call : Operation) → (IsWait call → ⊥) → asked_at owns op (Some call) ≡ op
asked_no_wait true op call other = asked_owned op (Some call)
asked_no_wait false operation.Unlock call other = asked_unlock call other
asked_no_wait false operation.Lock call other = refl
asked_no_wait false operation.TryLock call other = refl
asked_no_wait false operation.TimedLock call other = refl
asked_no_wait false operation.Consistent call other = refl
asked_no_wait false operation.Wait call other = refl
asked_no_wait false operation.TimedWait call other = refl
asked_no_wait false operation.Signal call other = refl
asked_no_wait false operation.Broadcast call other = refl
asked_no_wait false operation.Death call other = refl
asked_no_wait false operation.Reinit call other = refl

pub waits_are_asked_as_waits : WaitsAreAskedAsWaits
waits_are_asked_as_waits = record { refused = asked_refused; owned = asked_owned; others = asked_other; no_wait = asked_no_wait; no_call = asked_no_call }

-- ---- origins

and_so : (a b : Bool) → (a && b) ≡ true → (a ≡ true) × (b ≡ true)
and_so true b h = (refl, h)
and_so false b h = absurd (cc h)

and_not : (a b : Bool) → (a && b) ≡ false → a ≡ true → b ≡ true → ⊥
and_not true true h e f = cc h
and_not true false h e f = cc f
and_not false b h e f = cc e

same_so : (a b : ℕ) → a ≡ b → (a == b) ≡ true
same_so a b e = grind (arith, nat_tests)

begin_so : (f : Fact) → is_begin f ≡ true → Begins f
begin_so (fact.Begin t c) h = (t, c, refl)
begin_so f h = absurd (cc h)

all_begin : (f : Fact) → Begins f → is_begin f ≡ true
all_begin f h = ap is_begin h.2

return_so : (f : Fact) → is_return f ≡ true → Returns f
return_so (fact.Return t x) h = (t, x, refl)
return_so f h = absurd (cc h)

all_return : (f : Fact) → Returns f → is_return f ≡ true
all_return f h = ap is_return h.2

sleep_so : (f : Fact) → is_sleep f ≡ true → FallsAsleep f
sleep_so (fact.Sleep t q) h = (t, q, refl)
sleep_so f h = absurd (cc h)

all_sleep : (f : Fact) → FallsAsleep f → is_sleep f ≡ true
all_sleep f h = ap is_sleep h.2

wake_so : (f : Fact) → is_wake f ≡ true → IsWoken f
wake_so (fact.Wake t) h = (t, refl)
wake_so f h = absurd (cc h)

all_wake : (f : Fact) → IsWoken f → is_wake f ≡ true
all_wake f h = ap is_wake h.1

kill_so : (f : Fact) → is_kill f ≡ true → IsKilled f
kill_so (fact.Kill t) h = (t, refl)
kill_so f h = absurd (cc h)

all_kill : (f : Fact) → IsKilled f → is_kill f ≡ true
all_kill f h = ap is_kill h.1

reap_so : (f : Fact) → is_reap f ≡ true → IsReaped f
reap_so (fact.Reap t) h = (t, refl)
reap_so f h = absurd (cc h)

all_reap : (f : Fact) → IsReaped f → is_reap f ≡ true
all_reap f h = ap is_reap h.1

renewal_so : (f : Fact) → is_renewal f ≡ true → LivesAgain f
renewal_so (fact.Renew t) h = (t, refl)
renewal_so f h = absurd (cc h)

all_renewal : (f : Fact) → LivesAgain f → is_renewal f ≡ true
all_renewal f h = ap is_renewal h.1

point_so : (f : Fact) → is_point f ≡ true → HasPoint f
point_so (fact.Point d) h = (d, refl)
point_so f h = absurd (cc h)

all_point : (f : Fact) → HasPoint f → is_point f ≡ true
all_point f h = ap is_point h.1

either_so : {A B : Type 0} (a b : Bool) → (a ≡ true → A) → (b ≡ true → B) → (a || b) ≡ true → A ⊎ B
either_so true b f g h = inl (f refl)
either_so false b f g h = inr (g h)

either_all : {A B : Type 0} (a b : Bool) → (A → a ≡ true) → (B → b ≡ true) → A ⊎ B → (a || b) ≡ true
either_all true b f g h = refl
either_all false b f g (inl h) = let z : false ≡ true = f h in absurd cc
either_all false b f g (inr h) = g h

own_so : (p : Fact → Bool) (e a : Line) {P : Fact → Type 0} → ((f : Fact) → p f ≡ true → P f) → (is_own e a && p a.fact) ≡ true → IsOwn P e a
own_so p e a so h = let q = and_so (is_own e a) (p a.fact) h in (eqb-true (thread_of a.fact) (thread_of e.fact) q.0, so a.fact q.1)

own_all : (p : Fact → Bool) (e a : Line) {P : Fact → Type 0} → ((f : Fact) → P f → p f ≡ true) → (is_own e a && p a.fact) ≡ false → IsOwn P e a → ⊥
own_all p e a all h s = and_not (is_own e a) (p a.fact) h (same_so (thread_of a.fact) (thread_of e.fact) s.0) (all a.fact s.1)

unless_passive : (f : Fact) → (IsWoken f → ⊥) → (IsMoved f → ⊥) → not (is_passive f) ≡ true
unless_passive (fact.Wake t) w m = absurd (w (t, refl))
unless_passive (fact.Move t k) w m = absurd (m (t, k, refl))
unless_passive f w m = refl

decides_so : (o : Option Decision) → is_some o ≡ true → (d : Decision) × (o ≡ Some d)
decides_so None h = absurd (cc h)
decides_so (Some d) h = (d, refl)

step_so : (m : ℕ) (o : Option Decision) → is_step_of m o ≡ true → (d : Decision) × (o ≡ Some d) × (d.mutex ≡ m)
step_so m None h = absurd (cc h)
step_so m (Some d) h = (d, refl, eqb-true d.mutex m h)

step_all : (m : ℕ) (o : Option Decision) → is_step_of m o ≡ false → (d : Decision) × (o ≡ Some d) × (d.mutex ≡ m) → ⊥
step_all m o h s = let z : is_step_of m o ≡ true = ap (is_step_of m) s.1 ∙ same_so s.0.mutex m s.2 in let y : true ≡ false = sym z ∙ h in cc

like_so : (o p : Option Decision) → is_step_like o p ≡ true → (d : Decision) × (o ≡ Some d) × ((c : Decision) × (p ≡ Some c) × (c.mutex ≡ d.mutex))
like_so None p h = absurd (cc h)
like_so (Some d) p h = (d, refl, step_so d.mutex p h)

like_all : (o p : Option Decision) → is_step_like o p ≡ false → (d : Decision) × (o ≡ Some d) × ((c : Decision) × (p ≡ Some c) × (c.mutex ≡ d.mutex)) → ⊥
like_all o p h s = step_all s.0.mutex p (sym (ap (λ (q : Option Decision). is_step_like q p) s.1) ∙ h) s.2

kind_of : OriginsAreOfTheirKind
kind_of (misfit.EventFalls i) e a h = tt
kind_of (misfit.AnothersEvent t) e a h =
    let p = and_so (a.event == e.event) (not (is_passive a.fact)) h in
    (eqb-true a.event e.event p.0, λ w. (let x : is_passive a.fact ≡ true = ap is_passive w.1 in let y : not (is_passive a.fact) ≡ false = ap not x in let z : true ≡ false = sym p.1 ∙ y in absurd cc), λ w. (let x : is_passive a.fact ≡ true = ap is_passive w.2 in let y : not (is_passive a.fact) ≡ false = ap not x in let z : true ≡ false = sym p.1 ∙ y in absurd cc))
kind_of misfit.EventDecided e a h = let p = and_so (a.event == e.event) (decides a.fact) h in (eqb-true a.event e.event p.0, decides_so (decision_of a.fact) p.1)
kind_of misfit.KillShares e a h = eqb-true a.event e.event h
kind_of misfit.EventKilled e a h = let p = and_so (a.event == e.event) (is_kill a.fact) h in (eqb-true a.event e.event p.0, kill_so a.fact p.1)
kind_of (misfit.InCall c) e a h = own_so is_begin e a begin_so h
kind_of misfit.Asleep e a h = own_so is_sleep e a sleep_so h
kind_of misfit.Killed e a h = own_so is_kill e a kill_so h
kind_of misfit.NotReaped e a h = own_so is_kill e a kill_so h
kind_of misfit.Reaped e a h = own_so is_reap e a reap_so h
kind_of misfit.Alive e a h = own_so is_renewal e a renewal_so h
kind_of (misfit.OtherMutex m) e a h = own_so is_begin e a begin_so h
kind_of (misfit.OtherOperation o) e a h = own_so is_begin e a begin_so h
kind_of misfit.ReleaseRefused e a h = own_so is_begin e a begin_so h
kind_of misfit.Released e a h = own_so is_point e a point_so h
kind_of (misfit.Decided x) e a h = own_so is_point e a point_so h
kind_of misfit.Undecided e a h = own_so is_begin e a begin_so h
kind_of (misfit.OtherReply x) e a h = own_so is_point e a point_so h
kind_of (misfit.TooEarly i) e a h = own_so is_begin e a begin_so h
kind_of misfit.NoCall e a h = own_so (λ f. is_return f || is_renewal f) e a (λ f g. either_so (is_return f) (is_renewal f) (return_so f) (renewal_so f) g) h
kind_of misfit.Awake e a h = own_so (λ f. is_wake f || is_renewal f) e a (λ f g. either_so (is_wake f) (is_renewal f) (wake_so f) (renewal_so f) g) h
kind_of (misfit.NotAllowed o x) e a h = like_so (decision_of e.fact) (decision_of a.fact) h
kind_of (misfit.AtLimit k) e a h = absurd (cc h)
kind_of (misfit.NotOwner o) e a h = like_so (decision_of e.fact) (decision_of a.fact) h
kind_of (misfit.StillOwns m) e a h = step_so m (decision_of a.fact) h
kind_of (misfit.EndFalls i) e a h = tt

pub origins_are_of_their_kind : OriginsAreOfTheirKind
origins_are_of_their_kind = kind_of

all_of : AllOfTheKindAreOrigins
all_of (misfit.EventFalls i) e a h s = absurd (cc h)
all_of (misfit.AnothersEvent t) e a h s = and_not (a.event == e.event) (not (is_passive a.fact)) h (same_so a.event e.event s.0) (unless_passive a.fact s.1 s.2)
all_of misfit.EventDecided e a h s = and_not (a.event == e.event) (decides a.fact) h (same_so a.event e.event s.0) (ap is_some s.1.1)
all_of misfit.KillShares e a h s = let z : true ≡ false = sym (same_so a.event e.event s) ∙ h in absurd cc
all_of misfit.EventKilled e a h s = and_not (a.event == e.event) (is_kill a.fact) h (same_so a.event e.event s.0) (all_kill a.fact s.1)
all_of (misfit.InCall c) e a h s = own_all is_begin e a all_begin h s
all_of misfit.Asleep e a h s = own_all is_sleep e a all_sleep h s
all_of misfit.Killed e a h s = own_all is_kill e a all_kill h s
all_of misfit.NotReaped e a h s = own_all is_kill e a all_kill h s
all_of misfit.Reaped e a h s = own_all is_reap e a all_reap h s
all_of misfit.Alive e a h s = own_all is_renewal e a all_renewal h s
all_of (misfit.OtherMutex m) e a h s = own_all is_begin e a all_begin h s
all_of (misfit.OtherOperation o) e a h s = own_all is_begin e a all_begin h s
all_of misfit.ReleaseRefused e a h s = own_all is_begin e a all_begin h s
all_of misfit.Released e a h s = own_all is_point e a all_point h s
all_of (misfit.Decided x) e a h s = own_all is_point e a all_point h s
all_of misfit.Undecided e a h s = own_all is_begin e a all_begin h s
all_of (misfit.OtherReply x) e a h s = own_all is_point e a all_point h s
all_of (misfit.TooEarly i) e a h s = own_all is_begin e a all_begin h s
all_of misfit.NoCall e a h s = own_all (λ f. is_return f || is_renewal f) e a (λ f g. either_all (is_return f) (is_renewal f) (all_return f) (all_renewal f) g) h s
all_of misfit.Awake e a h s = own_all (λ f. is_wake f || is_renewal f) e a (λ f g. either_all (is_wake f) (is_renewal f) (all_wake f) (all_renewal f) g) h s
all_of (misfit.NotAllowed o x) e a h s = like_all (decision_of e.fact) (decision_of a.fact) h s
all_of (misfit.AtLimit k) e a h s = s
all_of (misfit.NotOwner o) e a h s = like_all (decision_of e.fact) (decision_of a.fact) h s
all_of (misfit.StillOwns m) e a h s = step_all m (decision_of a.fact) h s
all_of (misfit.EndFalls i) e a h s = absurd (cc h)

pub all_of_the_kind_are_origins : AllOfTheKindAreOrigins
all_of_the_kind_are_origins = all_of

-- ---- waits that make their mutexes unusable

wait_so : (op : Operation) → is_wait op ≡ true → IsWait op
wait_so operation.Wait h = inl refl
wait_so operation.TimedWait h = inr refl
wait_so op h = absurd (cc h)

wait_all : (op : Operation) → IsWait op → is_wait op ≡ true
wait_all op (inl h) = ap is_wait h
wait_all op (inr h) = ap is_wait h

waiting_so : (c : Option Begun) → is_waiting c ≡ true → (k : Begun) × (c ≡ Some k) × IsWait k.operation
waiting_so None h = absurd (cc h)
waiting_so (Some k) h = (k, refl, wait_so k.operation h)

release_so : (op : Operation) (x : Reply) → is_release op x ≡ true → (op ≡ operation.Unlock) × (x ≡ OK)
release_so operation.Unlock OK h = (refl, refl)
release_so op x h = absurd (cc h)

made_unusable : (o : Object) (t : ℕ) → o.inconsistent ≡ true → (stepped o t operation.Unlock OK).unusable ≡ true
made_unusable o t h = ap (λ (b : Bool). b || o.unusable) h

spoils_so : (earlier : List Line) (d : Decision) → spoils earlier (Some d) ≡ true → IsSpoilingWait earlier d
spoils_so earlier d h =
    let o = objects_after earlier d.mutex in
    let p = and_so (is_release d.operation d.reply) (is_waiting (call_in (told_of d.thread earlier)) && o.inconsistent) h in
    let q = and_so (is_waiting (call_in (told_of d.thread earlier))) o.inconsistent p.1 in
    let w = waiting_so (call_in (told_of d.thread earlier)) q.0 in
    let r = release_so d.operation d.reply p.0 in
    record {
      call = w.0;
      waits = (w.1, w.2);
      unlocks = r;
      inconsistent = q.1;
      spoils =
          ap (λ (op : Operation). (stepped o d.thread op d.reply).unusable) r.0 ∙ ap (λ (x : Reply). (stepped o d.thread operation.Unlock x).unusable) r.1
          ∙ made_unusable o d.thread q.1;
    }

both_so : (a b c : Bool) → a ≡ true → b ≡ true → c ≡ true → (a && (b && c)) ≡ true
both_so a b c e f g = ap (λ (x : Bool). x && (b && c)) e ∙ ap (λ (x : Bool). x && c) f ∙ g

so_spoils : (earlier : List Line) (d : Decision) → IsSpoilingWait earlier d → spoils earlier (Some d) ≡ true
so_spoils earlier d s = both_so (is_release d.operation d.reply) (is_waiting (call_in (told_of d.thread earlier))) (objects_after earlier d.mutex).inconsistent
    (ap (λ (op : Operation). is_release op d.reply) s.unlocks.0 ∙ ap (is_release operation.Unlock) s.unlocks.1)
    (ap is_waiting s.waits.0 ∙ wait_all s.call.operation s.waits.1)
    s.inconsistent

pub spoiling_waits_are_found : SpoilingWaitsAreFound
spoiling_waits_are_found = record { found = spoils_so; all = so_spoils }
