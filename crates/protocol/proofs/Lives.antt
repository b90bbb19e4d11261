-- What each event adds to its thread's life, and that its lines are in order.
use Rattle.std.proofs.Common.{◌≡◌, ◌≢◌, inl, inr, append-nil, append_assoc, ℕ, ◌+◌, ◌≤◌, ◌==◌, ◌&&◌, Bool, true, false, Option, Some, None, Ok, Err, List, [], ◌∷◌, ◌++◌, map, refl, sym, ap, ◌∙◌, subst, arith}
use Rattle.protocol.proofs.Vocabulary.{departed, renewed, reinited, reinit_of, OK, Left, Phase, Renewed, Reinited}
use Rattle.protocol.proofs.Vocabulary.{CondCall, condition_of, CondWhole, cond_access, cond_led, Begun, Queue, Mutex, Condition, Fact, Return, Operation, Access, Answer, Layout'}
use Rattle.protocol.proofs.Vocabulary.{Reply, XHELD, Whole, whole_access, whole_led, Op, OnCondition, mutex_of, begun_of, Event, Thread, Stage, Idle, Calling, AtCondition, Dying}
use Rattle.protocol.proofs.Vocabulary.{Reaped, Note, Began, Stepped, Walked, facts_of, sleep_facts, moves_to, return_facts, death_facts, reap_facts, State, After, start, nothing}
use Rattle.protocol.proofs.Vocabulary.{is_alive, has_ended, stage_walked, killed, walked, begun, decision, slept_in, falls_asleep, woken, answer_of, led, led_at, went, happens}
use Rattle.protocol.proofs.Vocabulary.{notes, caller, if◌then◌else◌, MatchBool, Nothing, Killed, line_of, point_facts, lines_from, caller_of, IsExplained, TraceIsExplained}
use Rattle.facts.specs.declared.fact.Fact.TheVariants.{Begin, Point, Wake, Kill, Death, Reap, Renew}
use Rattle.facts.specs.declared.fact.Line.{Line}
use Rattle.facts.specs.Facts.{thread_of, is_passive}
use Rattle.facts.specs.Lives.{Act, Beginning, made_by, made, is_of_call, own, Complete, Unburied, Tells_of, Buried, Rests, Returns, Stays, Cut, Dies, EndsReaped, Lives, Last, Earlier}
use Rattle.protocol.specs.Machine.{moved, Led}
use Rattle.protocol.proofs.Puts.{put-same, put-other}
use Rattle.protocol.proofs.Phases.{decided_at}
use Rattle.protocol.proofs.Kept.{Kept}
use Rattle.protocol.proofs.Steps.{met_no_move, answer-is, onto}
use Rattle.protocol.proofs.CallSteps.{CallStep}
use Rattle.lockword.specs.declared.reply.Reply.TheVariants.{ETIMEDOUT}
use Rattle.mutex.specs.Whole.{timed_out}
use Rattle.protocol.proofs.Vocabulary.{Call, Expired, Object, OnMutex, lapsed}
use Rattle.protocol.proofs.Steps.{Tells}
use Rattle.protocol.proofs.Acts.{refused_point}
use Rattle.posixmutex.specs.Objects.{acquires}
use Rattle.condvar.specs.Ops.{operation_of}
use Rattle.condvar.specs.declared.call.Limit.{Limit}
use Rattle.condvar.specs.declared.call.Limit.TheVariants.{Past}
use Rattle.protocol.specs.Machine.{overslept}
use Rattle.protocol.proofs.Kept.{IsFor}
use Rattle.protocol.proofs.Expiring.{expires_at}
use Rattle.protocol.proofs.Declines.{declined_state, quiet, spared_is}
use Rattle.protocol.proofs.Events.{begins_at, by_event, by_stage, IsTrimming}
use Rattle.protocol.proofs.Endings.{EndsOrGoes, call_ends, cond_ends}
use Rattle.protocol.proofs.Acts.{acts_by, acts_in, acts_begin, acts_in_begin, acts_of, Doing, AfterKill, In_that_life, And_anew, AfterReaping, Stays_reaped, Renewed_then, Goes, Follows, call_follows, cond_follows}
use Rattle.protocol.proofs.Renewals.{renewed_thread, renewed_other}
use Rattle.protocol.proofs.CondAccesses.{cond_stepping, fits_at}
use Rattle.protocol.proofs.Accesses as accesses
use Rattle.protocol.proofs.Runs.{sound, start_kept}
use Rattle.protocol.proofs.LineOrder.{Fine, access_fine, walked_fine, KillsAlone, no_kill_alone, access_no_kill, walked_no_kill, Called, each, InOrder, placed, within}
use Rattle.exitwalk.specs.declared.row.Row as walk_row
use Rattle.exitwalk.specs.declared.row.Row.TheVariants as walk
use Rattle.exitwalk.specs.Standings as walks
use Rattle.protocol.proofs.NoteFacts.{IsOfSleep, behind_woken, behind_point}
use Rattle.protocol.proofs.Cases.{by_same}
use Rattle.protocol.proofs.Vocabulary.{CondPhase}
use Rattle.protocol.proofs.Events.{HowSpared, Of_unlock, Of_wait, Sparing}
use Rattle.protocol.proofs.Sparing.{spare_is, spared_state, next_of, unwoken}
use Rattle.protocol.proofs.Vocabulary.{CondRow, WaitRow}
use Rattle.std.specs.Prelude.{nat_le}

-- ---- what may come next in a thread's life

-- the point of thread t's call
abbrev point_by : ℕ → ℕ → Operation → Reply → Fact
point_by t m op x = Point (record { thread = t; mutex = m; operation = op; reply = x })

-- a call's begin, its points, and then this
abbrev called : ℕ → Begun → List Act → List Fact → List Fact
called t b ps fs = Begin t b ∷ (made t b ps ++ fs)

-- more may follow
called_more : (t : ℕ) (b : Begun) (ps : List Act) (fs gs : List Fact) → called t b ps fs ++ gs ≡ called t b ps (fs ++ gs)
called_more t b ps fs gs = ap (λ (zs : List Fact). Begin t b ∷ zs) (append_assoc (made t b ps) fs gs)

called_reaped : (t : ℕ) (b : Begun) (ps : List Act) (f : Fact) (fs : List Fact) → EndsReaped t fs → EndsReaped t (called t b ps (f ∷ fs))
called_reaped t b ps f fs e = (called t b ps (f ∷ e.0), ap (λ (zs : List Fact). called t b ps (f ∷ zs)) e.1 ∙ sym (called_more t b ps (f ∷ e.0) (Reap t ∷ [])))

-- a call that returned, and then what follows it
returns_on : (t : ℕ) (b : Begun) (ps : List Act) (x : Reply) (fs : List Fact) → Complete b.operation ps x → Lives t fs → Lives t (called t b ps (Return t x ∷ fs))
returns_on t b ps x fs all (Last life l) = Last (called t b ps (Return t x ∷ life)) (Returns b ps x life all l)
returns_on t b ps x fs all (Earlier life later l e more) =
    subst (Lives t) (called_more t b ps (Return t x ∷ life) (Renew t ∷ later))
    (Earlier (called t b ps (Return t x ∷ life)) later (Returns b ps x life all l) (called_reaped t b ps (Return t x) life e) more)

-- a kill in a call, and one in none
cut_on : (t : ℕ) (b : Begun) (ps : List Act) (fs : List Fact) → Beginning b.operation ps → AfterKill t fs → Lives t (called t b ps (Kill t ∷ fs))
cut_on t b ps fs begins (In_that_life gs m) = Last (called t b ps (Kill t ∷ gs)) (Cut b ps gs begins m)
cut_on t b ps fs begins (And_anew first later m e more) =
    subst (Lives t) (called_more t b ps (Kill t ∷ first) (Renew t ∷ later))
    (Earlier (called t b ps (Kill t ∷ first)) later (Cut b ps first begins m) (called_reaped t b ps (Kill t) first e) more)

one_more_reaped : (t : ℕ) (f : Fact) (fs : List Fact) → EndsReaped t fs → EndsReaped t (f ∷ fs)
one_more_reaped t f fs e = (f ∷ e.0, ap (λ (zs : List Fact). f ∷ zs) e.1)

dies_on : (t : ℕ) (fs : List Fact) → AfterKill t fs → Lives t (Kill t ∷ fs)
dies_on t fs (In_that_life gs m) = Last (Kill t ∷ gs) (Dies gs m)
dies_on t fs (And_anew first later m e more) = Earlier (Kill t ∷ first) later (Dies first m) (one_more_reaped t (Kill t) first e) more

-- its death, and its reaping
death_on : (t m : ℕ) (fs : List Fact) → AfterKill t fs → AfterKill t (Death t m ∷ fs)
death_on t m fs (In_that_life gs mourned) = In_that_life (Death t m ∷ gs) (Tells_of m gs mourned)
death_on t m fs (And_anew first later mourned e more) = And_anew (Death t m ∷ first) later (Tells_of m first mourned) (one_more_reaped t (Death t m) first e) more

reap_on : (t : ℕ) (fs : List Fact) → AfterReaping t fs → AfterKill t (Reap t ∷ fs)
reap_on t fs Stays_reaped = In_that_life (Reap t ∷ []) Buried
reap_on t fs (Renewed_then later more) = And_anew (Reap t ∷ []) later Buried ([], refl) more

-- it may do nothing more
stays : (t : ℕ) (b : Begun) (ps : List Act) → Beginning b.operation ps → Doing t b ps []
stays t b ps begins = subst (λ (fs : List Fact). Lives t (Begin t b ∷ fs)) (sym (append-nil (made t b ps))) (Last (Begin t b ∷ made t b ps) (Stays b ps begins))

ends : (l : Layout') (t : ℕ) (g : Stage) → Goes l t g []
ends l t Idle = Last [] Rests
ends l t (Calling o p) = stays t (begun_of l o) (acts_by o (decided_at p.phase)) (acts_begin o (decided_at p.phase))
ends l t (AtCondition c p) = stays t (begun_of l (OnCondition c)) (acts_in c p.phase) (acts_in_begin c p.phase)
ends l t (Dying w) = In_that_life [] Unburied
ends l t Reaped = Stays_reaped

-- its points, and one more
made_later : (t : ℕ) (b : Begun) (ps : List Act) (a : Act) (fs : List Fact) → made t b (ps ++ a ∷ []) ++ fs ≡ made t b ps ++ made_by t b a ∷ fs
made_later t b [] a fs = refl
made_later t b (p ∷ ps) a fs = ap (λ (zs : List Fact). made_by t b p ∷ zs) (made_later t b ps a fs)

point_then : (t : ℕ) (b : Begun) (ps : List Act) (op : Operation) (x : Option Reply) (fs : List Fact) → Doing t b (ps ++ acts_of op x) fs → Doing t b ps (point_facts (decision t b.mutex op x) ++ fs)
point_then t b ps op None fs later = subst (λ (qs : List Act). Doing t b qs fs) (append-nil ps) later
point_then t b ps op (Some x) fs later = subst (λ (zs : List Fact). Lives t (Begin t b ∷ zs)) (made_later t b ps (op, x) fs) later

-- ---- a thread's lines

own-mine : (t i : ℕ) (f : Fact) (ls : List Line) → is_of_call f ≡ true → thread_of f ≡ t → own t (line_of i f ∷ ls) ≡ f ∷ own t ls
own-mine t i f ls call is = grind (arith)

own-other : (t i : ℕ) (f : Fact) (ls : List Line) → thread_of f ≢ t → own t (line_of i f ∷ ls) ≡ own t ls
own-other t i f ls apart = grind (arith)

-- what a note tells of calls and deaths, and not of who sleeps
abbrev calls_of : Note → List Fact
calls_of (Stepped t m point slept woken moved returned) = point_facts point ++ return_facts t returned
calls_of (Walked t death woken reaped) = death_facts t death ++ reap_facts t reaped
calls_of (Left t) = []
calls_of (Expired t (Mutex m)) = point_by t m Operation.TimedLock ETIMEDOUT ∷ []
calls_of (Expired t (Condition k)) = []
calls_of n = facts_of n

-- who sleeps, who is woken and who is moved is recorded of no call
sleep_own : (t i u : ℕ) (f : Fact) (ls : List Line) → IsOfSleep u f → own t (line_of i f ∷ ls) ≡ own t ls
sleep_own t i u f ls of = grind (arith)

slept_own : (t i u m : ℕ) (z : Option Queue) (ws ms : List ℕ) (y : Option Reply) (ls : List Line) → own t (map (line_of i) (sleep_facts u z ++ (map Wake ws ++ (map (moves_to m) ms ++ return_facts u y))) ++ ls) ≡ own t (map (line_of i) (return_facts u y) ++ ls)
slept_own t i u m z ws ms y ls =
    behind_point (λ (fs : List Fact). own t (map (line_of i) fs ++ ls) ≡ own t (map (line_of i) (return_facts u y) ++ ls)) u m z ws ms (return_facts u y) (λ f of fs same. sleep_own t i u f (map (line_of i) fs ++ ls) of ∙ same) refl

reaped_own : (t i u : ℕ) (ws : List ℕ) (y : Bool) (ls : List Line) → own t (map (line_of i) (map Wake ws ++ reap_facts u y) ++ ls) ≡ own t (map (line_of i) (reap_facts u y) ++ ls)
reaped_own t i u ws y ls = behind_woken (λ (fs : List Fact). own t (map (line_of i) fs ++ ls) ≡ own t (map (line_of i) (reap_facts u y) ++ ls)) ws (reap_facts u y) (λ w fs same. same) refl

own-calls : (t i : ℕ) (n : Note) (ls : List Line) → own t (map (line_of i) (facts_of n) ++ ls) ≡ own t (map (line_of i) (calls_of n) ++ ls)
own-calls t i Nothing ls = refl
own-calls t i (Began u c x) ls = refl
own-calls t i (Killed u) ls = refl
own-calls t i (Left u) ls = refl
own-calls t i (Expired u (Mutex m)) ls = refl
own-calls t i (Expired u (Condition k)) ls = refl
own-calls t i (Renewed u) ls = refl
own-calls t i (Reinited u m) ls = refl
own-calls t i (Walked u None ws y) ls = reaped_own t i u ws y ls
own-calls t i (Walked u (Some m) ws y) ls = ap (λ (v : List Fact). if u == t then Death u m ∷ v else v) (reaped_own t i u ws y ls)
own-calls t i (Stepped u m None z ws ms y) ls = slept_own t i u m z ws ms y ls
own-calls t i (Stepped u m (Some d) z ws ms y) ls = ap (λ (v : List Fact). if d.thread == t then Point d ∷ v else v) (slept_own t i u m z ws ms y ls)

-- what one event tells: nothing; that its thread began a call, or was answered at once; that it decided something, or
-- returned, or both; that it died; of its death; or that it lives again
data Says (t : ℕ) : List Fact → Type 0 where
  nothing_new : Says t []
  begins_one : (b : Begun) → Says t (Begin t b ∷ [])
  at_once : (b : Begun) (x : Reply) → Says t (Begin t b ∷ (point_by t b.mutex b.operation x ∷ (Return t x ∷ [])))
  decided : (m : ℕ) (op : Operation) (x : Reply) → Says t (point_by t m op x ∷ [])
  returns : (x : Reply) → Says t (Return t x ∷ [])
  ends_with : (m : ℕ) (op : Operation) (x y : Reply) → Says t (point_by t m op x ∷ (Return t y ∷ []))
  dies : Says t (Kill t ∷ [])
  mourned : (d : Option ℕ) (y : Bool) → Says t (death_facts t d ++ reap_facts t y)
  anew : Says t (Renew t ∷ [])

-- another thread's event adds nothing to this thread's lines
own-apart : (t u i : ℕ) (fs : List Fact) (ls : List Line) → Says u fs → u ≢ t → own t (map (line_of i) fs ++ ls) ≡ own t ls
own-apart t u i fs ls nothing_new apart = refl
own-apart t u i fs ls (begins_one b) apart = own-other t i (Begin u b) ls apart
own-apart t u i fs ls (at_once b x) apart = own-other t i (Begin u b) (line_of i (point_by u b.mutex b.operation x) ∷ (line_of i (Return u x) ∷ ls)) apart ∙ own-other t i (point_by u b.mutex b.operation x) (line_of i (Return u x) ∷ ls) apart ∙ own-other t i (Return u x) ls apart
own-apart t u i fs ls (decided m op x) apart = own-other t i (point_by u m op x) ls apart
own-apart t u i fs ls (returns x) apart = own-other t i (Return u x) ls apart
own-apart t u i fs ls dies apart = own-other t i (Kill u) ls apart
own-apart t u i fs ls anew apart = own-other t i (Renew u) ls apart
own-apart t u i fs ls (mourned None false) apart = refl
own-apart t u i fs ls (mourned None true) apart = own-other t i (Reap u) ls apart
own-apart t u i fs ls (mourned (Some m) false) apart = own-other t i (Death u m) ls apart
own-apart t u i fs ls (mourned (Some m) true) apart = own-other t i (Death u m) (line_of i (Reap u) ∷ ls) apart ∙ own-other t i (Reap u) ls apart
own-apart t u i fs ls (ends_with m op x y) apart = own-other t i (point_by u m op x) (line_of i (Return u y) ∷ ls) apart ∙ own-other t i (Return u y) ls apart

-- ---- one event

-- a call begins undecided
first_acts : (l : Layout') (t : ℕ) (o : Op) (fs : List Fact) → Goes l t (begins_at l t o) fs → Doing t (begun_of l o) [] fs
first_acts l t o fs later = grind (arith)

-- the facts of an access
abbrev facts_at : ℕ → ℕ → Operation → Option Reply → Option Reply → List Fact
facts_at t m op x y = point_facts (decision t m op x) ++ return_facts t y

-- they are its thread's
own-facts : (t i m : ℕ) (op : Operation) (x y : Option Reply) (ls : List Line) → own t (map (line_of i) (facts_at t m op x y) ++ ls) ≡ point_facts (decision t m op x) ++ (return_facts t y ++ own t ls)
own-facts t i m op x y ls = grind (arith)

-- an access tells what may come next in its thread's life
access : (l : Layout') (t i : ℕ) (o : Op) (ps : List Act) (g : Led) (ls : List Line) → Follows l t o ps g → EndsOrGoes g.stage g.returned → Goes l t g.stage (own t ls)
    → Doing t (begun_of l o) ps (own t (map (line_of i) (facts_at t (mutex_of l o) g.operation g.point g.returned) ++ ls))
access l t i o ps g ls follows (inl (on, none)) later =
    subst (Doing t (begun_of l o) ps) (sym (own-facts t i (mutex_of l o) g.operation g.point g.returned ls ∙ ap (λ (y : Option Reply). point_facts (decision t (mutex_of l o) g.operation g.point) ++ (return_facts t y ++ own t ls)) none))
    (point_then t (begun_of l o) ps g.operation g.point (own t ls) (follows.on none (own t ls) later))
access l t i o ps g ls follows (inr (idle, x, back)) later =
    subst (Doing t (begun_of l o) ps) (sym (own-facts t i (mutex_of l o) g.operation g.point g.returned ls ∙ ap (λ (y : Option Reply). point_facts (decision t (mutex_of l o) g.operation g.point) ++ (return_facts t y ++ own t ls)) back))
    (point_then t (begun_of l o) ps g.operation g.point (Return t x ∷ own t ls)
    (returns_on t (begun_of l o) (ps ++ acts_of g.operation g.point) x (own t ls) (follows.back x back) (subst (λ (z : Stage). Goes l t z (own t ls)) idle later)))

-- what an access tells is its thread's
says_of : (t m : ℕ) (op : Operation) (x y : Option Reply) → Says t (facts_at t m op x y)
says_of t m op None None = nothing_new
says_of t m op None (Some y) = returns y
says_of t m op (Some x) None = decided m op x
says_of t m op (Some x) (Some y) = ends_with m op x y

-- ---- each event

-- what an event leaves and notes: of its own thread what may come next, and of others nothing
record Adds (s : State) (u : ℕ) (a : After) : Type 0 where
  fine : Fine u (facts_of a.note)
  alone : KillsAlone (facts_of a.note)
  says : Says u (calls_of a.note)
  mine : (i : ℕ) (ls : List Line) → Goes s.layout u (a.state.threads u).stage (own u ls) → Goes s.layout u (s.threads u).stage (own u (map (line_of i) (calls_of a.note) ++ ls))
  others : (t : ℕ) → u ≢ t → (a.state.threads t).stage ≡ (s.threads t).stage

-- an event that can't apply adds nothing
idles : (s : State) (u : ℕ) → Adds s u (nothing s)
idles s u = record { fine = tt; alone = tt; says = nothing_new; mine = λ i ls later. later; others = λ t apart. refl }

module _ (s : State) (u : ℕ) (o : Op) (idle : (s.threads u).stage ≡ Idle) where
  abbrev b : Begun
  b = begun_of s.layout o

  -- a call begins, or is refused
  begins_call : (full : Bool) → (acquires (operation_of o) && nat_le 2048 (s.threads u).held) ≡ full → Adds s u (begun s u o (if full then Err XHELD else Ok (begins_at s.layout u o)))
  begins_call true refuses = record {
    fine = ((λ e. refl), (λ e. absurd cc), ((λ e. refl), (λ e. (refl, tt)), ((λ e. refl), (λ e. tt), tt)));
    alone = (refl, (refl, (refl, tt)));
    says = at_once b XHELD;
    mine = λ i ls later.
        let first = own-mine u i (Begin u b) (line_of i (point_by u b.mutex b.operation XHELD) ∷ (line_of i (Return u XHELD) ∷ ls)) refl refl in
        let second = own-mine u i (point_by u b.mutex b.operation XHELD) (line_of i (Return u XHELD) ∷ ls) refl refl in
        let third = own-mine u i (Return u XHELD) ls refl refl in
        subst (λ g. Goes s.layout u g (own u (line_of i (Begin u b) ∷ (line_of i (point_by u b.mutex b.operation XHELD) ∷ (line_of i (Return u XHELD) ∷ ls))))) (sym idle)
        (subst (Lives u) (sym (first ∙ ap (λ fs. Begin u b ∷ fs) (second ∙ ap (λ fs. point_by u b.mutex b.operation XHELD ∷ fs) third)))
        (returns_on u b ((b.operation, XHELD) ∷ []) XHELD (own u ls) (refused_point b.operation (nat_le 2048 (s.threads u).held) refuses) (subst (λ g. Goes s.layout u g (own u ls)) idle later)));
    others = λ t apart. refl;
  }
  begins_call false room = record {
    fine = ((λ e. refl), (λ e. tt), tt);
    alone = tt;
    says = begins_one b;
    mine = λ i ls later.
        let begun_there : Goes s.layout u (begins_at s.layout u o) (own u ls) = subst (λ (z : Thread). Goes s.layout u z.stage (own u ls)) (put-same s.threads u (record (s.threads u) { stage = begins_at s.layout u o })) later in
        subst (λ g. Goes s.layout u g (own u (line_of i (Begin u b) ∷ ls))) (sym idle) (subst (Lives u) (sym (own-mine u i (Begin u b) ls refl refl)) (first_acts s.layout u o (own u ls) begun_there));
    others = λ t apart. ap (λ (z : Thread). z.stage) (put-other s.threads u (record (s.threads u) { stage = begins_at s.layout u o }) t (λ is. apart (sym is)));
  }

-- no call's access is a lock with a time limit that came
pub timed_is : (l : Layout') (o : Op) (op : Operation) → IsFor l o op → op ≢ Operation.TimedLock
timed_is l o op is = grind (arith)

pub timely : (old new : Object) (t : ℕ) (op : Operation) (x : Option Reply) → op ≢ Operation.TimedLock → Tells t old op x new → x ≢ Some ETIMEDOUT
timely old new t op x other tells = grind (arith)

-- a call makes its access
accesses_add : (s : State) (u : ℕ) (o : Op) (k : Queue) (a : Access) (ps : List Act) (g : Led) → ((fs : List Fact) → Doing u (begun_of s.layout o) ps fs → Goes s.layout u (s.threads u).stage fs) → Follows s.layout u o ps g → EndsOrGoes g.stage g.returned
    → Adds s u (went s u (s.threads u).held (mutex_of s.layout o) k a g)
accesses_add s u o k a ps g does follows ends_so = record {
  fine = access_fine u (mutex_of s.layout o) g.operation g.point (slept_in k (falls_asleep s u a)) (woken s u a) (moved s u a) g.returned;
  alone = no_kill_alone _ (access_no_kill u (mutex_of s.layout o) g.operation g.point (slept_in k (falls_asleep s u a)) (woken s u a) (moved s u a) g.returned);
  says = says_of u (mutex_of s.layout o) g.operation g.point g.returned;
  mine = λ i ls later. does (own u (map (line_of i) (facts_at u (mutex_of s.layout o) g.operation g.point g.returned) ++ ls))
      (access s.layout u i o ps g ls follows ends_so (subst (λ (z : Thread). Goes s.layout u z.stage (own u ls)) (put-same s.threads u _) later));
  others = λ t apart. ap (λ (z : Thread). z.stage) (put-other s.threads u _ t (λ same. apart (sym same)));
}

goes : (s : State) (u : ℕ) → Kept s → 1 ≤ u → u ≤ s.layout.threads → (o : Op) (p : Whole) → (s.threads u).stage ≡ Calling o p
    → Adds s u (went s u (s.threads u).held (mutex_of s.layout o) (Mutex (mutex_of s.layout o)) (whole_access p) (led o p (whole_led p (answer_of s u (whole_access p)))))
goes s u inv pos known o p is =
    let g : CallStep s u o p = accesses.goes s u o p inv pos known is in
    let fits = accesses.fits_in s u o p inv pos known is in
    let valid = met_no_move s.layout u (whole_access p) g.no_move ∙ g.valid in
    accesses_add s u o (Mutex (mutex_of s.layout o)) (whole_access p) (acts_by o (decided_at p.phase)) (led o p (whole_led p (answer_of s u (whole_access p))))
    (λ fs later. subst (λ (z : Stage). Goes s.layout u z fs) (sym is) later)
    (subst (λ (a : Answer). Follows s.layout u o (acts_by o (decided_at p.phase)) (led o p (whole_led p a))) (sym (answer-is s u (whole_access p) valid)) (call_follows s.layout u o p (onto s u p) fits.1 g.moves.joins (timely _ _ u p.operation (onto s u p).point (timed_is s.layout o p.operation fits.1) g.tells)))
    (call_ends o p (whole_led p (answer_of s u (whole_access p))))

goes_at : (s : State) (u : ℕ) → Kept s → 1 ≤ u → u ≤ s.layout.threads → (c : CondCall) (p : CondWhole) → (s.threads u).stage ≡ AtCondition c p
    → Adds s u (went s u (s.threads u).held (mutex_of s.layout (OnCondition c)) (Condition (condition_of c)) (cond_access p) (led_at c p (cond_led p (answer_of s u (cond_access p)))))
goes_at s u inv pos known c p is =
    let fits = fits_at s u c p inv pos known is in
    accesses_add s u (OnCondition c) (Condition (condition_of c)) (cond_access p) (acts_in c p.phase) (led_at c p (cond_led p (answer_of s u (cond_access p))))
    (λ fs later. subst (λ (z : Stage). Goes s.layout u z fs) (sym is) later)
    (subst (λ (a : Answer). Follows s.layout u (OnCondition c) (acts_in c p.phase) (led_at c p (cond_led p a))) (sym (answer-is s u (cond_access p) (cond_stepping s u c p inv pos known is).valid))
    (cond_follows s.layout u (s.threads u).held c p _ _ _ fits.stands))
    (cond_ends c p (cond_led p (answer_of s u (cond_access p))))

-- a thread dies
dies_so : (s : State) (u : ℕ) → is_alive (s.threads u).stage ≡ true → Adds s u (killed s u)
dies_so s u alive = record {
  fine = ((λ e. refl), (λ e. tt), tt);
  alone = tt;
  says = dies;
  mine = λ i ls later.
      let mourns : AfterKill u (own u ls) = subst (λ (z : Thread). Goes s.layout u z.stage (own u ls)) (put-same s.threads u _) later in
      subst (Goes s.layout u (s.threads u).stage) (sym (own-mine u i (Kill u) ls refl refl)) (cut (s.threads u).stage alive (own u ls) mourns);
  others = λ t apart. ap (λ (z : Thread). z.stage) (put-other s.threads u _ t (λ same. apart (sym same)));
}
  where
    cut : (g : Stage) → is_alive g ≡ true → (fs : List Fact) → AfterKill u fs → Goes s.layout u g (Kill u ∷ fs)
    cut Idle e fs mourns = dies_on u fs mourns
    cut (Calling o p) e fs mourns = cut_on u (begun_of s.layout o) (acts_by o (decided_at p.phase)) fs (acts_begin o (decided_at p.phase)) mourns
    cut (AtCondition c p) e fs mourns = cut_on u (begun_of s.layout (OnCondition c)) (acts_in c p.phase) fs (acts_in_begin c p.phase) mourns
    cut (Dying w) e fs mourns = absurd cc
    cut Reaped e fs mourns = absurd cc

-- a sleeper leaves its queue
leaves_so : (s : State) (u : ℕ) → Adds s u (departed s u)
leaves_so s u = record { fine = ((λ e. refl), (λ e. tt), tt); alone = tt; says = nothing_new; mine = λ i ls later. later; others = λ t apart. refl }

-- its time limit comes: a point, of an operation of its own
expires_so : (s : State) (u m : ℕ) (p : Whole) → (s.threads u).stage ≡ Calling (OnMutex (Call.TimedLock m)) p → decided_at p.phase ≡ None → Adds s u (lapsed s u (s.threads u).held (OnMutex (Call.TimedLock m)) p)
expires_so s u m p is none = record {
  fine = ((λ e. refl), (λ e. absurd cc), ((λ e. refl), (λ e. tt), tt));
  alone = (refl, (refl, tt));
  says = decided m Operation.TimedLock ETIMEDOUT;
  mine = λ i ls later.
      let now : Goes s.layout u (Calling (OnMutex (Call.TimedLock m)) (timed_out p)) (own u ls) = subst (λ (z : Thread). Goes s.layout u z.stage (own u ls)) (put-same s.threads u _) later in
      subst (λ (g : Stage). Goes s.layout u g (own u (line_of i (point_by u m Operation.TimedLock ETIMEDOUT) ∷ ls))) (sym is)
      (subst (λ (d : Option Reply). Doing u (begun_of s.layout (OnMutex (Call.TimedLock m))) (acts_by (OnMutex (Call.TimedLock m)) d) (own u (line_of i (point_by u m Operation.TimedLock ETIMEDOUT) ∷ ls))) (sym none)
      (subst (λ (fs : List Fact). Doing u (begun_of s.layout (OnMutex (Call.TimedLock m))) [] fs) (sym (own-mine u i (point_by u m Operation.TimedLock ETIMEDOUT) ls refl refl)) now));
  others = λ t apart. ap (λ (z : Thread). z.stage) (put-other s.threads u _ t (λ same. apart (sym same)));
}

-- so does that of a wait: it is recorded of no call
oversleeps_so : (s : State) (u k : ℕ) (x : Limit) (p : Whole) → (s.threads u).stage ≡ Calling (OnCondition (CondCall.TimedWait k x)) p → Adds s u (overslept s u (s.threads u).held k p)
oversleeps_so s u k x p is = record {
  fine = ((λ e. refl), (λ e. tt), tt);
  alone = tt;
  says = nothing_new;
  mine = λ i ls later.
      let now : Goes s.layout u (Calling (OnCondition (CondCall.TimedWait k Past)) p) (own u ls) = subst (λ (z : Thread). Goes s.layout u z.stage (own u ls)) (put-same s.threads u _) later in
      subst (λ (g : Stage). Goes s.layout u g (own u ls)) (sym is) now;
  others = λ t apart. ap (λ (z : Thread). z.stage) (put-other s.threads u _ t (λ same. apart (sym same)));
}

-- a trim is declined: the call has had its point
declines_so : (s : State) (u : ℕ) (o : Op) (p : Whole) (is : (s.threads u).stage ≡ Calling o p) (trims : IsTrimming p) → Adds s u (record { state = declined_state s u o p is trims; note = quiet s u o p is trims })
declines_so s u o p is trims = record {
  fine = tt;
  alone = tt;
  says = nothing_new;
  mine = λ i ls later.
      subst (λ (g : Stage). Goes s.layout u g (own u ls)) (sym is)
      (subst (λ (f : Phase). Goes s.layout u (Calling o (record p { phase = f })) (own u ls)) (sym trims) (subst (λ (z : Thread). Goes s.layout u z.stage (own u ls)) (put-same s.threads u _) later));
  others = λ t apart. ap (λ (z : Thread). z.stage) (put-other s.threads u _ t (λ same. apart (sym same)));
}

-- a wake is spared: the call has had its point
spares_so : (s : State) (u m : ℕ) (g : Led) (sp : Sparing s u m g) → Adds s u (record { state = spared_state s u m g sp.how; note = unwoken u m })
spares_so s u m g sp = record {
  fine = tt;
  alone = tt;
  says = nothing_new;
  mine = λ i ls later. before sp.how ls (subst (λ (z : Thread). Goes s.layout u z.stage (own u ls)) (put-same s.threads u _) later);
  others = λ t apart. ap (λ (z : Thread). z.stage) (put-other s.threads u _ t (λ same. apart (sym same)));
}
  where
    -- a wait that is about to sleep has made the points that it had made before its wake
    waits : (c : CondCall) (p : CondWhole) (x : ℕ) (fs : List Fact) → Goes s.layout u (AtCondition c (record p { phase = CondPhase.AtWords (CondRow.Wait (WaitRow.Sleep x)) })) fs → Goes s.layout u (AtCondition c (record p { phase = CondPhase.AtWords (CondRow.Wait (WaitRow.Wake x)) })) fs
    waits (CondCall.Wait k) p x fs later = later
    waits (CondCall.TimedWait k l) p x fs later = later
    waits (CondCall.Signal k) p x fs later = later
    waits (CondCall.Broadcast k) p x fs later = later

    before : (how : HowSpared s u m g) (ls : List Line) → Goes s.layout u (next_of s u m g how) (own u ls) → Goes s.layout u (s.threads u).stage (own u ls)
    before (Of_unlock o p is mutex at leads) ls later =
        subst (λ (z : Stage). Goes s.layout u z (own u ls)) (sym is) (subst (λ (f : Phase). Goes s.layout u (Calling o (record p { phase = f })) (own u ls)) (sym at) later)
    before (Of_wait c p x is mutex at leads) ls later =
        subst (λ (z : Stage). Goes s.layout u z (own u ls)) (sym is) (subst (λ (f : CondPhase). Goes s.layout u (AtCondition c (record p { phase = f })) (own u ls)) (sym at) (waits c p x (own u ls) later))

-- its death is recorded, and it is reaped
mourned_on : (l : Layout') (u i : ℕ) (w : walks.Standing) (d : Option ℕ) (r : walk_row.Row) (ls : List Line) → Goes l u (stage_walked w r) (own u ls) → AfterKill u (own u (map (line_of i) (death_facts u d ++ reap_facts u (has_ended r)) ++ ls))
mourned_on l u i w d r ls later = go d (has_ended r) (at_end r later)
  where
    at_end : (r : walk_row.Row) → Goes l u (stage_walked w r) (own u ls) → MatchBool (has_ended r) (AfterReaping u (own u ls)) (AfterKill u (own u ls))
    at_end walk.Ended e = e
    at_end r m = m

    go : (d : Option ℕ) (b : Bool) → MatchBool b (AfterReaping u (own u ls)) (AfterKill u (own u ls)) → AfterKill u (own u (map (line_of i) (death_facts u d ++ reap_facts u b) ++ ls))
    go None false m = m
    go None true e = subst (AfterKill u) (sym (own-mine u i (Reap u) ls refl refl)) (reap_on u (own u ls) e)
    go (Some k) false m = subst (AfterKill u) (sym (own-mine u i (Death u k) ls refl refl)) (death_on u k (own u ls) m)
    go (Some k) true e =
        subst (AfterKill u) (sym (own-mine u i (Death u k) (line_of i (Reap u) ∷ ls) refl refl ∙ ap (λ fs. Death u k ∷ fs) (own-mine u i (Reap u) ls refl refl))) (death_on u k (Reap u ∷ own u ls) (reap_on u (own u ls) e))

walks_on : (s : State) (u : ℕ) → Kept s → 1 ≤ u → u ≤ s.layout.threads → (w : walks.Standing) → (s.threads u).stage ≡ Dying w → Adds s u (walked s u (s.threads u).held w)
walks_on s u inv pos known w is = record {
  fine = walked_fine u _ _ _;
  alone = no_kill_alone _ (walked_no_kill u _ _ _);
  says = mourned _ _;
  mine = λ i ls later. subst (λ g. Goes s.layout u g (own u (map (line_of i) (calls_of (walked s u (s.threads u).held w).note) ++ ls))) (sym is)
      (mourned_on s.layout u i w _ _ ls (subst (λ (z : Thread). Goes s.layout u z.stage (own u ls)) (put-same s.threads u _) later));
  others = λ t apart. ap (λ (z : Thread). z.stage) (put-other s.threads u _ t (λ same. apart (sym same)));
}

-- it lives again
renews_so : (s : State) (u : ℕ) → 1 ≤ u → u ≤ s.layout.threads → (s.threads u).stage ≡ Reaped → Adds s u (renewed s u)
renews_so s u pos known gone = record {
  fine = ((λ e. refl), (λ e. tt), tt);
  alone = tt;
  says = anew;
  mine = λ i ls later.
      subst (λ (g : Stage). Goes s.layout u g (own u (line_of i (Renew u) ∷ ls))) (sym gone)
      (subst (AfterReaping u) (sym (own-mine u i (Renew u) ls refl refl)) (Renewed_then (own u ls) (subst (λ (z : Thread). Goes s.layout u z.stage (own u ls)) (renewed_thread s u pos known) later)));
  others = λ t apart. ap (λ (z : Thread). z.stage) (renewed_other s u pos known t (λ same. apart (sym same)));
}

-- it reinitialises a mutex, in a call of this one event
reinits_so : (s : State) (u m w : ℕ) → (s.threads u).stage ≡ Idle → Adds s u (reinited s u m w)
reinits_so s u m w idle = record {
  fine = ((λ e. refl), (λ e. absurd cc), ((λ e. refl), (λ e. (refl, tt)), ((λ e. refl), (λ e. tt), tt)));
  alone = (refl, (refl, (refl, tt)));
  says = at_once (reinit_of m) OK;
  mine = λ i ls later.
      let first = own-mine u i (Begin u (reinit_of m)) (line_of i (point_by u m Operation.Reinit OK) ∷ (line_of i (Return u OK) ∷ ls)) refl refl in
      let second = own-mine u i (point_by u m Operation.Reinit OK) (line_of i (Return u OK) ∷ ls) refl refl in
      let third = own-mine u i (Return u OK) ls refl refl in
      subst (λ g. Goes s.layout u g (own u (line_of i (Begin u (reinit_of m)) ∷ (line_of i (point_by u m Operation.Reinit OK) ∷ (line_of i (Return u OK) ∷ ls))))) (sym idle)
      (subst (Lives u) (sym (first ∙ ap (λ fs. Begin u (reinit_of m) ∷ fs) (second ∙ ap (λ fs. point_by u m Operation.Reinit OK ∷ fs) third)))
      (returns_on u (reinit_of m) ((Operation.Reinit, OK) ∷ []) OK (own u ls) refl (subst (λ g. Goes s.layout u g (own u ls)) idle later)));
  others = λ t apart. refl;
}

-- each event
adds : (s : State) (e : Event) → Kept s → Adds s (caller e) (happens s e)
adds s e inv =
    by_event s (λ (x : Event) (a : After). Adds s (caller x) a)
    (λ x. idles s (caller x))
    (λ u o pos known inside idle full e. begins_call s u o idle full e)
    (λ u pos known. by_stage s u (Adds s u) (λ rests. idles s u) (λ o p is awake. goes s u inv pos known o p is) (λ c p is awake. goes_at s u inv pos known c p is) (λ w is awake. walks_on s u inv pos known w is))
    (λ u pos known alive. dies_so s u alive)
    (λ u pos known asleep. leaves_so s u)
    (λ u m p pos known is asleep may. expires_so s u m p is (expires_at p.phase may).2)
    (λ u k x p pos known is there. oversleeps_so s u k x p is)
    (λ u o p pos known is awake trims. subst (Adds s u) (sym (spared_is s u o p is trims inv pos known)) (declines_so s u o p is trims))
    (λ u pos known gone. renews_so s u pos known gone)
    (λ u m may. reinits_so s u m _ may.resting)
    (λ u m g sp. subst (Adds s u) (sym (spare_is s u m g sp inv)) (spares_so s u m g sp))
    e

-- ---- whole runs

-- one event, and then what may come next
lives_on : (s : State) (e : Event) (i : ℕ) (rest : List Line) → Kept s → (t : ℕ) → Goes s.layout t ((happens s e).state.threads t).stage (own t rest) → Goes s.layout t (s.threads t).stage (own t (map (line_of i) (facts_of (happens s e).note) ++ rest))
lives_on s e i rest inv t later = subst (Goes s.layout t (s.threads t).stage) (sym (own-calls t i (happens s e).note rest))
    (by_same (caller e) t
    (λ is.
    subst (λ (v : ℕ). Goes s.layout v ((happens s e).state.threads v).stage (own v rest) → Goes s.layout v (s.threads v).stage (own v (map (line_of i) (calls_of (happens s e).note) ++ rest))) is ((adds s e inv).mine i rest) later)
    (λ apart.
    subst (Goes s.layout t (s.threads t).stage) (sym (own-apart t (caller e) i (calls_of (happens s e).note) rest (adds s e inv).says apart))
    (subst (λ g. Goes s.layout t g (own t rest)) ((adds s e inv).others t apart) later)))

-- each thread lives rightly, from any state that keeps the invariant
lives : (s : State) (es : List Event) (i : ℕ) → Kept s → (t : ℕ) → Goes s.layout t (s.threads t).stage (own t (lines_from i (notes s es)))
lives s [] i inv t = ends s.layout t (s.threads t).stage
lives s (e ∷ es) i inv t = lives_on s e i (lines_from (i + 1) (notes (happens s e).state es)) inv t (subst (λ (l : Layout'). Goes l t ((happens s e).state.threads t).stage (own t (lines_from (i + 1) (notes (happens s e).state es)))) (sound s e inv).same (lives (happens s e).state es (i + 1) (sound s e inv).kept t))

-- ---- the order of lines

ordered : (s : State) (es : List Event) (i : ℕ) → Kept s → InOrder i es (lines_from i (notes s es))
ordered s [] i inv = (tt, tt)
ordered s (e ∷ es) i inv = placed i e es (facts_of (happens s e).note) (lines_from (i + 1) (notes (happens s e).state es)) (adds s e inv).fine (adds s e inv).alone (ordered (happens s e).state es (i + 1) (sound s e inv).kept)

-- so it is from the start
pub explained_from : (s : State) (events : List Event) → Kept s → ((t : ℕ) → (s.threads t).stage ≡ Idle) → IsExplained events (notes s events)
explained_from s events inv resting =
    let order = ordered s events 1 inv in
    record {
      orderly = order.0;
      within = within 1 (notes s events);
      callers = each (Called 1 events) (λ l. is_passive l.fact ≡ false → thread_of l.fact ≡ caller_of 1 events l.event) (λ l c. c.1) (lines_from 1 (notes s events)) order.1;
      lives = λ t. subst (λ g. Goes s.layout t g (own t (lines_from 1 (notes s events)))) (resting t) (lives s events 1 inv t);
    }

pub explained : TraceIsExplained
explained l counters events is = explained_from (start l counters) events (start_kept l counters is) (λ t. refl)
