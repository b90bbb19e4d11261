-- What is written of a line is read back.
use Rattle.std.proofs.Common.{◌≡◌, ℕ, ◌<◌, ◌≤◌, ◌^◌, ◌==◌, Bool, true, false, not, ◌&&◌, Option, Some, None, Ok, List, [], ◌∷◌, ◌++◌, length, refl, ap, ◌∙◌, arith}
use Rattle.std.specs.Prelude.{decimal, codes, if◌then◌else◌, nat_le, nat_lt}
use Rattle.std.specs.Option.{ok_or}
use Rattle.std.specs.List.{list_all}
use Rattle.std.specs.Char.{is_ascii_digit}
use Rattle.std.specs.Str.Parse.{digits_value}
use Rattle.std.proofs.lemmas.Bool.Decides.{nat_tests}
use Rattle.std.proofs.lemmas.Fmt.{length-decimal-le}
use Rattle.lockword.specs.declared.reply.Reply.{Reply}
use Rattle.lockword.specs.declared.reply.Reply.TheVariants as reply
use Rattle.lockword.specs.Replies.{reply_of, reply_word}
use Rattle.lockword.proofs.Names.{replies_read_back}
use Rattle.posixmutex.specs.declared.point.Operation.{Operation}
use Rattle.posixmutex.specs.declared.point.Operation.TheVariants.{Lock, TryLock, TimedLock, Unlock, Consistent, Wait, TimedWait, Signal, Broadcast, Death, Reinit}
use Rattle.posixmutex.specs.Words.{operation_of, operation_word}
use Rattle.posixmutex.proofs.Words.{operations_read_back}
use Rattle.lines.specs.Numbers.{is_number, within}
use Rattle.lines.specs.Lines.{lines_of, words_of}
use Rattle.lines.specs.Faults.{◌>>=◌ as ◌>>!◌}
use Rattle.lines.proofs.Numerals.{written, read_back}
use Rattle.facts.specs.declared.fact.Queue.{Queue}
use Rattle.facts.specs.declared.fact.Queue.TheVariants.{Mutex, Condition}
use Rattle.facts.specs.declared.fact.Fact.{Fact}
use Rattle.facts.specs.declared.fact.Fact.TheVariants as fact
use Rattle.facts.specs.declared.fact.Line.{Line}
use Rattle.verdict.specs.declared.head.Head.{Head}
use Rattle.verdict.specs.declared.form.Said.{Said}
use Rattle.verdict.specs.declared.form.Said.TheVariants as said
use Rattle.verdict.specs.declared.form.Form.{Form}
use Rattle.verdict.specs.declared.form.Form.TheVariants.{Told, End}
use Rattle.verdict.specs.declared.reading.Read.{Read}
use Rattle.verdict.specs.declared.reading.Read.TheVariants as read
use Rattle.verdict.specs.declared.fault.Fault.TheVariants.{UnknownWord, OutOfRange}
use Rattle.verdict.specs.Limits.{max_events, max_threads, max_mutexes, max_conditions}
use Rattle.verdict.specs.Forms.{◌>>=◌, number_of, thread_word, mutex_word, condition_word, of_mutex, mutex_operation, of_condition, condition_operation, of_call, call_operation, head_form, sleeps, words_form}
use Rattle.verdict.specs.Reading.{IsHead, below, head_in, thread_in, fact_in, line_in, head_read, line_read}
use Rattle.texts.specs.Text.{head_line, line_text, end_line, fact_text}
use Rattle.runs_judged.specs.Written.{IsThreadOf, IsCallOf, IsCalled, IsQueueOf, IsFactOf, IsLineOf, LinesAreReadBack}
use Rattle.runs_judged.proofs.Spacing.{IsWord, AreWords, digits_word, spaced, ended, spaced_words, first_line, width, ended_length}

-- ---- numbers

pub within-in : (low high n : ℕ) → low ≤ n → n ≤ high → within low high n ≡ Some n
within-in low high n least most =
    let a : nat_le low n ≡ true = grind (arith, nat_tests) in
    let b : nat_le n high ≡ true = grind (arith, nat_tests) in
    λ i. if a i && b i then Some n else None

below-in : (count n : ℕ) → n < count → below count n ≡ Some n
below-in count n lt = let a : nat_lt n count ≡ true = grind (arith, nat_tests) in ap (λ (b : Bool). if b then Some n else None) a

number-word : (n : ℕ) → n ≤ max_events → number_of (decimal n) ≡ Some (Some n)
number-word n most =
    let small : n < 2 ^ 64 = omega arith in
    ap (λ (b : Bool). if b then Some (within 0 max_events (digits_value 10 (decimal n))) else None) (written n small)
    ∙ ap (λ (k : ℕ). Some (within 0 max_events k)) (read_back n small)
    ∙ ap Some (within-in 0 max_events n (omega arith) most)

-- it is a word
number_digits : (w : List ℕ) → is_number w ≡ true → list_all is_ascii_digit w ≡ true
number_digits [] e = absurd cc
number_digits (b ∷ []) e = ap (λ (t : Bool). t && true) e
number_digits (b ∷ c ∷ bs) e = behind (not (b == 48)) (list_all is_ascii_digit (b ∷ c ∷ bs)) e
  where
    behind : (a d : Bool) → (a && d) ≡ true → d ≡ true
    behind true d h = h
    behind false d h = absurd cc

decimal-word : (n : ℕ) → n ≤ max_events → IsWord (decimal n)
decimal-word n most = let small : n < 2 ^ 64 = omega arith in digits_word (decimal n) (number_digits (decimal n) (written n small))

-- at most six digits
decimal-short : (n : ℕ) → n ≤ max_events → length (decimal n) ≤ 6
decimal-short n most = length-decimal-le 6 n (omega arith) (omega arith) (omega arith)

-- ---- operations and replies

-- an operation's word is read as it
operation-read : (op : Operation) → operation_of (operation_word op) ≡ Some op
operation-read = operations_read_back.back

mutex-call : (op : Operation) (h : Head) → IsCallOf h op None → mutex_operation (operation_word op) ≡ Some op
mutex-call op h is = ap (λ o. o >>= of_mutex) (operation-read op) ∙ kept op is
  where
    kept : (op : Operation) → IsCallOf h op None → of_mutex op ≡ Some op
    kept Lock is = refl
    kept TryLock is = refl
    kept TimedLock is = refl
    kept Unlock is = refl
    kept Consistent is = refl
    kept Reinit is = refl
    kept op is = absurd is

condition-call : (op : Operation) (h : Head) (k : ℕ) → IsCallOf h op (Some k) → (condition_operation (operation_word op) ≡ Some op) × (k < h.conditions)
condition-call op h k is = let both = kept op is in (ap (λ o. o >>= of_condition) (operation-read op) ∙ both.0, both.1)
  where
    kept : (op : Operation) → IsCallOf h op (Some k) → (of_condition op ≡ Some op) × (k < h.conditions)
    kept Wait is = (refl, is)
    kept TimedWait is = (refl, is)
    kept Signal is = (refl, is)
    kept Broadcast is = (refl, is)
    kept op is = absurd is

call-word : (op : Operation) → IsCalled op → (call_operation (operation_word op) ≡ Some op) × IsWord (operation_word op)
call-word op is = let both = kept op is in (ap (λ o. o >>= of_call) (operation-read op) ∙ both.0, both.1)
  where
    kept : (op : Operation) → IsCalled op → (of_call op ≡ Some op) × IsWord (operation_word op)
    kept Lock is = (refl, refl)
    kept TryLock is = (refl, refl)
    kept TimedLock is = (refl, refl)
    kept Unlock is = (refl, refl)
    kept Consistent is = (refl, refl)
    kept Wait is = (refl, refl)
    kept TimedWait is = (refl, refl)
    kept Signal is = (refl, refl)
    kept Broadcast is = (refl, refl)
    kept Reinit is = (refl, refl)
    kept Death is = absurd is

reply-is-word : (x : Reply) → IsWord (reply_word x)
reply-is-word reply.OK = refl
reply-is-word reply.EPERM = refl
reply-is-word reply.ESRCH = refl
reply-is-word reply.EAGAIN = refl
reply-is-word reply.EFAULT = refl
reply-is-word reply.EBUSY = refl
reply-is-word reply.EINVAL = refl
reply-is-word reply.EDEADLK = refl
reply-is-word reply.ETIMEDOUT = refl
reply-is-word reply.EOWNERDEAD = refl
reply-is-word reply.ENOTRECOVERABLE = refl
reply-is-word reply.XNOMEM = refl
reply-is-word reply.XRACED = refl
reply-is-word reply.XHELD = refl
reply-is-word reply.XFULL = refl
reply-is-word reply.XSTATE = refl

-- a reply's name is read as it
reply-word : (x : Reply) → (reply_of (reply_word x) ≡ Some x) × IsWord (reply_word x)
reply-word x = (replies_read_back.back x, reply-is-word x)

mutex-word : (op : Operation) (h : Head) → IsCallOf h op None → IsWord (operation_word op)
mutex-word Lock h is = refl
mutex-word TryLock h is = refl
mutex-word TimedLock h is = refl
mutex-word Unlock h is = refl
mutex-word Consistent h is = refl
mutex-word Reinit h is = refl
mutex-word op h is = absurd is

condition-word : (op : Operation) (h : Head) (k : ℕ) → IsCallOf h op (Some k) → IsWord (operation_word op)
condition-word Wait h k is = refl
condition-word TimedWait h k is = refl
condition-word Signal h k is = refl
condition-word Broadcast h k is = refl
condition-word op h k is = absurd is

operation-short : (op : Operation) → length (operation_word op) ≤ 10
operation-short Lock = omega arith
operation-short TryLock = omega arith
operation-short TimedLock = omega arith
operation-short Unlock = omega arith
operation-short Consistent = omega arith
operation-short Wait = omega arith
operation-short TimedWait = omega arith
operation-short Signal = omega arith
operation-short Broadcast = omega arith
operation-short Death = omega arith
operation-short Reinit = omega arith

reply-short : (x : Reply) → length (reply_word x) ≤ 15
reply-short reply.OK = omega arith
reply-short reply.EPERM = omega arith
reply-short reply.ESRCH = omega arith
reply-short reply.EAGAIN = omega arith
reply-short reply.EFAULT = omega arith
reply-short reply.EBUSY = omega arith
reply-short reply.EINVAL = omega arith
reply-short reply.EDEADLK = omega arith
reply-short reply.ETIMEDOUT = omega arith
reply-short reply.EOWNERDEAD = omega arith
reply-short reply.ENOTRECOVERABLE = omega arith
reply-short reply.XNOMEM = omega arith
reply-short reply.XRACED = omega arith
reply-short reply.XHELD = omega arith
reply-short reply.XFULL = omega arith
reply-short reply.XSTATE = omega arith

-- ---- one line

-- the bytes of the longest lines are fewer
abbrev pub most_bytes : ℕ
most_bytes = 60

-- so event i's line tells the fact: these are the words after its number, this they say, and that is the fact
record Says (h : Head) (i : ℕ) (f : Fact) : Type 0 where
  rest : List (List ℕ)
  said : Said
  text : fact_text i f ≡ ended (decimal i ∷ rest)
  words : AreWords rest
  short : width (decimal i ∷ rest) ≤ most_bytes
  forms : words_form (decimal i ∷ rest) ≡ Some (Told (Some i) said)
  fact : fact_in h said ≡ Some f

-- a head whose numbers are in their ranges, that of its condition variables too
module _ (h : Head) (is : IsHead h) (few : h.conditions ≤ max_conditions) (i : ℕ) (most : i ≤ max_events) where
  event_is : number_of (decimal i) ≡ Some (Some i)
  event_is = number-word i most

  event_short : length (decimal i) ≤ 6
  event_short = decimal-short i most

  thread_small : (t : ℕ) → IsThreadOf h t → t ≤ max_events
  thread_small t range = let a = is.few_threads in let b : t ≤ h.threads = range.1 in omega arith

  thread_is : (t : ℕ) → IsThreadOf h t → thread_word (116 ∷ decimal t) ≡ Some (Some t)
  thread_is t range = number-word t (thread_small t range)

  thread_plain : (t : ℕ) → IsThreadOf h t → IsWord (116 ∷ decimal t)
  thread_plain t range = decimal-word t (thread_small t range)

  thread_read : (t : ℕ) → IsThreadOf h t → thread_in h (Some t) ≡ Some t
  thread_read t range = within-in 1 h.threads t range.0 range.1

  thread_short : (t : ℕ) → IsThreadOf h t → length (decimal t) ≤ 6
  thread_short t range = decimal-short t (thread_small t range)

  mutex_small : (m : ℕ) → m < h.mutexes → m ≤ max_events
  mutex_small m lt = let a = is.few_mutexes in omega arith

  mutex_is : (m : ℕ) → m < h.mutexes → mutex_word (109 ∷ decimal m) ≡ Some (Some m)
  mutex_is m lt = number-word m (mutex_small m lt)

  mutex_plain : (m : ℕ) → m < h.mutexes → IsWord (109 ∷ decimal m)
  mutex_plain m lt = decimal-word m (mutex_small m lt)

  mutex_short : (m : ℕ) → m < h.mutexes → length (decimal m) ≤ 6
  mutex_short m lt = decimal-short m (mutex_small m lt)

  condition_small : (k : ℕ) → k < h.conditions → k ≤ max_events
  condition_small k lt = omega arith

  condition_is : (k : ℕ) → k < h.conditions → condition_word (99 ∷ decimal k) ≡ Some (Some k)
  condition_is k lt = number-word k (condition_small k lt)

  condition_plain : (k : ℕ) → k < h.conditions → IsWord (99 ∷ decimal k)
  condition_plain k lt = decimal-word k (condition_small k lt)

  condition_short : (k : ℕ) → k < h.conditions → length (decimal k) ≤ 6
  condition_short k lt = decimal-short k (condition_small k lt)

  says_begin : (t m : ℕ) (op : Operation) (k : Option ℕ) → IsThreadOf h t → m < h.mutexes → IsCallOf h op k → Says h i (fact.Begin t (record { operation = op; mutex = m; condition = k }))
  says_begin t m op None range lt calls = record {
    rest = codes "begin" ∷ (116 ∷ decimal t) ∷ operation_word op ∷ (109 ∷ decimal m) ∷ [];
    said = said.Begin (Some t) op (Some m);
    text = refl;
    words = (refl, (thread_plain t range, (mutex-word op h calls, (mutex_plain m lt, tt))));
    short = omega (arith, event_short, thread_short t range, mutex_short m lt, operation-short op);
    forms = λ j. event_is j >>= λ e. thread_is t range j >>= λ u. mutex-call op h calls j >>= λ a. mutex_is m lt j >>= λ n. Some (Told e (said.Begin u a n));
    fact = λ j. thread_read t range j >>= λ u. below-in h.mutexes m lt j >>= λ n. Some (fact.Begin u (record { operation = op; mutex = n; condition = None }));
  }
  says_begin t m op (Some k) range lt calls =
      let call = condition-call op h k calls in
      record {
        rest = codes "begin" ∷ (116 ∷ decimal t) ∷ operation_word op ∷ (99 ∷ decimal k) ∷ (109 ∷ decimal m) ∷ [];
        said = said.BeginOn (Some t) op (Some k) (Some m);
        text = refl;
        words = (refl, (thread_plain t range, (condition-word op h k calls, (condition_plain k call.1, (mutex_plain m lt, tt)))));
        short = omega (arith, event_short, thread_short t range, mutex_short m lt, condition_short k call.1, operation-short op);
        forms = λ j. event_is j >>= λ e. thread_is t range j >>= λ u. (call.0 j >>= λ a. condition_is k call.1 j >>= λ c. mutex_is m lt j >>= λ n. Some (said.BeginOn u a c n)) >>= λ s. Some (Told e s);
        fact = λ j. thread_read t range j >>= λ u. below-in h.conditions k call.1 j >>= λ c. below-in h.mutexes m lt j >>= λ n. Some (fact.Begin u (record { operation = op; mutex = n; condition = Some c }));
      }

  says_point : (t m : ℕ) (op : Operation) (x : Reply) → IsThreadOf h t → m < h.mutexes → IsCalled op → Says h i (fact.Point (record { thread = t; mutex = m; operation = op; reply = x }))
  says_point t m op x range lt calls =
      let call = call-word op calls in
      let reply = reply-word x in
      record {
        rest = codes "point" ∷ (116 ∷ decimal t) ∷ (109 ∷ decimal m) ∷ operation_word op ∷ reply_word x ∷ [];
        said = said.Point (Some t) (Some m) op x;
        text = refl;
        words = (refl, (thread_plain t range, (mutex_plain m lt, (call.1, (reply.1, tt)))));
        short = omega (arith, event_short, thread_short t range, mutex_short m lt, operation-short op, reply-short x);
        forms = λ j. event_is j >>= λ e. thread_is t range j >>= λ u. (mutex_is m lt j >>= λ n. call.0 j >>= λ a. reply.0 j >>= λ y. Some (said.Point u n a y)) >>= λ s. Some (Told e s);
        fact = λ j. thread_read t range j >>= λ u. below-in h.mutexes m lt j >>= λ n. Some (fact.Point (record { thread = u; mutex = n; operation = op; reply = x }));
      }

  says_sleep : (t : ℕ) (q : Queue) → IsThreadOf h t → IsQueueOf h q → Says h i (fact.Sleep t q)
  says_sleep t (Mutex m) range lt = record {
    rest = codes "sleep" ∷ (116 ∷ decimal t) ∷ (109 ∷ decimal m) ∷ [];
    said = said.Sleep (Some t) (Some m);
    text = refl;
    words = (refl, (thread_plain t range, (mutex_plain m lt, tt)));
    short = omega (arith, event_short, thread_short t range, mutex_short m lt);
    forms = λ j. event_is j >>= λ e. thread_is t range j >>= λ u. sleeps u (mutex_is m lt j) None >>= λ s. Some (Told e s);
    fact = λ j. thread_read t range j >>= λ u. below-in h.mutexes m lt j >>= λ n. Some (fact.Sleep u (Mutex n));
  }
  says_sleep t (Condition k) range lt = record {
    rest = codes "sleep" ∷ (116 ∷ decimal t) ∷ (99 ∷ decimal k) ∷ [];
    said = said.SleepOn (Some t) (Some k);
    text = refl;
    words = (refl, (thread_plain t range, (condition_plain k lt, tt)));
    short = omega (arith, event_short, thread_short t range, condition_short k lt);
    forms = λ j. event_is j >>= λ e. thread_is t range j >>= λ u. sleeps u None (condition_is k lt j) >>= λ s. Some (Told e s);
    fact = λ j. thread_read t range j >>= λ u. below-in h.conditions k lt j >>= λ c. Some (fact.Sleep u (Condition c));
  }

  says_fact : (f : Fact) → IsFactOf h f → Says h i f
  says_fact (fact.Begin t c) of = says_begin t c.mutex c.operation c.condition of.0 of.1 of.2
  says_fact (fact.Point d) of = says_point d.thread d.mutex d.operation d.reply of.0 of.1 of.2
  says_fact (fact.Sleep t q) of = says_sleep t q of.0 of.1
  says_fact (fact.Wake t) of = record {
    rest = codes "wake" ∷ (116 ∷ decimal t) ∷ [];
    said = said.Wake (Some t);
    text = refl;
    words = (refl, (thread_plain t of, tt));
    short = omega (arith, event_short, thread_short t of);
    forms = λ j. event_is j >>= λ e. thread_is t of j >>= λ u. Some (Told e (said.Wake u));
    fact = λ j. thread_read t of j >>= λ u. Some (fact.Wake u);
  }
  says_fact (fact.Kill t) of = record {
    rest = codes "kill" ∷ (116 ∷ decimal t) ∷ [];
    said = said.Kill (Some t);
    text = refl;
    words = (refl, (thread_plain t of, tt));
    short = omega (arith, event_short, thread_short t of);
    forms = λ j. event_is j >>= λ e. thread_is t of j >>= λ u. Some (Told e (said.Kill u));
    fact = λ j. thread_read t of j >>= λ u. Some (fact.Kill u);
  }
  says_fact (fact.Reap t) of = record {
    rest = codes "reaped" ∷ (116 ∷ decimal t) ∷ [];
    said = said.Reap (Some t);
    text = refl;
    words = (refl, (thread_plain t of, tt));
    short = omega (arith, event_short, thread_short t of);
    forms = λ j. event_is j >>= λ e. thread_is t of j >>= λ u. Some (Told e (said.Reap u));
    fact = λ j. thread_read t of j >>= λ u. Some (fact.Reap u);
  }
  says_fact (fact.Renew t) of = record {
    rest = codes "renew" ∷ (116 ∷ decimal t) ∷ [];
    said = said.Renew (Some t);
    text = refl;
    words = (refl, (thread_plain t of, tt));
    short = omega (arith, event_short, thread_short t of);
    forms = λ j. event_is j >>= λ e. thread_is t of j >>= λ u. Some (Told e (said.Renew u));
    fact = λ j. thread_read t of j >>= λ u. Some (fact.Renew u);
  }
  says_fact (fact.Move t m) of = record {
    rest = codes "move" ∷ (116 ∷ decimal t) ∷ (109 ∷ decimal m) ∷ [];
    said = said.Move (Some t) (Some m);
    text = refl;
    words = (refl, (thread_plain t of.0, (mutex_plain m of.1, tt)));
    short = omega (arith, event_short, thread_short t of.0, mutex_short m of.1);
    forms = λ j. event_is j >>= λ e. thread_is t of.0 j >>= λ u. (mutex_is m of.1 j >>= λ n. Some (said.Move u n)) >>= λ s. Some (Told e s);
    fact = λ j. thread_read t of.0 j >>= λ u. below-in h.mutexes m of.1 j >>= λ n. Some (fact.Move u n);
  }
  says_fact (fact.Death t m) of = record {
    rest = codes "death" ∷ (116 ∷ decimal t) ∷ (109 ∷ decimal m) ∷ [];
    said = said.Death (Some t) (Some m);
    text = refl;
    words = (refl, (thread_plain t of.0, (mutex_plain m of.1, tt)));
    short = omega (arith, event_short, thread_short t of.0, mutex_short m of.1);
    forms = λ j. event_is j >>= λ e. thread_is t of.0 j >>= λ u. (mutex_is m of.1 j >>= λ n. Some (said.Death u n)) >>= λ s. Some (Told e s);
    fact = λ j. thread_read t of.0 j >>= λ u. below-in h.mutexes m of.1 j >>= λ n. Some (fact.Death u n);
  }
  says_fact (fact.Return t x) of =
      let reply = reply-word x in
      record {
        rest = codes "return" ∷ (116 ∷ decimal t) ∷ reply_word x ∷ [];
        said = said.Return (Some t) x;
        text = refl;
        words = (refl, (thread_plain t of, (reply.1, tt)));
        short = omega (arith, event_short, thread_short t of, reply-short x);
        forms = λ j. event_is j >>= λ e. thread_is t of j >>= λ u. (reply.0 j >>= λ y. Some (said.Return u y)) >>= λ s. Some (Told e s);
        fact = λ j. thread_read t of j >>= λ u. Some (fact.Return u x);
      }

-- ---- reading lines

-- words that are read as this are a line that is
reads_as : (h : Head) (w : List ℕ) (ws : List (List ℕ)) (f : Form) (r : Read) → AreWords (w ∷ ws) → words_form (w ∷ ws) ≡ Some f → line_in h f ≡ Some r → line_read h (spaced (w ∷ ws)) ≡ Ok r
reads_as h w ws f r are forms reads =
    (λ j. ok_or ((ap words_form (spaced_words w ws are) ∙ forms) j) UnknownWord >>! λ g. ok_or (line_in h g) OutOfRange)
    ∙ ap (λ (o : Option Read). ok_or o OutOfRange) reads

told_in : (h : Head) (i : ℕ) (s : Said) (f : Fact) → 1 ≤ i → i ≤ max_events → fact_in h s ≡ Some f → line_in h (Told (Some i) s) ≡ Some (read.Told (record { event = i; fact = f }))
told_in h i s f first most is = λ j. within-in 1 max_events i first most j >>= λ e. is j >>= λ g. Some (read.Told (record { event = e; fact = g }))

-- a line of this head is read back, whatever stands after it
pub record ReadsBack (h : Head) (l : Line) : Type 0 where
  pub words : List (List ℕ)
  pub are : AreWords words
  pub text : line_text l ≡ ended words
  pub short : length (line_text l) ≤ most_bytes
  pub read : line_read h (spaced words) ≡ Ok (read.Told l)

pub reads_back : (h : Head) (l : Line) → IsHead h → h.conditions ≤ max_conditions → IsLineOf h l → ReadsBack h l
reads_back h l is few of =
    let s = says_fact h is few l.event of.most l.fact of.fact in
    record {
      words = decimal l.event ∷ s.rest;
      are = (decimal-word l.event of.most, s.words);
      text = s.text;
      short = omega (arith, s.short, ap length s.text, ended_length (decimal l.event) s.rest);
      read = reads_as h (decimal l.event) s.rest (Told (Some l.event) s.said) (read.Told l) (decimal-word l.event of.most, s.words) s.forms (told_in h l.event s.said l.fact of.first of.most s.fact);
    }

-- the first line and the last

abbrev pub head_words : Head → List (List ℕ)
head_words h = codes "trace" ∷ decimal h.threads ∷ decimal h.mutexes ∷ decimal h.conditions ∷ []

pub head_text : (h : Head) → head_line h.threads h.mutexes h.conditions ≡ ended (head_words h)
head_text h = refl

pub head_are : (h : Head) → IsHead h → h.conditions ≤ max_conditions → AreWords (head_words h)
head_are h is few =
    let a = is.few_threads in
    let b = is.few_mutexes in
    (refl, (decimal-word h.threads (omega arith), (decimal-word h.mutexes (omega arith), (decimal-word h.conditions (omega arith), tt))))

pub head_back : (h : Head) → IsHead h → h.conditions ≤ max_conditions → head_read (spaced (head_words h)) ≡ Ok h
head_back h is few =
    let a = is.few_threads in
    let b = is.few_mutexes in
    let forms : head_form (words_of (spaced (head_words h))) ≡ Some (record { threads = Some h.threads; mutexes = Some h.mutexes; conditions = Some h.conditions }) =
    ap head_form (spaced_words (codes "trace") (decimal h.threads ∷ decimal h.mutexes ∷ decimal h.conditions ∷ []) (head_are h is few))
    ∙ (λ j. number-word h.threads (omega arith) j >>= λ t. number-word h.mutexes (omega arith) j >>= λ m. number-word h.conditions (omega arith) j >>= λ c. Some (record { threads = t; mutexes = m; conditions = c })) in
    (λ j. ok_or (forms j) UnknownWord >>! λ f. ok_or (head_in f) OutOfRange)
    ∙ (λ j. ok_or (within-in 1 max_threads h.threads is.some_thread is.few_threads j >>= λ t. within-in 1 max_mutexes h.mutexes is.some_mutex is.few_mutexes j >>= λ m. within-in 0 max_conditions h.conditions (omega arith) few j >>= λ c. Some (record { threads = t; mutexes = m; conditions = c })) OutOfRange)

abbrev pub end_words : ℕ → List (List ℕ)
end_words n = codes "end" ∷ decimal n ∷ []

pub end_text : (n : ℕ) → end_line n ≡ ended (end_words n)
end_text n = refl

pub end_are : (n : ℕ) → n ≤ max_events → AreWords (end_words n)
end_are n most = (refl, (decimal-word n most, tt))

pub end_back : (h : Head) (n : ℕ) → n ≤ max_events → line_read h (spaced (end_words n)) ≡ Ok (read.End n)
end_back h n most =
    reads_as h (codes "end") (decimal n ∷ []) (End (Some n)) (read.End n) (end_are n most) (λ j. number-word n most j >>= λ k. Some (End k)) refl

-- their lengths
pub head_short : (h : Head) → IsHead h → h.conditions ≤ max_conditions → length (head_line h.threads h.mutexes h.conditions) ≤ most_bytes
head_short h is few =
    let a = is.few_threads in
    let b = is.few_mutexes in
    omega (arith, ap length (head_text h), ended_length (codes "trace") (decimal h.threads ∷ decimal h.mutexes ∷ decimal h.conditions ∷ []), decimal-short h.threads (omega arith), decimal-short h.mutexes (omega arith), decimal-short h.conditions (omega arith))

pub end_short : (n : ℕ) → n ≤ max_events → length (end_line n) ≤ most_bytes
end_short n most = omega (arith, ap length (end_text n), ended_length (codes "end") (decimal n ∷ []), decimal-short n most)

-- ---- so each line is

pub lines_back : LinesAreReadBack
lines_back = record {
  head = λ h is. (spaced (head_words h), (λ behind. ap (λ (bs : List ℕ). lines_of (bs ++ behind)) (head_text h) ∙ first_line (head_words h) behind (head_are h is.0 is.1)), head_back h is.0 is.1);
  line = λ h l is of. let back = reads_back h l is.0 is.1 of in (spaced back.words, (λ behind. ap (λ (bs : List ℕ). lines_of (bs ++ behind)) back.text ∙ first_line back.words behind back.are), back.read);
  end = λ h n most. (spaced (end_words n), (λ behind. ap (λ (bs : List ℕ). lines_of (bs ++ behind)) (end_text n) ∙ first_line (end_words n) behind (end_are n most)), end_back h n most);
}
