-- What is written of a line is read back.
use Rattle.std.proofs.Common.{◌≡◌, ℕ, ◌<◌, ◌≤◌, ◌^◌, ◌==◌, Bool, true, false, not, ◌&&◌, Option, Some, None, Ok, Err, List, [], ◌∷◌, refl, ap, ◌∙◌, arith}
use Rattle.std.specs.Prelude.{decimal, codes, if◌then◌else◌, nat_le, nat_lt}
use Rattle.std.specs.Option.{ok_or}
use Rattle.std.specs.List.{list_all}
use Rattle.std.specs.Char.{is_ascii_digit}
use Rattle.std.specs.Str.Parse.{digits_value}
use Rattle.std.proofs.lemmas.Bool.Decides.{nat_tests}
use Rattle.lockword.specs.declared.reply.Reply.{Reply}
use Rattle.lockword.specs.declared.reply.Reply.TheVariants as reply
use Rattle.lockword.specs.Replies.{reply_word}
use Rattle.lockword.proofs.Names.{replies_read_back}
use Rattle.posixmutex.specs.declared.point.Operation.{Operation}
use Rattle.posixmutex.specs.declared.point.Operation.TheVariants.{Lock, TryLock, TimedLock, Unlock, Consistent, Wait, TimedWait, Signal, Broadcast, Death, Reinit}
use Rattle.posixmutex.specs.Words.{operation_word}
use Rattle.posixmutex.proofs.Words.{operations_read_back}
use Rattle.lines.specs.Numbers.{is_number, within}
use Rattle.lines.specs.Lines.{words_of}
use Rattle.lines.specs.Faults.{◌>>=◌ as ◌>>!◌}
use Rattle.lines.proofs.Numerals.{written, read_back}
use Rattle.facts.specs.declared.fact.Queue.{Queue}
use Rattle.facts.specs.declared.fact.Queue.TheVariants.{Mutex, Condition}
use Rattle.facts.specs.declared.fact.Fact.{Fact}
use Rattle.facts.specs.declared.fact.Fact.TheVariants as fact
use Rattle.verdict.specs.Forms.{◌>>=◌, of_mutex, mutex_operation, of_condition, condition_operation}
use Rattle.histories.specs.declared.entry.Entry.{Entry}
use Rattle.histories.specs.declared.entry.Entry.TheVariants as entry
use Rattle.histories.specs.declared.head.Head.{Head}
use Rattle.histories.specs.declared.form.Said.{Said}
use Rattle.histories.specs.declared.form.Said.TheVariants as said
use Rattle.histories.specs.declared.form.Form.{Form}
use Rattle.histories.specs.declared.form.Form.TheVariants.{Told, End}
use Rattle.histories.specs.declared.reading.Read.{Read}
use Rattle.histories.specs.declared.reading.Read.TheVariants as read
use Rattle.histories.specs.declared.fault.Fault.TheVariants.{NotUtf8, UnknownWord, OutOfRange, Cut, OutOfMemory}
use Rattle.histories.specs.Limits.{max_events, max_threads, max_mutexes, max_conditions}
use Rattle.histories.specs.Forms.{number_of, thread_word, mutex_word, condition_word, head_form, words_form}
use Rattle.histories.specs.Histories.{is_hidden}
use Rattle.histories.specs.Reading.{IsHead, below, head_in, thread_in, said_in, line_in, head_said, head_read, line_said, line_read}
use Rattle.histories.specs.Written.{IsThreadOf, IsCallOf, IsQueueOf, IsFactOf, IsEntryOf, IsEvent, FaultsAreTheTraces, LinesAreReadBack}
use Rattle.histories.specs.Written.{spaced, fact_words, entry_words, queue_name}
use Rattle.histories.proofs.Spacing.{IsWord, AreWords, digits_word, second_true, spaced_text, spaced_words}

-- ---- numbers

within-in : (low high n : ℕ) → low ≤ n → n ≤ high → within low high n ≡ Some n
within-in low high n least most =
    let a : nat_le low n ≡ true = grind (arith, nat_tests) in
    let b : nat_le n high ≡ true = grind (arith, nat_tests) in
    λ i. if a i && b i then Some n else None

below-in : (count n : ℕ) → n < count → below count n ≡ Some n
below-in count n lt = let a : nat_lt n count ≡ true = grind (arith, nat_tests) in ap (λ (b : Bool). if b then Some n else None) a

number-word : (n : ℕ) → n ≤ max_events → number_of (decimal n) ≡ Some (Some n)
number-word n most =
    let small : n < 2 ^ 64 = omega arith in
    ap (λ (b : Bool). if b then Some (within 0 max_events (digits_value 10 (decimal n))) else None) (written n small)
    ∙ ap (λ (k : ℕ). Some (within 0 max_events k)) (read_back n small)
    ∙ ap Some (within-in 0 max_events n (omega arith) most)

-- it is a word
number_digits : (w : List ℕ) → is_number w ≡ true → list_all is_ascii_digit w ≡ true
number_digits [] e = absurd cc
number_digits (b ∷ []) e = ap (λ (t : Bool). t && true) e
number_digits (b ∷ c ∷ bs) e = second_true (not (b == 48)) (list_all is_ascii_digit (b ∷ c ∷ bs)) e

decimal-word : (n : ℕ) → n ≤ max_events → IsWord (decimal n)
decimal-word n most = let small : n < 2 ^ 64 = omega arith in digits_word (decimal n) (number_digits (decimal n) (written n small))

-- ---- operations and replies

mutex-call : (op : Operation) (h : Head) → IsCallOf h op None → mutex_operation (operation_word op) ≡ Some op
mutex-call op h is = ap (λ o. o >>= of_mutex) (operations_read_back.back op) ∙ kept op is
  where
    kept : (op : Operation) → IsCallOf h op None → of_mutex op ≡ Some op
    kept Lock is = refl
    kept TryLock is = refl
    kept TimedLock is = refl
    kept Unlock is = refl
    kept Consistent is = refl
    kept Reinit is = refl
    kept op is = absurd is

condition-call : (op : Operation) (h : Head) (k : ℕ) → IsCallOf h op (Some k) → (condition_operation (operation_word op) ≡ Some op) × (k < h.conditions)
condition-call op h k is = let both = kept op is in (ap (λ o. o >>= of_condition) (operations_read_back.back op) ∙ both.0, both.1)
  where
    kept : (op : Operation) → IsCallOf h op (Some k) → (of_condition op ≡ Some op) × (k < h.conditions)
    kept Wait is = (refl, is)
    kept TimedWait is = (refl, is)
    kept Signal is = (refl, is)
    kept Broadcast is = (refl, is)
    kept op is = absurd is

operation-plain : (op : Operation) → IsWord (operation_word op)
operation-plain Lock = refl
operation-plain TryLock = refl
operation-plain TimedLock = refl
operation-plain Unlock = refl
operation-plain Consistent = refl
operation-plain Wait = refl
operation-plain TimedWait = refl
operation-plain Signal = refl
operation-plain Broadcast = refl
operation-plain Death = refl
operation-plain Reinit = refl

reply-plain : (x : Reply) → IsWord (reply_word x)
reply-plain reply.OK = refl
reply-plain reply.EPERM = refl
reply-plain reply.ESRCH = refl
reply-plain reply.EAGAIN = refl
reply-plain reply.EFAULT = refl
reply-plain reply.EBUSY = refl
reply-plain reply.EINVAL = refl
reply-plain reply.EDEADLK = refl
reply-plain reply.ETIMEDOUT = refl
reply-plain reply.EOWNERDEAD = refl
reply-plain reply.ENOTRECOVERABLE = refl
reply-plain reply.XNOMEM = refl
reply-plain reply.XRACED = refl
reply-plain reply.XHELD = refl
reply-plain reply.XFULL = refl
reply-plain reply.XSTATE = refl

-- ---- one line

-- so event i's line says it: these are the words after its number, and that is read
record Says (h : Head) (i : ℕ) (rest : List (List ℕ)) (e : Option Entry) : Type 0 where
  said : Said
  words : AreWords rest
  forms : words_form (decimal i ∷ rest) ≡ Some (Told (Some i) said)
  entry : said_in h said ≡ Some e

-- a head whose numbers are in their ranges
module _ (h : Head) (is : IsHead h) (i : ℕ) (most : i ≤ max_events) where
  event_is : number_of (decimal i) ≡ Some (Some i)
  event_is = number-word i most

  thread_small : (t : ℕ) → IsThreadOf h t → t ≤ max_events
  thread_small t range = let a = is.few_threads in let b : t ≤ h.threads = range.1 in omega arith

  thread_is : (t : ℕ) → IsThreadOf h t → thread_word (116 ∷ decimal t) ≡ Some (Some t)
  thread_is t range = number-word t (thread_small t range)

  thread_plain : (t : ℕ) → IsThreadOf h t → IsWord (116 ∷ decimal t)
  thread_plain t range = decimal-word t (thread_small t range)

  thread_read : (t : ℕ) → IsThreadOf h t → thread_in h (Some t) ≡ Some t
  thread_read t range = within-in 1 h.threads t range.0 range.1

  mutex_small : (m : ℕ) → m < h.mutexes → m ≤ max_events
  mutex_small m lt = let a = is.few_mutexes in omega arith

  mutex_is : (m : ℕ) → m < h.mutexes → mutex_word (109 ∷ decimal m) ≡ Some (Some m)
  mutex_is m lt = number-word m (mutex_small m lt)

  mutex_plain : (m : ℕ) → m < h.mutexes → IsWord (109 ∷ decimal m)
  mutex_plain m lt = decimal-word m (mutex_small m lt)

  condition_small : (k : ℕ) → k < h.conditions → k ≤ max_events
  condition_small k lt = let a = is.few_conditions in omega arith

  condition_is : (k : ℕ) → k < h.conditions → condition_word (99 ∷ decimal k) ≡ Some (Some k)
  condition_is k lt = number-word k (condition_small k lt)

  condition_plain : (k : ℕ) → k < h.conditions → IsWord (99 ∷ decimal k)
  condition_plain k lt = decimal-word k (condition_small k lt)

  queue_plain : (q : Queue) → IsQueueOf h q → IsWord (queue_name q)
  queue_plain (Mutex m) lt = mutex_plain m lt
  queue_plain (Condition k) lt = condition_plain k lt

  says_begin : (t m : ℕ) (op : Operation) (k : Option ℕ) → IsThreadOf h t → m < h.mutexes → IsCallOf h op k
      → Says h i (fact_words (fact.Begin t (record { operation = op; mutex = m; condition = k }))) (Some (entry.Told (fact.Begin t (record { operation = op; mutex = m; condition = k }))))
  says_begin t m op None range lt calls = record {
    said = said.Begin (Some t) op (Some m);
    words = (refl, (thread_plain t range, (operation-plain op, (mutex_plain m lt, tt))));
    forms = λ j. event_is j >>= λ e. thread_is t range j >>= λ u. mutex-call op h calls j >>= λ a. mutex_is m lt j >>= λ n. Some (Told e (said.Begin u a n));
    entry = λ j. (thread_read t range j >>= λ u. below-in h.mutexes m lt j >>= λ n. Some (entry.Told (fact.Begin u (record { operation = op; mutex = n; condition = None })))) >>= λ e. Some (Some e);
  }
  says_begin t m op (Some k) range lt calls =
      let call = condition-call op h k calls in
      record {
        said = said.BeginOn (Some t) op (Some k) (Some m);
        words = (refl, (thread_plain t range, (operation-plain op, (condition_plain k call.1, (mutex_plain m lt, tt)))));
        forms = λ j. event_is j >>= λ e. thread_is t range j >>= λ u. call.0 j >>= λ a. condition_is k call.1 j >>= λ c. mutex_is m lt j >>= λ n. Some (Told e (said.BeginOn u a c n));
        entry = λ j. (thread_read t range j >>= λ u. below-in h.conditions k call.1 j >>= λ c. below-in h.mutexes m lt j >>= λ n. Some (entry.Told (fact.Begin u (record { operation = op; mutex = n; condition = Some c })))) >>= λ e. Some (Some e);
      }

  says_entry : (e : Entry) → IsEntryOf h e → Says h i (entry_words e) (Some e)
  says_entry (entry.Told (fact.Begin t c)) of = says_begin t c.mutex c.operation c.condition of.1.0 of.1.1 of.1.2
  says_entry (entry.Told (fact.Return t x)) of = record {
    said = said.Return (Some t) x;
    words = (refl, (thread_plain t of.1, (reply-plain x, tt)));
    forms = λ j. event_is j >>= λ e. thread_is t of.1 j >>= λ u. replies_read_back.back x j >>= λ y. Some (Told e (said.Return u y));
    entry = λ j. thread_read t of.1 j >>= λ u. Some (Some (entry.Told (fact.Return u x)));
  }
  says_entry (entry.Told (fact.Kill t)) of = record {
    said = said.Kill (Some t);
    words = (refl, (thread_plain t of.1, tt));
    forms = λ j. event_is j >>= λ e. thread_is t of.1 j >>= λ u. Some (Told e (said.Kill u));
    entry = λ j. thread_read t of.1 j >>= λ u. Some (Some (entry.Told (fact.Kill u)));
  }
  says_entry (entry.Told (fact.Reap t)) of = record {
    said = said.Reap (Some t);
    words = (refl, (thread_plain t of.1, tt));
    forms = λ j. event_is j >>= λ e. thread_is t of.1 j >>= λ u. Some (Told e (said.Reap u));
    entry = λ j. thread_read t of.1 j >>= λ u. Some (Some (entry.Told (fact.Reap u)));
  }
  says_entry (entry.Told (fact.Renew t)) of = record {
    said = said.Renew (Some t);
    words = (refl, (thread_plain t of.1, tt));
    forms = λ j. event_is j >>= λ e. thread_is t of.1 j >>= λ u. Some (Told e (said.Renew u));
    entry = λ j. thread_read t of.1 j >>= λ u. Some (Some (entry.Told (fact.Renew u)));
  }
  says_entry (entry.Doom t) of = record {
    said = said.Doom (Some t);
    words = (refl, (thread_plain t of, tt));
    forms = λ j. event_is j >>= λ e. thread_is t of j >>= λ u. Some (Told e (said.Doom u));
    entry = λ j. thread_read t of j >>= λ u. Some (Some (entry.Doom u));
  }
  says_entry (entry.Told (fact.Point d)) of = absurd (let e : true ≡ false = of.0 in cc)
  says_entry (entry.Told (fact.Death t m)) of = absurd (let e : true ≡ false = of.0 in cc)
  says_entry (entry.Told (fact.Sleep t q)) of = absurd (let e : true ≡ false = of.0 in cc)
  says_entry (entry.Told (fact.Wake t)) of = absurd (let e : true ≡ false = of.0 in cc)
  says_entry (entry.Told (fact.Move t m)) of = absurd (let e : true ≡ false = of.0 in cc)

  -- what isn't seen from outside is read by its keyword and its thread
  thread_says : (t : ℕ) → IsThreadOf h t → said_in h (said.Hidden (Some t)) ≡ Some None
  thread_says t of = λ j. thread_read t of j >>= λ u. Some None

  says_hidden : (f : Fact) → is_hidden f ≡ true → IsFactOf h f → Says h i (fact_words f) None
  says_hidden (fact.Point d) hid of = record {
    said = said.Hidden (Some d.thread);
    words = (refl, (thread_plain d.thread of.0, (mutex_plain d.mutex of.1, (operation-plain d.operation, (reply-plain d.reply, tt)))));
    forms = λ j. event_is j >>= λ e. thread_is d.thread of.0 j >>= λ u. Some (Told e (said.Hidden u));
    entry = thread_says d.thread of.0;
  }
  says_hidden (fact.Death t m) hid of = record {
    said = said.Hidden (Some t);
    words = (refl, (thread_plain t of.0, (mutex_plain m of.1, tt)));
    forms = λ j. event_is j >>= λ e. thread_is t of.0 j >>= λ u. Some (Told e (said.Hidden u));
    entry = thread_says t of.0;
  }
  says_hidden (fact.Sleep t q) hid of = record {
    said = said.Hidden (Some t);
    words = (refl, (thread_plain t of.0, (queue_plain q of.1, tt)));
    forms = λ j. event_is j >>= λ e. thread_is t of.0 j >>= λ u. Some (Told e (said.Hidden u));
    entry = thread_says t of.0;
  }
  says_hidden (fact.Wake t) hid of = record {
    said = said.Hidden (Some t);
    words = (refl, (thread_plain t of, tt));
    forms = λ j. event_is j >>= λ e. thread_is t of j >>= λ u. Some (Told e (said.Hidden u));
    entry = thread_says t of;
  }
  says_hidden (fact.Move t m) hid of = record {
    said = said.Hidden (Some t);
    words = (refl, (thread_plain t of.0, (mutex_plain m of.1, tt)));
    forms = λ j. event_is j >>= λ e. thread_is t of.0 j >>= λ u. Some (Told e (said.Hidden u));
    entry = thread_says t of.0;
  }
  says_hidden f hid of = absurd (let e : false ≡ true = hid in cc)

-- ---- reading lines

-- words that are read as this are a line that is
reads_as : (h : Head) (w : List ℕ) (ws : List (List ℕ)) (f : Form) (r : Read) → AreWords (w ∷ ws) → words_form (w ∷ ws) ≡ Some f → line_in h f ≡ Some r → line_read h (spaced (w ∷ ws)) ≡ Ok r
reads_as h w ws f r are forms reads =
    ap (λ (b : Bool). if b then line_said h (spaced (w ∷ ws)) else Err NotUtf8) (spaced_text (w ∷ ws) are)
    ∙ (λ j. ok_or ((ap words_form (spaced_words w ws are) ∙ forms) j) UnknownWord >>! λ g. ok_or (line_in h g) OutOfRange)
    ∙ ap (λ (o : Option Read). ok_or o OutOfRange) reads

told_in : (h : Head) (i : ℕ) (s : Said) (e : Option Entry) → IsEvent i → said_in h s ≡ Some e → line_in h (Told (Some i) s) ≡ Some (read.Told i e)
told_in h i s e of is = λ j. within-in 1 max_events i of.0 of.1 j >>= λ n. is j >>= λ x. Some (read.Told n x)

reads_said : (h : Head) (i : ℕ) (rest : List (List ℕ)) (e : Option Entry) → IsEvent i → Says h i rest e → line_read h (spaced (decimal i ∷ rest)) ≡ Ok (read.Told i e)
reads_said h i rest e of s = reads_as h (decimal i) rest (Told (Some i) s.said) (read.Told i e) (decimal-word i of.1, s.words) s.forms (told_in h i s.said e of s.entry)

end_back : (h : Head) (n : ℕ) → n ≤ max_events → line_read h (spaced (codes "end" ∷ decimal n ∷ [])) ≡ Ok (read.End n)
end_back h n most =
    reads_as h (codes "end") (decimal n ∷ []) (End (Some n)) (read.End n) (refl, (decimal-word n most, tt)) (λ j. number-word n most j >>= λ k. Some (End k)) refl

-- the first line
module _ (h : Head) (is : IsHead h) where
  threads_few : h.threads ≤ max_events
  threads_few = let a = is.few_threads in omega arith

  mutexes_few : h.mutexes ≤ max_events
  mutexes_few = let a = is.few_mutexes in omega arith

  conditions_few : h.conditions ≤ max_events
  conditions_few = let a = is.few_conditions in omega arith

  rest_are : AreWords (decimal h.threads ∷ decimal h.mutexes ∷ decimal h.conditions ∷ [])
  rest_are = (decimal-word h.threads threads_few, (decimal-word h.mutexes mutexes_few, (decimal-word h.conditions conditions_few, tt)))

  heads_in : head_in (record { threads = Some h.threads; mutexes = Some h.mutexes; conditions = Some h.conditions }) ≡ Some h
  heads_in = λ j. within-in 1 max_threads h.threads is.some_thread is.few_threads j >>= λ t. within-in 1 max_mutexes h.mutexes is.some_mutex is.few_mutexes j >>= λ m. within-in 0 max_conditions h.conditions (omega arith) is.few_conditions j >>= λ c. Some (record { threads = t; mutexes = m; conditions = c })

  head_back : (w : List ℕ) → IsWord w
      → ((t m c : List ℕ) → head_form (w ∷ t ∷ m ∷ c ∷ []) ≡ (number_of t >>= λ threads. number_of m >>= λ mutexes. number_of c >>= λ conditions. Some (record { threads = threads; mutexes = mutexes; conditions = conditions })))
      → head_read (spaced (w ∷ decimal h.threads ∷ decimal h.mutexes ∷ decimal h.conditions ∷ [])) ≡ Ok h
  head_back w is_word by =
      let text : List ℕ = spaced (w ∷ decimal h.threads ∷ decimal h.mutexes ∷ decimal h.conditions ∷ []) in
      let forms : head_form (words_of (spaced (w ∷ decimal h.threads ∷ decimal h.mutexes ∷ decimal h.conditions ∷ []))) ≡ Some (record { threads = Some h.threads; mutexes = Some h.mutexes; conditions = Some h.conditions }) =
      ap head_form (spaced_words w (decimal h.threads ∷ decimal h.mutexes ∷ decimal h.conditions ∷ []) (is_word, rest_are))
      ∙ by (decimal h.threads) (decimal h.mutexes) (decimal h.conditions)
      ∙ (λ j. number-word h.threads threads_few j >>= λ t. number-word h.mutexes mutexes_few j >>= λ m. number-word h.conditions conditions_few j >>= λ c. Some (record { threads = t; mutexes = m; conditions = c })) in
      ap (λ (b : Bool). if b then head_said text else Err NotUtf8) (spaced_text (w ∷ decimal h.threads ∷ decimal h.mutexes ∷ decimal h.conditions ∷ []) (is_word, rest_are))
      ∙ (λ j. ok_or (forms j) UnknownWord >>! λ f. ok_or (head_in f) OutOfRange)
      ∙ (λ j. ok_or (heads_in j) OutOfRange)

-- ---- so each line is

pub lines_back : LinesAreReadBack
lines_back = record {
  head = λ h is. head_back h is (codes "history") refl (λ t m c. refl);
  head_of_trace = λ h is. head_back h is (codes "trace") refl (λ t m c. refl);
  entry = λ h i e is at of. reads_said h i (entry_words e) (Some e) at (says_entry h is i at.1 e of);
  hidden = λ h i f is at hid of. reads_said h i (fact_words f) None at (says_hidden h is i at.1 f hid of);
  end = λ h n most. end_back h n most;
}

-- ---- faults

pub faults_same : FaultsAreTheTraces
faults_same NotUtf8 = (refl, refl)
faults_same UnknownWord = (refl, refl)
faults_same OutOfRange = (refl, refl)
faults_same Cut = (refl, refl)
faults_same OutOfMemory = (refl, refl)
