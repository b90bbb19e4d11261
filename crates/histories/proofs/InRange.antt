-- What is read of a line is in its ranges.
use Rattle.std.proofs.Common.{◌≡◌, ℕ, ◌<◌, ◌≤◌, Bool, true, false, ◌&&◌, Option, Some, None, Result, Ok, Err, List, [], ◌∷◌, refl, subst, arith}
use Rattle.std.specs.Prelude.{codes, if◌then◌else◌, nat_le, nat_lt}
use Rattle.std.specs.Option.{ok_or}
use Rattle.std.specs.Str.{bytes_eq, is_utf8}
use Rattle.std.specs.Str.Parse.{digits_value}
use Rattle.std.proofs.lemmas.Bool.Decides.{nat_tests}
use Rattle.lockword.specs.Replies.{reply_of}
use Rattle.posixmutex.specs.declared.point.Operation.{Operation}
use Rattle.posixmutex.specs.declared.point.Operation.TheVariants.{Lock, TryLock, TimedLock, Unlock, Consistent, Wait, TimedWait, Signal, Broadcast, Reinit}
use Rattle.posixmutex.specs.Words.{operation_of}
use Rattle.lines.specs.Numbers.{is_number, within}
use Rattle.lines.specs.Lines.{words_of}
use Rattle.lines.specs.Faults.{◌>>=◌ as ◌>>!◌}
use Rattle.facts.specs.declared.fact.Fact.TheVariants as fact
use Rattle.verdict.specs.Forms.{◌>>=◌, of_mutex, mutex_operation, of_condition, condition_operation}
use Rattle.histories.specs.declared.entry.Entry.{Entry}
use Rattle.histories.specs.declared.entry.Entry.TheVariants as entry
use Rattle.histories.specs.declared.head.Head.{Head}
use Rattle.histories.specs.declared.form.HeadForm.{HeadForm}
use Rattle.histories.specs.declared.form.Said.{Said}
use Rattle.histories.specs.declared.form.Said.TheVariants as said
use Rattle.histories.specs.declared.form.Form.{Form}
use Rattle.histories.specs.declared.form.Form.TheVariants.{Told, End}
use Rattle.histories.specs.declared.reading.Read.{Read}
use Rattle.histories.specs.declared.reading.Read.TheVariants as read
use Rattle.histories.specs.declared.fault.Fault.{Fault}
use Rattle.histories.specs.declared.fault.Fault.TheVariants.{NotUtf8, UnknownWord, OutOfRange}
use Rattle.histories.specs.Limits.{max_events, max_threads, max_mutexes, max_conditions}
use Rattle.histories.specs.Forms.{begin_form, begin_on_form, condition_word, end_form, form_of, head_form, mark_form, mutex_word, number_of, thread_word, word_form, words_form}
use Rattle.histories.specs.Reading.{IsHead, begin_in, begin_on_in, below, below_in, head_in, head_read, head_said, line_in, line_read, line_said, number_in, said_in, thread_in}
use Rattle.histories.specs.Written.{IsThreadOf, IsCallOf, IsEntryOf, IsEvent, LinesAreInRange}

-- ---- one thing and then another

-- what came of both came of the first
pub record Both {A B : Type 0} (o : Option A) (f : A → Option B) (y : B) : Type 0 where
  pub value : A
  pub first : o ≡ Some value
  pub then_is : f value ≡ Some y

pub both : {A B : Type 0} (o : Option A) (f : A → Option B) (y : B) → (o >>= f) ≡ Some y → Both o f y
both (Some x) f y is = record { value = x; first = refl; then_is = is }
both None f y is = let no : None ≡ Some y = is in absurd cc

pub some_of : {A : Type 0} (o : Option A) (e : Fault) (x : A) → ok_or o e ≡ Ok x → o ≡ Some x
some_of (Some y) e x is = let same : ok_or (Some y) e ≡ Ok x = is in cc
some_of None e x is = let no : Err e ≡ Ok x = is in absurd cc

-- ---- numbers

is_within : (low high n k : ℕ) → within low high n ≡ Some k → (low ≤ k) × (k ≤ high)
is_within low high n k is = go (nat_le low n) (nat_le n high) refl refl is
  where
    go : (a b : Bool) → nat_le low n ≡ a → nat_le n high ≡ b → (if a && b then Some n else None) ≡ Some k → (low ≤ k) × (k ≤ high)
    go true true least most is =
        let same : n ≡ k = cc in
        subst (λ (i : ℕ). (low ≤ i) × (i ≤ high)) same (grind (arith, nat_tests), grind (arith, nat_tests))
    go true false least most is = let no : None ≡ Some k = is in absurd cc
    go false b least most is = let no : None ≡ Some k = is in absurd cc

number_range : (low high : ℕ) (o : Option ℕ) (k : ℕ) → number_in low high o ≡ Some k → (low ≤ k) × (k ≤ high)
number_range low high o k is = let b = both o (within low high) k is in is_within low high b.value k b.then_is

below_range : (count : ℕ) (o : Option ℕ) (k : ℕ) → below_in count o ≡ Some k → k < count
below_range count o k is = let b = both o (below count) k is in of_below b.value b.then_is
  where
    of_below : (n : ℕ) → below count n ≡ Some k → k < count
    of_below n is = go (nat_lt n count) refl is
      where
        go : (t : Bool) → nat_lt n count ≡ t → (if t then Some n else None) ≡ Some k → k < count
        go true lt is = let same : n ≡ k = cc in subst (λ (i : ℕ). i < count) same (grind (arith, nat_tests))
        go false lt is = let no : None ≡ Some k = is in absurd cc

-- what a word spells is no more than the most
spelled_range : (w : List ℕ) (k : ℕ) → number_of w ≡ Some (Some k) → k ≤ max_events
spelled_range w k is = go (is_number w) is
  where
    go : (b : Bool) → (if b then Some (within 0 max_events (digits_value 10 w)) else None) ≡ Some (Some k) → k ≤ max_events
    go true is = let this : within 0 max_events (digits_value 10 w) ≡ Some k = cc in (is_within 0 max_events (digits_value 10 w) k this).1
    go false is = let no : None ≡ Some (Some k) = is in absurd cc

-- ---- forms

-- the operations of a form are those of its kind of call
abbrev IsForm : Head → Form → Type 0
IsForm h (Told i (said.Begin t op m)) = IsCallOf h op None
IsForm h (Told i (said.BeginOn t op k m)) = (c : ℕ) → c < h.conditions → IsCallOf h op (Some c)
IsForm h (Told i s) = Unit {0}
IsForm h (End (Some n)) = n ≤ max_events
IsForm h (End None) = Unit {0}

mutex_kind : (h : Head) (o op : Operation) → of_mutex o ≡ Some op → IsCallOf h op None
mutex_kind h Lock op is = let same : Lock ≡ op = cc in subst (λ (p : Operation). IsCallOf h p None) same tt
mutex_kind h TryLock op is = let same : TryLock ≡ op = cc in subst (λ (p : Operation). IsCallOf h p None) same tt
mutex_kind h TimedLock op is = let same : TimedLock ≡ op = cc in subst (λ (p : Operation). IsCallOf h p None) same tt
mutex_kind h Unlock op is = let same : Unlock ≡ op = cc in subst (λ (p : Operation). IsCallOf h p None) same tt
mutex_kind h Consistent op is = let same : Consistent ≡ op = cc in subst (λ (p : Operation). IsCallOf h p None) same tt
mutex_kind h Reinit op is = let same : Reinit ≡ op = cc in subst (λ (p : Operation). IsCallOf h p None) same tt
mutex_kind h o op is = let no : None ≡ Some op = is in absurd cc

condition_kind : (h : Head) (o op : Operation) → of_condition o ≡ Some op → (c : ℕ) → c < h.conditions → IsCallOf h op (Some c)
condition_kind h Wait op is c lt = let same : Wait ≡ op = cc in subst (λ (p : Operation). IsCallOf h p (Some c)) same lt
condition_kind h TimedWait op is c lt = let same : TimedWait ≡ op = cc in subst (λ (p : Operation). IsCallOf h p (Some c)) same lt
condition_kind h Signal op is c lt = let same : Signal ≡ op = cc in subst (λ (p : Operation). IsCallOf h p (Some c)) same lt
condition_kind h Broadcast op is c lt = let same : Broadcast ≡ op = cc in subst (λ (p : Operation). IsCallOf h p (Some c)) same lt
condition_kind h o op is c lt = let no : None ≡ Some op = is in absurd cc

of_mutex_word : (h : Head) (w : List ℕ) (op : Operation) → mutex_operation w ≡ Some op → IsCallOf h op None
of_mutex_word h w op is = let b = both (operation_of w) of_mutex op is in mutex_kind h b.value op b.then_is

of_condition_word : (h : Head) (w : List ℕ) (op : Operation) → condition_operation w ≡ Some op → (c : ℕ) → c < h.conditions → IsCallOf h op (Some c)
of_condition_word h w op is = let b = both (operation_of w) of_condition op is in condition_kind h b.value op b.then_is

-- a form that is one of these is what is read
is_this : (h : Head) (f g : Form) → Some f ≡ Some g → IsForm h f → IsForm h g
is_this h f g is of = let same : f ≡ g = cc in subst (IsForm h) same of

module _ (h : Head) (g : Form) where
  end_is : (w n : List ℕ) → end_form w n ≡ Some g → IsForm h g
  end_is w n is = go (bytes_eq w (codes "end")) is
    where
      of_number : (o : Option ℕ) → number_of n ≡ Some o → Some (End o) ≡ Some g → IsForm h g
      of_number None spelled is = is_this h (End None) g is tt
      of_number (Some k) spelled is = is_this h (End (Some k)) g is (spelled_range n k spelled)

      go : (b : Bool) → (if b then (number_of n >>= λ i. Some (End i)) else None) ≡ Some g → IsForm h g
      go true is = let b = both (number_of n) (λ i. Some (End i)) g is in of_number b.value b.first b.then_is
      go false is = let no : None ≡ Some g = is in absurd cc

  mark_is : (e w t : List ℕ) → mark_form e w t ≡ Some g → IsForm h g
  mark_is e w t is =
      let a = both (number_of e) _ g is in
      let b = both (thread_word t) _ g a.then_is in
      go (bytes_eq w (codes "kill")) (bytes_eq w (codes "doom")) (bytes_eq w (codes "reaped")) (bytes_eq w (codes "renew")) (bytes_eq w (codes "wake")) a.value b.value b.then_is
    where
      go : (k d r n s : Bool) (i u : Option ℕ) → (if k then Some (Told i (said.Kill u)) else (if d then Some (Told i (said.Doom u)) else (if r then Some (Told i (said.Reap u)) else (if n then Some (Told i (said.Renew u)) else (if s then Some (Told i (said.Hidden u)) else None))))) ≡ Some g → IsForm h g
      go true d r n s i u is = is_this h (Told i (said.Kill u)) g is tt
      go false true r n s i u is = is_this h (Told i (said.Doom u)) g is tt
      go false false true n s i u is = is_this h (Told i (said.Reap u)) g is tt
      go false false false true s i u is = is_this h (Told i (said.Renew u)) g is tt
      go false false false false true i u is = is_this h (Told i (said.Hidden u)) g is tt
      go false false false false false i u is = let no : None ≡ Some g = is in absurd cc

  word_is : (e w t o : List ℕ) → word_form e w t o ≡ Some g → IsForm h g
  word_is e w t o is =
      let a = both (number_of e) _ g is in
      let b = both (thread_word t) _ g a.then_is in
      go (bytes_eq w (codes "return")) (bytes_eq w (codes "death")) (bytes_eq w (codes "sleep")) (bytes_eq w (codes "move")) a.value b.value b.then_is
    where
      go : (r d s m : Bool) (i u : Option ℕ) → (if r then (reply_of o >>= λ x. Some (Told i (said.Return u x))) else (if d then Some (Told i (said.Hidden u)) else (if s then Some (Told i (said.Hidden u)) else (if m then Some (Told i (said.Hidden u)) else None)))) ≡ Some g → IsForm h g
      go true d s m i u is =
          let b = both (reply_of o) (λ x. Some (Told i (said.Return u x))) g is in
          is_this h (Told i (said.Return u b.value)) g b.then_is tt
      go false true s m i u is = is_this h (Told i (said.Hidden u)) g is tt
      go false false true m i u is = is_this h (Told i (said.Hidden u)) g is tt
      go false false false true i u is = is_this h (Told i (said.Hidden u)) g is tt
      go false false false false i u is = let no : None ≡ Some g = is in absurd cc

  begin_is : (e w t a m : List ℕ) → begin_form e w t a m ≡ Some g → IsForm h g
  begin_is e w t a m is =
      let x = both (number_of e) _ g is in
      let y = both (thread_word t) _ g x.then_is in
      go (bytes_eq w (codes "begin")) x.value y.value y.then_is
    where
      go : (b : Bool) (i u : Option ℕ) → (if b then (mutex_operation a >>= λ operation. mutex_word m >>= λ mutex. Some (Told i (said.Begin u operation mutex))) else None) ≡ Some g → IsForm h g
      go true i u is =
          let p = both (mutex_operation a) (λ operation. mutex_word m >>= λ mutex. Some (Told i (said.Begin u operation mutex))) g is in
          let q = both (mutex_word m) (λ mutex. Some (Told i (said.Begin u p.value mutex))) g p.then_is in
          is_this h (Told i (said.Begin u p.value q.value)) g q.then_is (of_mutex_word h a p.value p.first)
      go false i u is = let no : None ≡ Some g = is in absurd cc

  begin_on_is : (e w t a c m : List ℕ) → begin_on_form e w t a c m ≡ Some g → IsForm h g
  begin_on_is e w t a c m is =
      let x = both (number_of e) _ g is in
      let y = both (thread_word t) _ g x.then_is in
      go (bytes_eq w (codes "begin")) (bytes_eq w (codes "point")) x.value y.value y.then_is
    where
      go : (b p : Bool) (i u : Option ℕ) → (if b then (condition_operation a >>= λ operation. condition_word c >>= λ condition. mutex_word m >>= λ mutex. Some (Told i (said.BeginOn u operation condition mutex))) else (if p then Some (Told i (said.Hidden u)) else None)) ≡ Some g → IsForm h g
      go true p i u is =
          let x = both (condition_operation a) (λ operation. condition_word c >>= λ condition. mutex_word m >>= λ mutex. Some (Told i (said.BeginOn u operation condition mutex))) g is in
          let y = both (condition_word c) (λ condition. mutex_word m >>= λ mutex. Some (Told i (said.BeginOn u x.value condition mutex))) g x.then_is in
          let z = both (mutex_word m) (λ mutex. Some (Told i (said.BeginOn u x.value y.value mutex))) g y.then_is in
          is_this h (Told i (said.BeginOn u x.value y.value z.value)) g z.then_is (of_condition_word h a x.value x.first)
      go false true i u is = is_this h (Told i (said.Hidden u)) g is tt
      go false false i u is = let no : None ≡ Some g = is in absurd cc

  words_are : (ws : List (List ℕ)) → words_form ws ≡ Some g → IsForm h g
  words_are (w ∷ n ∷ []) is = end_is w n is
  words_are (e ∷ w ∷ t ∷ []) is = mark_is e w t is
  words_are (e ∷ w ∷ t ∷ o ∷ []) is = word_is e w t o is
  words_are (e ∷ w ∷ t ∷ a ∷ m ∷ []) is = begin_is e w t a m is
  words_are (e ∷ w ∷ t ∷ a ∷ c ∷ m ∷ []) is = begin_on_is e w t a c m is
  words_are ws is = let no : None ≡ Some g = is in absurd cc

-- ---- what a form says

-- what is read is in its ranges
abbrev IsReadOf : Head → Read → Type 0
IsReadOf h (read.Told i (Some e)) = IsEvent i × IsEntryOf h e
IsReadOf h (read.Told i None) = IsEvent i
IsReadOf h (read.End n) = n ≤ max_events

abbrev IsSaidOf : Head → Option Entry → Type 0
IsSaidOf h (Some e) = IsEntryOf h e
IsSaidOf h None = Unit {0}

said_is : (h : Head) (x y : Option Entry) → Some x ≡ Some y → IsSaidOf h x → IsSaidOf h y
said_is h x y is of = let same : x ≡ y = cc in subst (IsSaidOf h) same of

thread_range : (h : Head) (t : Option ℕ) (u : ℕ) → thread_in h t ≡ Some u → IsThreadOf h u
thread_range h t u is = number_range 1 h.threads t u is

module _ (h : Head) (x : Option Entry) where
  says : (i : Option ℕ) (s : Said) → IsForm h (Told i s) → said_in h s ≡ Some x → IsSaidOf h x
  says i (said.Begin t op m) form is =
      let a = both (begin_in h t op m) (λ e. Some (Some e)) x is in
      let b = both (thread_in h t) (λ u. below_in h.mutexes m >>= λ n. Some (entry.Told (fact.Begin u (record { operation = op; mutex = n; condition = None })))) a.value a.first in
      let c = both (below_in h.mutexes m) (λ n. Some (entry.Told (fact.Begin b.value (record { operation = op; mutex = n; condition = None })))) a.value b.then_is in
      let same : entry.Told (fact.Begin b.value (record { operation = op; mutex = c.value; condition = None })) ≡ a.value = let e = c.then_is in cc in
      said_is h (Some a.value) x a.then_is (subst (IsEntryOf h) same (refl, (thread_range h t b.value b.first, below_range h.mutexes m c.value c.first, form)))
  says i (said.BeginOn t op k m) form is =
      let a = both (begin_on_in h t op k m) (λ e. Some (Some e)) x is in
      let b = both (thread_in h t) (λ u. below_in h.conditions k >>= λ c. below_in h.mutexes m >>= λ n. Some (entry.Told (fact.Begin u (record { operation = op; mutex = n; condition = Some c })))) a.value a.first in
      let c = both (below_in h.conditions k) (λ c. below_in h.mutexes m >>= λ n. Some (entry.Told (fact.Begin b.value (record { operation = op; mutex = n; condition = Some c })))) a.value b.then_is in
      let d = both (below_in h.mutexes m) (λ n. Some (entry.Told (fact.Begin b.value (record { operation = op; mutex = n; condition = Some c.value })))) a.value c.then_is in
      let same : entry.Told (fact.Begin b.value (record { operation = op; mutex = d.value; condition = Some c.value })) ≡ a.value = let e = d.then_is in cc in
      said_is h (Some a.value) x a.then_is (subst (IsEntryOf h) same (refl, (thread_range h t b.value b.first, below_range h.mutexes m d.value d.first, form c.value (below_range h.conditions k c.value c.first))))
  says i (said.Return t r) form is =
      let a = both (thread_in h t) (λ u. Some (Some (entry.Told (fact.Return u r)))) x is in
      said_is h (Some (entry.Told (fact.Return a.value r))) x a.then_is (refl, thread_range h t a.value a.first)
  says i (said.Kill t) form is =
      let a = both (thread_in h t) (λ u. Some (Some (entry.Told (fact.Kill u)))) x is in
      said_is h (Some (entry.Told (fact.Kill a.value))) x a.then_is (refl, thread_range h t a.value a.first)
  says i (said.Doom t) form is =
      let a = both (thread_in h t) (λ u. Some (Some (entry.Doom u))) x is in
      said_is h (Some (entry.Doom a.value)) x a.then_is (thread_range h t a.value a.first)
  says i (said.Reap t) form is =
      let a = both (thread_in h t) (λ u. Some (Some (entry.Told (fact.Reap u)))) x is in
      said_is h (Some (entry.Told (fact.Reap a.value))) x a.then_is (refl, thread_range h t a.value a.first)
  says i (said.Renew t) form is =
      let a = both (thread_in h t) (λ u. Some (Some (entry.Told (fact.Renew u)))) x is in
      said_is h (Some (entry.Told (fact.Renew a.value))) x a.then_is (refl, thread_range h t a.value a.first)
  says i (said.Hidden t) form is =
      let a = both (thread_in h t) (λ u. Some None) x is in
      said_is h None x a.then_is tt

read_is : (h : Head) (r q : Read) → Some r ≡ Some q → IsReadOf h r → IsReadOf h q
read_is h r q is of = let same : r ≡ q = cc in subst (IsReadOf h) same of

of_event : (h : Head) (i : ℕ) (x : Option Entry) → IsEvent i → IsSaidOf h x → IsReadOf h (read.Told i x)
of_event h i (Some e) event said = (event, said)
of_event h i None event said = event

line_is : (h : Head) (f : Form) (r : Read) → IsForm h f → line_in h f ≡ Some r → IsReadOf h r
line_is h (Told n s) r form is =
    let a = both (number_in 1 max_events n) (λ i. said_in h s >>= λ e. Some (read.Told i e)) r is in
    let b = both (said_in h s) (λ e. Some (read.Told a.value e)) r a.then_is in
    read_is h (read.Told a.value b.value) r b.then_is (of_event h a.value b.value (number_range 1 max_events n a.value a.first) (says h b.value n s form b.first))
line_is h (End (Some n)) r form is = read_is h (read.End n) r is form
line_is h (End None) r form is = let no : None ≡ Some r = is in absurd cc

-- ---- lines

-- what came of a reading came of both its steps
pub record Steps {A B : Type 0} (o : Result A Fault) (f : A → Result B Fault) (y : B) : Type 0 where
  pub value : A
  pub first : o ≡ Ok value
  pub then_is : f value ≡ Ok y

pub steps : {A B : Type 0} (o : Result A Fault) (f : A → Result B Fault) (y : B) → (o >>! f) ≡ Ok y → Steps o f y
steps (Ok x) f y is = record { value = x; first = refl; then_is = is }
steps (Err e) f y is = let no : Err e ≡ Ok y = is in absurd cc

line_range : (h : Head) (bytes : List ℕ) (r : Read) → line_read h bytes ≡ Ok r → IsReadOf h r
line_range h bytes r is = go (is_utf8 bytes) is
  where
    go : (b : Bool) → (if b then line_said h bytes else Err NotUtf8) ≡ Ok r → IsReadOf h r
    go true is =
        let s = steps (ok_or (form_of bytes) UnknownWord) (λ f. ok_or (line_in h f) OutOfRange) r is in
        line_is h s.value r (words_are h s.value (words_of bytes) (some_of (form_of bytes) UnknownWord s.value s.first)) (some_of (line_in h s.value) OutOfRange r s.then_is)
    go false is = let no : Err NotUtf8 ≡ Ok r = is in absurd cc

head_is : (f : HeadForm) (h : Head) → head_in f ≡ Some h → IsHead h
head_is f h is =
    let a = both (number_in 1 max_threads f.threads) (λ t. number_in 1 max_mutexes f.mutexes >>= λ m. number_in 0 max_conditions f.conditions >>= λ c. Some (record { threads = t; mutexes = m; conditions = c })) h is in
    let b = both (number_in 1 max_mutexes f.mutexes) (λ m. number_in 0 max_conditions f.conditions >>= λ c. Some (record { threads = a.value; mutexes = m; conditions = c })) h a.then_is in
    let d = both (number_in 0 max_conditions f.conditions) (λ c. Some (record { threads = a.value; mutexes = b.value; conditions = c })) h b.then_is in
    let t = number_range 1 max_threads f.threads a.value a.first in
    let m = number_range 1 max_mutexes f.mutexes b.value b.first in
    let c = number_range 0 max_conditions f.conditions d.value d.first in
    let made : Some (record { threads = a.value; mutexes = b.value; conditions = d.value }) ≡ Some h = d.then_is in
    let same : record { threads = a.value; mutexes = b.value; conditions = d.value } ≡ h = cc in
    subst IsHead same (record { some_thread = t.0; few_threads = t.1; some_mutex = m.0; few_mutexes = m.1; few_conditions = c.1 })

head_range : (bytes : List ℕ) (h : Head) → head_read bytes ≡ Ok h → IsHead h
head_range bytes h is = go (is_utf8 bytes) is
  where
    go : (b : Bool) → (if b then head_said bytes else Err NotUtf8) ≡ Ok h → IsHead h
    go true is =
        let s = steps (ok_or (head_form (words_of bytes)) UnknownWord) (λ f. ok_or (head_in f) OutOfRange) h is in
        head_is s.value h (some_of (head_in s.value) OutOfRange h s.then_is)
    go false is = let no : Err NotUtf8 ≡ Ok h = is in absurd cc

event_of : (h : Head) (i : ℕ) (e : Option Entry) → IsReadOf h (read.Told i e) → IsEvent i
event_of h i (Some e) of = of.0
event_of h i None of = of

pub in_range : LinesAreInRange
in_range = record {
  head = head_range;
  event = λ h bytes i e is. event_of h i e (line_range h bytes (read.Told i e) is);
  entry = λ h bytes i e is. (line_range h bytes (read.Told i (Some e)) is).1;
  end = λ h bytes n is. line_range h bytes (read.End n) is;
}
