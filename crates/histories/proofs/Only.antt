-- No other text is read as an entry.
use Rattle.std.proofs.Common.{◌≡◌, ℕ, ◌<◌, ◌≤◌, ◌^◌, ◌==◌, Bool, true, false, not, ◌&&◌, Option, Some, None, Ok, Err, List, [], ◌∷◌, ◌++◌, length, get_or, refl, sym, ap, subst, ◌∙◌, eqb-true, eq-eqb, arith}
use Rattle.std.specs.Prelude.{codes, decimal, if◌then◌else◌, nat_le, nat_lt}
use Rattle.std.specs.Option.{ok_or}
use Rattle.std.specs.List.{join_with_byte, list_all}
use Rattle.std.specs.Char.{is_ascii_digit}
use Rattle.std.specs.Str.{all_ascii_digits, bytes_eq, is_utf8}
use Rattle.std.specs.Str.Parse.{digits_value}
use Rattle.std.proofs.lemmas.Bool.Decides.{nat_tests}
use Rattle.std.proofs.lemmas.Fmt.{decimal-digits_value}
use Rattle.std.proofs.lemmas.List.Splits.{join_with_byte-slice_split}
use Rattle.std.proofs.lemmas.Slice.Eq.{bytes_eq-Decides}
use Rattle.std.proofs.lemmas.Str.Parse.{IsNumeralModel, numerals_by_value, tells_all_ascii_digits}
use Rattle.lockword.specs.Replies.{reply_of, reply_word}
use Rattle.lockword.proofs.Names.{replies_read_back}
use Rattle.posixmutex.specs.declared.point.Operation.{Operation}
use Rattle.posixmutex.specs.declared.point.Operation.TheVariants.{Lock, TryLock, TimedLock, Unlock, Consistent, Wait, TimedWait, Signal, Broadcast, Reinit}
use Rattle.posixmutex.specs.Words.{operation_of, operation_word}
use Rattle.posixmutex.proofs.Words.{operations_read_back}
use Rattle.lines.specs.Numbers.{is_number, within}
use Rattle.lines.specs.Lines.{words_of}
use Rattle.facts.specs.declared.fact.Fact.TheVariants as fact
use Rattle.verdict.specs.Forms.{◌>>=◌, of_mutex, mutex_operation, of_condition, condition_operation}
use Rattle.histories.specs.declared.entry.Entry.{Entry}
use Rattle.histories.specs.declared.entry.Entry.TheVariants as entry
use Rattle.histories.specs.declared.head.Head.{Head}
use Rattle.histories.specs.declared.form.Said.{Said}
use Rattle.histories.specs.declared.form.Said.TheVariants as said
use Rattle.histories.specs.declared.form.Form.{Form}
use Rattle.histories.specs.declared.form.Form.TheVariants.{Told, End}
use Rattle.histories.specs.declared.reading.Read.{Read}
use Rattle.histories.specs.declared.reading.Read.TheVariants as read
use Rattle.histories.specs.declared.fault.Fault.TheVariants.{NotUtf8, UnknownWord, OutOfRange}
use Rattle.histories.specs.Limits.{max_events}
use Rattle.histories.specs.Forms.{begin_form, begin_on_form, condition_word, end_form, form_of, mark_form, mutex_word, number_of, numbered, thread_word, word_form, words_form}
use Rattle.histories.specs.Reading.{begin_in, begin_on_in, below, below_in, line_in, line_read, line_said, number_in, said_in, thread_in}
use Rattle.histories.specs.Written.{OnlyTheseAreRead, entry_words, spaced}
use Rattle.histories.proofs.InRange.{both, some_of, steps}
use Rattle.histories.proofs.Numerals.{is_digits}

-- ---- numbers

own : IsNumeralModel (λ ds. all_ascii_digits ds ≡ true) (digits_value 10)
own = numerals_by_value (λ ds. all_ascii_digits ds ≡ true) tells_all_ascii_digits

some_digit : (w : List ℕ) → is_number w ≡ true → 0 < length w
some_digit [] is = absurd cc
some_digit (b ∷ bs) is = omega arith

leads : (w : List ℕ) → is_number w ≡ true → get_or w 0 0 ≡ 48 → length w ≡ 1
leads [] is zero_first = absurd cc
leads (b ∷ []) is zero_first = refl
leads (b ∷ c ∷ bs) is zero_first = go (b == 48) (eq-eqb b 48 zero_first) is
  where
    go : (t : Bool) → t ≡ true → (not t && list_all is_ascii_digit (b ∷ c ∷ bs)) ≡ true → length (b ∷ c ∷ bs) ≡ 1
    go true e is = absurd cc
    go false e is = absurd cc

within_is : (low high n k : ℕ) → within low high n ≡ Some k → (n ≡ k) × (k ≤ high)
within_is low high n k is = go (nat_le low n) (nat_le n high) refl is
  where
    go : (a b : Bool) → nat_le n high ≡ b → (if a && b then Some n else None) ≡ Some k → (n ≡ k) × (k ≤ high)
    go true true most is = let same : n ≡ k = cc in (same, subst (λ (i : ℕ). i ≤ high) same (grind (arith, nat_tests)))
    go true false most is = let no : None ≡ Some k = is in absurd cc
    go false b most is = let no : None ≡ Some k = is in absurd cc

-- the word spells the number, if it is one in a range
abbrev Spells : List ℕ → Option ℕ → Type 0
Spells w (Some k) = w ≡ decimal k
Spells w None = Unit {0}

abbrev Letters : ℕ → List ℕ → Option ℕ → Type 0
Letters c w (Some k) = w ≡ c ∷ decimal k
Letters c w None = Unit {0}

number_spells : (w : List ℕ) (o : Option ℕ) → number_of w ≡ Some o → Spells w o
number_spells w None is = tt
number_spells w (Some k) is = go (is_number w) refl is
  where
    go : (b : Bool) → is_number w ≡ b → (if b then Some (within 0 max_events (digits_value 10 w)) else None) ≡ Some (Some k) → w ≡ decimal k
    go true number is =
        let this : within 0 max_events (digits_value 10 w) ≡ Some k = cc in
        let so = within_is 0 max_events (digits_value 10 w) k this in
        let most = so.1 in
        let value : digits_value 10 w ≡ k = so.0 in
        let small : digits_value 10 w < 2 ^ 64 = omega (arith, value, most) in
        sym (decimal-digits_value own w (is_digits w number) (some_digit w number) (leads w number) small) ∙ ap decimal value
    go false number is = let no : None ≡ Some (Some k) = is in absurd cc

lettered : (c : ℕ) (w : List ℕ) (o : Option ℕ) → numbered c w ≡ Some o → Letters c w o
lettered c w None is = tt
lettered c [] (Some k) is = let no : None ≡ Some (Some k) = is in absurd cc
lettered c (b ∷ bs) (Some k) is = go (b == c) refl is
  where
    go : (t : Bool) → (b == c) ≡ t → (if t then number_of bs else None) ≡ Some (Some k) → b ∷ bs ≡ c ∷ decimal k
    go true same is = let first : b ≡ c = eqb-true b c same in let rest : bs ≡ decimal k = number_spells bs (Some k) is in cc
    go false same is = let no : None ≡ Some (Some k) = is in absurd cc

-- ---- operations and words

mutex_kept : (o op : Operation) → of_mutex o ≡ Some op → o ≡ op
mutex_kept Lock op is = cc
mutex_kept TryLock op is = cc
mutex_kept TimedLock op is = cc
mutex_kept Unlock op is = cc
mutex_kept Consistent op is = cc
mutex_kept Reinit op is = cc
mutex_kept o op is = let no : None ≡ Some op = is in absurd cc

condition_kept : (o op : Operation) → of_condition o ≡ Some op → o ≡ op
condition_kept Wait op is = cc
condition_kept TimedWait op is = cc
condition_kept Signal op is = cc
condition_kept Broadcast op is = cc
condition_kept o op is = let no : None ≡ Some op = is in absurd cc

mutex_named : (w : List ℕ) (op : Operation) → mutex_operation w ≡ Some op → w ≡ operation_word op
mutex_named w op is =
    let b = both (operation_of w) of_mutex op is in
    operations_read_back.only w b.value b.first ∙ ap operation_word (mutex_kept b.value op b.then_is)

condition_named : (w : List ℕ) (op : Operation) → condition_operation w ≡ Some op → w ≡ operation_word op
condition_named w op is =
    let b = both (operation_of w) of_condition op is in
    operations_read_back.only w b.value b.first ∙ ap operation_word (condition_kept b.value op b.then_is)

keyword : (w k : List ℕ) → bytes_eq w k ≡ true → w ≡ k
keyword w k is = (bytes_eq-Decides w k).0 is

-- ---- the words of a form

-- one word after the thread's, or none
abbrev IsMark : List ℕ → Option ℕ → Option ℕ → List (List ℕ) → Type 0
IsMark k i t ws = (e u : List ℕ) × (ws ≡ e ∷ k ∷ u ∷ []) × Spells e i × Letters 116 u t

abbrev IsSpelled : Form → List (List ℕ) → Type 0
IsSpelled (Told i (said.Begin t op m)) ws =
    (e u v : List ℕ) × (ws ≡ e ∷ codes "begin" ∷ u ∷ operation_word op ∷ v ∷ []) × Spells e i × Letters 116 u t × Letters 109 v m
IsSpelled (Told i (said.BeginOn t op c m)) ws =
    (e u v w : List ℕ) × (ws ≡ e ∷ codes "begin" ∷ u ∷ operation_word op ∷ v ∷ w ∷ []) × Spells e i × Letters 116 u t × Letters 99 v c × Letters 109 w m
IsSpelled (Told i (said.Return t x)) ws = (e u : List ℕ) × (ws ≡ e ∷ codes "return" ∷ u ∷ reply_word x ∷ []) × Spells e i × Letters 116 u t
IsSpelled (Told i (said.Kill t)) ws = IsMark (codes "kill") i t ws
IsSpelled (Told i (said.Doom t)) ws = IsMark (codes "doom") i t ws
IsSpelled (Told i (said.Reap t)) ws = IsMark (codes "reaped") i t ws
IsSpelled (Told i (said.Renew t)) ws = IsMark (codes "renew") i t ws
IsSpelled (Told i (said.Hidden t)) ws = Unit {0}
IsSpelled (End n) ws = (e : List ℕ) × (ws ≡ codes "end" ∷ e ∷ []) × Spells e n

is_this : (f g : Form) (ws : List (List ℕ)) → Some f ≡ Some g → IsSpelled f ws → IsSpelled g ws
is_this f g ws is of = let same : f ≡ g = cc in subst (λ (x : Form). IsSpelled x ws) same of

module _ (g : Form) where
  end_is : (w n : List ℕ) → end_form w n ≡ Some g → IsSpelled g (w ∷ n ∷ [])
  end_is w n is = go (bytes_eq w (codes "end")) refl is
    where
      go : (b : Bool) → bytes_eq w (codes "end") ≡ b → (if b then (number_of n >>= λ i. Some (End i)) else None) ≡ Some g → IsSpelled g (w ∷ n ∷ [])
      go true k is =
          let b = both (number_of n) (λ i. Some (End i)) g is in
          is_this (End b.value) g (w ∷ n ∷ []) b.then_is (n, ap (λ (z : List ℕ). z ∷ n ∷ []) (keyword w (codes "end") k), number_spells n b.value b.first)
      go false k is = let no : None ≡ Some g = is in absurd cc

  mark_is : (e w t : List ℕ) → mark_form e w t ≡ Some g → IsSpelled g (e ∷ w ∷ t ∷ [])
  mark_is e w t is =
      let a = both (number_of e) _ g is in
      let b = both (thread_word t) _ g a.then_is in
      go (bytes_eq w (codes "kill")) (bytes_eq w (codes "doom")) (bytes_eq w (codes "reaped")) (bytes_eq w (codes "renew")) (bytes_eq w (codes "wake")) a.value b.value refl refl refl refl (number_spells e a.value a.first) (lettered 116 t b.value b.first) b.then_is
    where
      word_is_that : (k : List ℕ) → bytes_eq w k ≡ true → e ∷ w ∷ t ∷ [] ≡ e ∷ k ∷ t ∷ []
      word_is_that k is = ap (λ (z : List ℕ). e ∷ z ∷ t ∷ []) (keyword w k is)

      go : (k d r n s : Bool) (i u : Option ℕ) → bytes_eq w (codes "kill") ≡ k → bytes_eq w (codes "doom") ≡ d → bytes_eq w (codes "reaped") ≡ r → bytes_eq w (codes "renew") ≡ n → Spells e i → Letters 116 t u
          → (if k then Some (Told i (said.Kill u)) else (if d then Some (Told i (said.Doom u)) else (if r then Some (Told i (said.Reap u)) else (if n then Some (Told i (said.Renew u)) else (if s then Some (Told i (said.Hidden u)) else None))))) ≡ Some g → IsSpelled g (e ∷ w ∷ t ∷ [])
      go true d r n s i u wk wd wr wn se lt is = is_this (Told i (said.Kill u)) g (e ∷ w ∷ t ∷ []) is (e, t, word_is_that (codes "kill") wk, se, lt)
      go false true r n s i u wk wd wr wn se lt is = is_this (Told i (said.Doom u)) g (e ∷ w ∷ t ∷ []) is (e, t, word_is_that (codes "doom") wd, se, lt)
      go false false true n s i u wk wd wr wn se lt is = is_this (Told i (said.Reap u)) g (e ∷ w ∷ t ∷ []) is (e, t, word_is_that (codes "reaped") wr, se, lt)
      go false false false true s i u wk wd wr wn se lt is = is_this (Told i (said.Renew u)) g (e ∷ w ∷ t ∷ []) is (e, t, word_is_that (codes "renew") wn, se, lt)
      go false false false false true i u wk wd wr wn se lt is = is_this (Told i (said.Hidden u)) g (e ∷ w ∷ t ∷ []) is tt
      go false false false false false i u wk wd wr wn se lt is = let no : None ≡ Some g = is in absurd cc

  word_is : (e w t o : List ℕ) → word_form e w t o ≡ Some g → IsSpelled g (e ∷ w ∷ t ∷ o ∷ [])
  word_is e w t o is =
      let a = both (number_of e) _ g is in
      let b = both (thread_word t) _ g a.then_is in
      go (bytes_eq w (codes "return")) (bytes_eq w (codes "death")) (bytes_eq w (codes "sleep")) (bytes_eq w (codes "move")) a.value b.value refl (number_spells e a.value a.first) (lettered 116 t b.value b.first) b.then_is
    where
      go : (r d s m : Bool) (i u : Option ℕ) → bytes_eq w (codes "return") ≡ r → Spells e i → Letters 116 t u
          → (if r then (reply_of o >>= λ x. Some (Told i (said.Return u x))) else (if d then Some (Told i (said.Hidden u)) else (if s then Some (Told i (said.Hidden u)) else (if m then Some (Told i (said.Hidden u)) else None)))) ≡ Some g → IsSpelled g (e ∷ w ∷ t ∷ o ∷ [])
      go true d s m i u wr se lt is =
          let b = both (reply_of o) (λ x. Some (Told i (said.Return u x))) g is in
          is_this (Told i (said.Return u b.value)) g (e ∷ w ∷ t ∷ o ∷ []) b.then_is
          (e, t, ap (λ (z : List ℕ). e ∷ z ∷ t ∷ o ∷ []) (keyword w (codes "return") wr) ∙ ap (λ (z : List ℕ). e ∷ codes "return" ∷ t ∷ z ∷ []) (replies_read_back.only o b.value b.first), se, lt)
      go false true s m i u wr se lt is = is_this (Told i (said.Hidden u)) g (e ∷ w ∷ t ∷ o ∷ []) is tt
      go false false true m i u wr se lt is = is_this (Told i (said.Hidden u)) g (e ∷ w ∷ t ∷ o ∷ []) is tt
      go false false false true i u wr se lt is = is_this (Told i (said.Hidden u)) g (e ∷ w ∷ t ∷ o ∷ []) is tt
      go false false false false i u wr se lt is = let no : None ≡ Some g = is in absurd cc

  begin_is : (e w t a m : List ℕ) → begin_form e w t a m ≡ Some g → IsSpelled g (e ∷ w ∷ t ∷ a ∷ m ∷ [])
  begin_is e w t a m is =
      let x = both (number_of e) _ g is in
      let y = both (thread_word t) _ g x.then_is in
      go (bytes_eq w (codes "begin")) x.value y.value refl (number_spells e x.value x.first) (lettered 116 t y.value y.first) y.then_is
    where
      go : (b : Bool) (i u : Option ℕ) → bytes_eq w (codes "begin") ≡ b → Spells e i → Letters 116 t u
          → (if b then (mutex_operation a >>= λ operation. mutex_word m >>= λ mutex. Some (Told i (said.Begin u operation mutex))) else None) ≡ Some g → IsSpelled g (e ∷ w ∷ t ∷ a ∷ m ∷ [])
      go true i u wb se lt is =
          let p = both (mutex_operation a) (λ operation. mutex_word m >>= λ mutex. Some (Told i (said.Begin u operation mutex))) g is in
          let q = both (mutex_word m) (λ mutex. Some (Told i (said.Begin u p.value mutex))) g p.then_is in
          is_this (Told i (said.Begin u p.value q.value)) g (e ∷ w ∷ t ∷ a ∷ m ∷ []) q.then_is
          (e, t, m, ap (λ (z : List ℕ). e ∷ z ∷ t ∷ a ∷ m ∷ []) (keyword w (codes "begin") wb) ∙ ap (λ (z : List ℕ). e ∷ codes "begin" ∷ t ∷ z ∷ m ∷ []) (mutex_named a p.value p.first), se, lt, lettered 109 m q.value q.first)
      go false i u wb se lt is = let no : None ≡ Some g = is in absurd cc

  begin_on_is : (e w t a c m : List ℕ) → begin_on_form e w t a c m ≡ Some g → IsSpelled g (e ∷ w ∷ t ∷ a ∷ c ∷ m ∷ [])
  begin_on_is e w t a c m is =
      let x = both (number_of e) _ g is in
      let y = both (thread_word t) _ g x.then_is in
      go (bytes_eq w (codes "begin")) (bytes_eq w (codes "point")) x.value y.value refl (number_spells e x.value x.first) (lettered 116 t y.value y.first) y.then_is
    where
      go : (b p : Bool) (i u : Option ℕ) → bytes_eq w (codes "begin") ≡ b → Spells e i → Letters 116 t u
          → (if b then (condition_operation a >>= λ operation. condition_word c >>= λ condition. mutex_word m >>= λ mutex. Some (Told i (said.BeginOn u operation condition mutex))) else (if p then Some (Told i (said.Hidden u)) else None)) ≡ Some g
          → IsSpelled g (e ∷ w ∷ t ∷ a ∷ c ∷ m ∷ [])
      go true p i u wb se lt is =
          let x = both (condition_operation a) (λ operation. condition_word c >>= λ condition. mutex_word m >>= λ mutex. Some (Told i (said.BeginOn u operation condition mutex))) g is in
          let y = both (condition_word c) (λ condition. mutex_word m >>= λ mutex. Some (Told i (said.BeginOn u x.value condition mutex))) g x.then_is in
          let z = both (mutex_word m) (λ mutex. Some (Told i (said.BeginOn u x.value y.value mutex))) g y.then_is in
          is_this (Told i (said.BeginOn u x.value y.value z.value)) g (e ∷ w ∷ t ∷ a ∷ c ∷ m ∷ []) z.then_is
          (e, t, c, m, ap (λ (s : List ℕ). e ∷ s ∷ t ∷ a ∷ c ∷ m ∷ []) (keyword w (codes "begin") wb) ∙ ap (λ (s : List ℕ). e ∷ codes "begin" ∷ t ∷ s ∷ c ∷ m ∷ []) (condition_named a x.value x.first), se, lt, lettered 99 c y.value y.first, lettered 109 m z.value z.first)
      go false true i u wb se lt is = is_this (Told i (said.Hidden u)) g (e ∷ w ∷ t ∷ a ∷ c ∷ m ∷ []) is tt
      go false false i u wb se lt is = let no : None ≡ Some g = is in absurd cc

  words_are : (ws : List (List ℕ)) → words_form ws ≡ Some g → IsSpelled g ws
  words_are (w ∷ n ∷ []) is = end_is w n is
  words_are (e ∷ w ∷ t ∷ []) is = mark_is e w t is
  words_are (e ∷ w ∷ t ∷ o ∷ []) is = word_is e w t o is
  words_are (e ∷ w ∷ t ∷ a ∷ m ∷ []) is = begin_is e w t a m is
  words_are (e ∷ w ∷ t ∷ a ∷ c ∷ m ∷ []) is = begin_on_is e w t a c m is
  words_are ws is = let no : None ≡ Some g = is in absurd cc

-- ---- what is read

number_in_is : (low high : ℕ) (o : Option ℕ) (k : ℕ) → number_in low high o ≡ Some k → o ≡ Some k
number_in_is low high o k is = let b = both o (within low high) k is in b.first ∙ ap Some (within_is low high b.value k b.then_is).0

below_in_is : (count : ℕ) (o : Option ℕ) (k : ℕ) → below_in count o ≡ Some k → o ≡ Some k
below_in_is count o k is = let b = both o (below count) k is in b.first ∙ of_below b.value b.then_is
  where
    of_below : (n : ℕ) → below count n ≡ Some k → Some n ≡ Some k
    of_below n is = go (nat_lt n count) is
      where
        go : (t : Bool) → (if t then Some n else None) ≡ Some k → Some n ≡ Some k
        go true is = is
        go false is = let no : None ≡ Some k = is in absurd cc

spelled_as : (w : List ℕ) (o : Option ℕ) (k : ℕ) → Spells w o → o ≡ Some k → w ≡ decimal k
spelled_as w o k s is = subst (Spells w) is s

lettered_as : (c : ℕ) (w : List ℕ) (o : Option ℕ) (k : ℕ) → Letters c w o → o ≡ Some k → w ≡ c ∷ decimal k
lettered_as c w o k l is = subst (Letters c w) is l

-- these words are the entry's
abbrev AreOf : List (List ℕ) → ℕ → Option Entry → Type 0
AreOf ws i (Some e) = ws ≡ decimal i ∷ entry_words e
AreOf ws i None = Unit {0}

are_of : (ws : List (List ℕ)) (i : ℕ) (x y : Option Entry) → Some x ≡ Some y → AreOf ws i x → AreOf ws i y
are_of ws i x y is of = let same : x ≡ y = cc in subst (AreOf ws i) same of

mark_words : (ws : List (List ℕ)) (k e u : List ℕ) (i t : ℕ) → ws ≡ e ∷ k ∷ u ∷ [] → e ≡ decimal i → u ≡ 116 ∷ decimal t → ws ≡ decimal i ∷ k ∷ (116 ∷ decimal t) ∷ []
mark_words ws k e u i t is event thread = is ∙ ap (λ (z : List ℕ). z ∷ k ∷ u ∷ []) event ∙ ap (λ (z : List ℕ). decimal i ∷ k ∷ z ∷ []) thread

module _ (h : Head) (ws : List (List ℕ)) (i : ℕ) (x : Option Entry) where
  of_mark : (k : List ℕ) (n t : Option ℕ) (entry_of : ℕ → Entry) → ((u : ℕ) → entry_words (entry_of u) ≡ k ∷ (116 ∷ decimal u) ∷ []) → n ≡ Some i → IsMark k n t ws → (thread_in h t >>= λ u. Some (Some (entry_of u))) ≡ Some x → AreOf ws i x
  of_mark k n t entry_of words event (e, u, all, se, lt) is =
      let a = both (thread_in h t) (λ u. Some (Some (entry_of u))) x is in
      are_of ws i (Some (entry_of a.value)) x a.then_is
      (mark_words ws k e u i a.value all (spelled_as e n i se event) (lettered_as 116 u t a.value lt (number_in_is 1 h.threads t a.value a.first)) ∙ ap (λ (rest : List (List ℕ)). decimal i ∷ rest) (sym (words a.value)))

  of_said : (n : Option ℕ) (s : Said) → n ≡ Some i → IsSpelled (Told n s) ws → said_in h s ≡ Some x → AreOf ws i x
  of_said n (said.Begin t op m) event (e, u, v, all, se, lt, lm) is =
      let a = both (begin_in h t op m) (λ e. Some (Some e)) x is in
      let b = both (thread_in h t) (λ u. below_in h.mutexes m >>= λ n. Some (entry.Told (fact.Begin u (record { operation = op; mutex = n; condition = None })))) a.value a.first in
      let c = both (below_in h.mutexes m) (λ n. Some (entry.Told (fact.Begin b.value (record { operation = op; mutex = n; condition = None })))) a.value b.then_is in
      are_of ws i (Some (entry.Told (fact.Begin b.value (record { operation = op; mutex = c.value; condition = None })))) x (ap Some c.then_is ∙ a.then_is)
      (all
      ∙ (λ j. spelled_as e n i se event j ∷ codes "begin" ∷ lettered_as 116 u t b.value lt (number_in_is 1 h.threads t b.value b.first) j ∷ operation_word op ∷ lettered_as 109 v m c.value lm (below_in_is h.mutexes m c.value c.first) j ∷ []))
  of_said n (said.BeginOn t op k m) event (e, u, v, w, all, se, lt, lc, lm) is =
      let a = both (begin_on_in h t op k m) (λ e. Some (Some e)) x is in
      let b = both (thread_in h t) (λ u. below_in h.conditions k >>= λ c. below_in h.mutexes m >>= λ n. Some (entry.Told (fact.Begin u (record { operation = op; mutex = n; condition = Some c })))) a.value a.first in
      let c = both (below_in h.conditions k) (λ c. below_in h.mutexes m >>= λ n. Some (entry.Told (fact.Begin b.value (record { operation = op; mutex = n; condition = Some c })))) a.value b.then_is in
      let d = both (below_in h.mutexes m) (λ n. Some (entry.Told (fact.Begin b.value (record { operation = op; mutex = n; condition = Some c.value })))) a.value c.then_is in
      are_of ws i (Some (entry.Told (fact.Begin b.value (record { operation = op; mutex = d.value; condition = Some c.value })))) x (ap Some d.then_is ∙ a.then_is)
      (all
      ∙ (λ j. spelled_as e n i se event j ∷ codes "begin" ∷ lettered_as 116 u t b.value lt (number_in_is 1 h.threads t b.value b.first) j ∷ operation_word op ∷ lettered_as 99 v k c.value lc (below_in_is h.conditions k c.value c.first) j ∷ lettered_as 109 w m d.value lm (below_in_is h.mutexes m d.value d.first) j ∷ []))
  of_said n (said.Return t r) event (e, u, all, se, lt) is =
      let a = both (thread_in h t) (λ u. Some (Some (entry.Told (fact.Return u r)))) x is in
      are_of ws i (Some (entry.Told (fact.Return a.value r))) x a.then_is
      (all ∙ (λ j. spelled_as e n i se event j ∷ codes "return" ∷ lettered_as 116 u t a.value lt (number_in_is 1 h.threads t a.value a.first) j ∷ reply_word r ∷ []))
  of_said n (said.Kill t) event spelled is = of_mark (codes "kill") n t (λ u. entry.Told (fact.Kill u)) (λ u. refl) event spelled is
  of_said n (said.Doom t) event spelled is = of_mark (codes "doom") n t (λ u. entry.Doom u) (λ u. refl) event spelled is
  of_said n (said.Reap t) event spelled is = of_mark (codes "reaped") n t (λ u. entry.Told (fact.Reap u)) (λ u. refl) event spelled is
  of_said n (said.Renew t) event spelled is = of_mark (codes "renew") n t (λ u. entry.Told (fact.Renew u)) (λ u. refl) event spelled is
  of_said n (said.Hidden t) event spelled is =
      let a = both (thread_in h t) (λ u. Some None) x is in
      are_of ws i None x a.then_is tt

-- what was read of the words
abbrev AreRead : List (List ℕ) → Read → Type 0
AreRead ws (read.Told i x) = AreOf ws i x
AreRead ws (read.End n) = ws ≡ codes "end" ∷ decimal n ∷ []

are_read : (ws : List (List ℕ)) (r q : Read) → Some r ≡ Some q → AreRead ws r → AreRead ws q
are_read ws r q is of = let same : r ≡ q = cc in subst (AreRead ws) same of

of_form : (h : Head) (ws : List (List ℕ)) (f : Form) (r : Read) → IsSpelled f ws → line_in h f ≡ Some r → AreRead ws r
of_form h ws (Told n s) r spelled is =
    let a = both (number_in 1 max_events n) (λ i. said_in h s >>= λ e. Some (read.Told i e)) r is in
    let b = both (said_in h s) (λ e. Some (read.Told a.value e)) r a.then_is in
    are_read ws (read.Told a.value b.value) r b.then_is (of_said h ws a.value b.value n s (number_in_is 1 max_events n a.value a.first) spelled b.first)
of_form h ws (End n) r (e, all, se) is =
    let b = both n (λ i. Some (read.End i)) r is in
    are_read ws (read.End b.value) r b.then_is (all ∙ ap (λ (z : List ℕ). codes "end" ∷ z ∷ []) (spelled_as e n b.value se b.first))

-- ---- a line

joined : (ws : List (List ℕ)) → join_with_byte 32 ws ≡ spaced ws
joined [] = refl
joined (w ∷ []) = refl
joined (w ∷ v ∷ ws) = ap (λ (z : List ℕ). w ++ 32 ∷ z) (joined (v ∷ ws))

text_is : (bytes : List ℕ) (ws : List (List ℕ)) → words_of bytes ≡ ws → bytes ≡ spaced ws
text_is bytes ws is = sym (join_with_byte-slice_split 32 bytes) ∙ ap (join_with_byte 32) is ∙ joined ws

line_is : (h : Head) (bytes : List ℕ) (r : Read) → line_read h bytes ≡ Ok r → AreRead (words_of bytes) r
line_is h bytes r is = go (is_utf8 bytes) is
  where
    go : (b : Bool) → (if b then line_said h bytes else Err NotUtf8) ≡ Ok r → AreRead (words_of bytes) r
    go true is =
        let s = steps (ok_or (form_of bytes) UnknownWord) (λ f. ok_or (line_in h f) OutOfRange) r is in
        of_form h (words_of bytes) s.value r (words_are s.value (words_of bytes) (some_of (form_of bytes) UnknownWord s.value s.first)) (some_of (line_in h s.value) OutOfRange r s.then_is)
    go false is = let no : Err NotUtf8 ≡ Ok r = is in absurd cc

pub only_these : OnlyTheseAreRead
only_these = record {
  entry = λ h bytes i e is. text_is bytes (decimal i ∷ entry_words e) (line_is h bytes (read.Told i (Some e)) is);
  end = λ h bytes n is. text_is bytes (codes "end" ∷ decimal n ∷ []) (line_is h bytes (read.End n) is);
}
