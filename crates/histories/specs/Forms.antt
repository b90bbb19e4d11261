-- The spelling of a history: its words, numbers and kinds of line. A trace's lines are among them; those that tell of
-- points, deaths and sleep are known by their keyword alone.
use Rattle.std.specs.Prelude.{ℕ, ◌==◌, ◌||◌, List, [], ◌∷◌, Option, Some, None, if◌then◌else◌, codes}
use Rattle.std.specs.Str.{bytes_eq}
use Rattle.std.specs.Str.Parse.{digits_value}
use Rattle.lockword.specs.Replies.{reply_of}
use Rattle.lines.specs.Numbers.{is_number, within}
use Rattle.lines.specs.Lines.{words_of}
use Rattle.verdict.specs.Forms.{◌>>=◌, mutex_operation, condition_operation}
use Rattle.histories.specs.declared.form.Said.TheVariants as said
use Rattle.histories.specs.declared.form.Form.{Form}
use Rattle.histories.specs.declared.form.Form.TheVariants.{Told, End}
use Rattle.histories.specs.declared.form.HeadForm.{HeadForm}
use Rattle.histories.specs.Limits.{max_events}

-- the number that a word spells; None inside where it is past every range
abbrev pub number_of : List ℕ → Option (Option ℕ)
number_of w = if is_number w then Some (within 0 max_events (digits_value 10 w)) else None

-- a letter and a number: `t1` is a thread, `m0` a mutex, `c0` a condition variable
abbrev pub numbered : ℕ → List ℕ → Option (Option ℕ)
numbered letter [] = None
numbered letter (b ∷ bs) = if b == letter then number_of bs else None

abbrev pub thread_word : List ℕ → Option (Option ℕ)
thread_word w = numbered 116 w

abbrev pub mutex_word : List ℕ → Option (Option ℕ)
mutex_word w = numbered 109 w

abbrev pub condition_word : List ℕ → Option (Option ℕ)
condition_word w = numbered 99 w

-- `history T M C`, and `trace T M C`
abbrev pub head_form : List (List ℕ) → Option HeadForm
head_form (w ∷ t ∷ m ∷ c ∷ []) = if bytes_eq w (codes "history") || bytes_eq w (codes "trace")
    then
    (number_of t >>= λ threads.
    number_of m >>= λ mutexes.
    number_of c >>= λ conditions.
    Some (record { threads = threads; mutexes = mutexes; conditions = conditions }))
    else None
head_form _ = None

-- `end N`
abbrev pub end_form : List ℕ → List ℕ → Option Form
end_form w n = if bytes_eq w (codes "end") then (number_of n >>= λ i. Some (End i)) else None

-- `i kill tT`, `i doom tT`, `i reaped tT`, `i renew tT`, and of a trace `i wake tT`
abbrev pub mark_form : List ℕ → List ℕ → List ℕ → Option Form
mark_form e w t = number_of e >>= λ i. thread_word t >>= λ u.
    if bytes_eq w (codes "kill") then Some (Told i (said.Kill u))
    else (if bytes_eq w (codes "doom") then Some (Told i (said.Doom u))
    else (if bytes_eq w (codes "reaped") then Some (Told i (said.Reap u))
    else (if bytes_eq w (codes "renew") then Some (Told i (said.Renew u))
    else (if bytes_eq w (codes "wake") then Some (Told i (said.Hidden u)) else None))))

-- `i return tT REPLY`, and of a trace `i death tT ..`, `i sleep tT ..`, `i move tT ..`
abbrev pub word_form : List ℕ → List ℕ → List ℕ → List ℕ → Option Form
word_form e w t o = number_of e >>= λ i. thread_word t >>= λ u.
    if bytes_eq w (codes "return") then (reply_of o >>= λ x. Some (Told i (said.Return u x)))
    else (if bytes_eq w (codes "death") then Some (Told i (said.Hidden u))
    else (if bytes_eq w (codes "sleep") then Some (Told i (said.Hidden u))
    else (if bytes_eq w (codes "move") then Some (Told i (said.Hidden u)) else None)))

-- `i begin tT OP mM`
abbrev pub begin_form : List ℕ → List ℕ → List ℕ → List ℕ → List ℕ → Option Form
begin_form e w t a m = number_of e >>= λ i. thread_word t >>= λ u.
    if bytes_eq w (codes "begin")
    then
    (mutex_operation a >>= λ operation.
    mutex_word m >>= λ mutex.
    Some (Told i (said.Begin u operation mutex)))
    else None

-- `i begin tT OP cC mM`, and of a trace `i point tT ..`
abbrev pub begin_on_form : List ℕ → List ℕ → List ℕ → List ℕ → List ℕ → List ℕ → Option Form
begin_on_form e w t a c m = number_of e >>= λ i. thread_word t >>= λ u.
    if bytes_eq w (codes "begin")
    then
    (condition_operation a >>= λ operation.
    condition_word c >>= λ condition.
    mutex_word m >>= λ mutex.
    Some (Told i (said.BeginOn u operation condition mutex)))
    else (if bytes_eq w (codes "point") then Some (Told i (said.Hidden u)) else None)

-- a line after the first, by its words
abbrev pub words_form : List (List ℕ) → Option Form
words_form (w ∷ n ∷ []) = end_form w n
words_form (e ∷ w ∷ t ∷ []) = mark_form e w t
words_form (e ∷ w ∷ t ∷ o ∷ []) = word_form e w t o
words_form (e ∷ w ∷ t ∷ a ∷ m ∷ []) = begin_form e w t a m
words_form (e ∷ w ∷ t ∷ a ∷ c ∷ m ∷ []) = begin_on_form e w t a c m
words_form _ = None

abbrev pub form_of : List ℕ → Option Form
form_of text = words_form (words_of text)
