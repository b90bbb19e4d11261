-- What holds of a history that is drawn.
use Rattle.std.proofs.Common.{◌≡◌, ◌≢◌, ◌++◌, ℕ, ◌+◌, ◌<◌, ◌≤◌, ◌==◌, ◌&&◌, ⊎_elim, ap, append-nil, drop, Bool, true, false, List, [], ◌∷◌, length, Option, Some, None, if◌then◌else◌, inl, inr, refl, sym, subst, ◌∙◌, arith}
use Rattle.std.specs.Prelude.{All, codes, decimal, nat_eq, nat_le, nat_lt, option_map}
use Rattle.std.specs.Io.KnownBytes.{Appends}
use Rattle.judge_report.specs.Texts.{quote}
use Rattle.std.specs.Bool.{Decides}
use Rattle.std.specs.List.{concat, list_all, onto_first, slice_split, starts_with}
use Rattle.std.proofs.lemmas.List.Splits.{length-slice_split, slice_split-cons_no, slice_split-cons_yes}
use Rattle.std.proofs.lemmas.Slice.Eq.{starts_is}
use Rattle.std.proofs.lemmas.Bool.Decides.{nat_tests}
use Rattle.facts.specs.declared.fact.Fact.{Fact}
use Rattle.facts.specs.declared.fact.Fact.TheVariants.{Begin, Point, Death, Sleep, Wake, Move, Return, Kill, Reap, Renew}
use Rattle.facts.specs.declared.fact.Line.{Line}
use Rattle.facts.specs.Facts.{thread_of}
use Rattle.histories.specs.declared.entry.Entry.{Entry}
use Rattle.histories.specs.Written.{head_line}
use Rattle.verdict.specs.Judges.{IsInside, IsMutex}
use Rattle.verdict.specs.Told.{IsOf, IsWithin}
use Rattle.histories.specs.Reading.{IsHead as IsHistoryHead}
use Rattle.std.proofs.lemmas.List.Elements.{All-cons, All-nil, All-weaker}
use Rattle.std.proofs.lemmas.List.Sums.{AllPass-from_list_all}
use Rattle.verdict.specs.Limits.{max_bytes, max_conditions, max_mutexes, max_threads}
use Rattle.windows.specs.Texts.{certificate_text}
use Rattle.judge_report.specs.declared.tracing.Explained.{Explained}
use Rattle.judge_report.specs.Heard.{Heard}
use Rattle.judge_report.specs.Traces.{IsExplained, IsShownOf, IsTrace}
use Rattle.script.specs.Scope.{Scope}
use Rattle.histories.specs.declared.head.Head.{Head}
use Rattle.picture.specs.Names.{Called}
use Rattle.verdict.specs.declared.told.Told.{Told}
use Rattle.draw_report.specs.declared.asking.Kind.{Kind}
use Rattle.draw_report.specs.declared.asking.Kind.TheVariants.{Text, Svg, Html}
use Rattle.draw_report.specs.declared.messages.Excess.TheVariants.{Mutexes, Conditions, Uncounted}
use Rattle.draw_report.specs.declared.messages.Failure.{Failure}
use Rattle.draw_report.specs.declared.messages.Failure.TheVariants.{Usage, CannotRead, CannotWrite, OutOfMemory}
use Rattle.draw_report.specs.declared.messages.Failure.TheVariants.{Script, Unlike, UnlikeHistory, Trace, History, Undecided, Unfit}
use Rattle.draw_report.specs.Files.{DrawsAs, ExcessIsSaid, HistoriesAreDrawnAsTraces, HistoriesAreKnown, IsFirstLine, Shows, UndecidedIsSaid, is_history}
use Rattle.draw_report.specs.Messages.{failure_text}
use Rattle.draw_report.specs.Names.{called_by}
use Rattle.draw_report.specs.Served.{OfHistory, first_in, picture, title_line}
use Rattle.draw_report.specs.declared.history.Drawing.{Drawing}
use Rattle.draw_report.specs.Histories.{DrawsHistory, FailsHistory, IsDrawingOf, IsUndrawable, excess_of, fits, is_inside, is_mutex, judged_in}

-- ---- which files are histories

of_history : (bytes : List ℕ) → starts_with nat_eq bytes (codes "history ") ≡ true → length bytes ≤ max_bytes → is_history bytes ≡ true
of_history bytes begins few = go (nat_lt max_bytes (length bytes)) refl
  where
    go : (b : Bool) → nat_lt max_bytes (length bytes) ≡ b → (if b then false else starts_with nat_eq bytes (codes "history ")) ≡ true
    go false is = begins
    go true is = absurd (grind (arith, nat_tests))

nat_decides : (a b : ℕ) → Decides (nat_eq a b) (a ≡ b)
nat_decides a b = (λ e. grind (arith, nat_tests, e), λ e. grind (arith, nat_tests, e))

begins_so : (bytes : List ℕ) → starts_with nat_eq bytes (codes "history ") ≡ true → (more : List ℕ) × (bytes ≡ codes "history " ++ more)
begins_so bytes e = (drop 8 bytes, (starts_is nat_decides bytes (codes "history ") (starts_with nat_eq bytes (codes "history ")) refl).0 e)

history_alone : (bytes : List ℕ) → is_history bytes ≡ true → (more : List ℕ) × (bytes ≡ codes "history " ++ more)
history_alone bytes is = go (nat_lt max_bytes (length bytes)) is
  where
    go : (b : Bool) → (if b then false else starts_with nat_eq bytes (codes "history ")) ≡ true → (more : List ℕ) × (bytes ≡ codes "history " ++ more)
    go true e = absurd cc
    go false e = begins_so bytes e

pub histories_are_known : HistoriesAreKnown
histories_are_known = record {
  known = λ h more few. of_history (head_line (codes "history") h ++ more) refl few;
  alone = history_alone;
}

-- ---- the first line of what is said

first_onto : (b : ℕ) (ps : List (List ℕ)) → 0 < length ps → first_in (onto_first b ps) ≡ b ∷ first_in ps
first_onto b [] some = absurd (omega (arith, some))
first_onto b (p ∷ ps) some = refl

abbrev is_feed : ℕ → Bool
is_feed b = b == 10

some_line : (text : List ℕ) → 0 < length (slice_split is_feed text)
some_line text = let many = length-slice_split is_feed text in omega (arith, many)

no_feed : (b : ℕ) → is_feed b ≡ false → b ≢ 10
no_feed b is = λ same. (let yes : is_feed b ≡ true = grind (arith, nat_tests, same) in let both : true ≡ false = sym yes ∙ is in absurd cc)

is_10 : (b : ℕ) → is_feed b ≡ true → b ≡ 10
is_10 b is = grind (arith, nat_tests)

longer_line : (b : ℕ) (text line : List ℕ) → b ≢ 10 → IsFirstLine text line → IsFirstLine (b ∷ text) (b ∷ line)
longer_line b text line other first = record {
  rest = first.rest;
  cut = ⊎_elim (λ (e : text ≡ line ++ 10 ∷ first.rest). inl (ap (λ (l : List ℕ). b ∷ l) e)) (λ (e : text ≡ line). inr (ap (λ (l : List ℕ). b ∷ l) e)) first.cut;
  whole = All-cons (λ (c : ℕ). c ≢ 10) b line other first.whole;
}

first_line : (text : List ℕ) → IsFirstLine text (title_line text)
first_line [] = record { rest = []; cut = inr refl; whole = All-nil (λ (c : ℕ). c ≢ 10) }
first_line (b ∷ text) = go (is_feed b) refl (first_line text)
  where
    go : (f : Bool) → is_feed b ≡ f → IsFirstLine text (title_line text) → IsFirstLine (b ∷ text) (title_line (b ∷ text))
    go true is rest =
        subst (IsFirstLine (b ∷ text)) (sym (ap first_in (slice_split-cons_yes is_feed b text is)))
        (record { rest = text; cut = inl (ap (λ (x : ℕ). x ∷ text) (is_10 b is)); whole = All-nil (λ (c : ℕ). c ≢ 10) })
    go false is rest =
        subst (IsFirstLine (b ∷ text)) (sym (ap first_in (slice_split-cons_no is_feed b text is) ∙ first_onto b (slice_split is_feed text) (some_line text)))
        (longer_line b text (title_line text) (no_feed b is) rest)

-- what a picture shows
shows_so : (kind : Kind) (n : Called) (t : Told) (said : Option (List ℕ)) → Shows kind n t said (picture kind n t (OfHistory said))
shows_so Text n t None = append-nil _
shows_so Text n t (Some said) = refl
shows_so Svg n t None = refl
shows_so Svg n t (Some said) = (title_line said, first_line said, refl)
shows_so Html n t None = refl
shows_so Html n t (Some said) = refl

-- ---- what is drawn

trace_so : (k : Heard) (steps : List Entry) (said : Option (List ℕ)) → IsExplained k steps said → IsTrace k (certificate_text k.head steps)
trace_so k steps None x = inl (record { steps = steps; legal = x; is = refl })
trace_so k steps (Some said) x = inr (record { line = x.0; why = x.1; possible = x.2; steps = steps; illegal = x.3; is = refl })

pub drawn_as_traces : HistoriesAreDrawnAsTraces
drawn_as_traces kind script bytes old new is draws =
    let d : DrawsHistory kind script old new bytes = subst (λ (b : Bool). DrawsAs b kind script old new bytes) is draws in
    let p = d.1 in
    let k = p.shown.0 in
    let s = p.shown.2 in
    record {
      heard = k;
      read = p.shown.1;
      steps = s.steps;
      trace = trace_so k s.steps (option_map (λ v. v.items) p.history.said) s.explained;
      told = p.drawing.trace;
      threads = p.of.threads ∙ ap (λ (h : Head). h.threads) s.head;
      mutexes = p.of.mutexes ∙ ap (λ (h : Head). h.mutexes) s.head;
      conditions = p.of.conditions ∙ ap (λ (h : Head). h.conditions) s.head;
      lines = p.of.lines ∙ s.lines;
      last = p.of.last ∙ ap length s.lines;
      said = option_map (λ v. v.items) p.drawing.said;
      explained = subst (IsExplained k s.steps) (sym p.of.said) s.explained;
      shown = picture kind (called_by script) p.drawing.trace (judged_in p.drawing);
      shows = shows_so kind (called_by script) p.drawing.trace (option_map (λ v. v.items) p.drawing.said);
      written = subst (Appends old new) p.is d.2;
    }

-- ---- what can be drawn

first_so : (a d : Bool) → (a && d) ≡ true → a ≡ true
first_so true d h = refl
first_so false d h = absurd cc

second_so : (a d : Bool) → (a && d) ≡ true → d ≡ true
second_so true d h = h
second_so false d h = absurd cc

at_most : (a b : ℕ) → nat_le a b ≡ true → a ≤ b
at_most a b e = grind (arith, nat_tests, e)

below : (a b : ℕ) → nat_lt a b ≡ true → a < b
below a b e = grind (arith, nat_tests, e)

mutex_so : (mutexes : ℕ) (f : Fact) → is_mutex mutexes f ≡ true → IsMutex mutexes f
mutex_so mutexes (Begin t c) e = tt
mutex_so mutexes (Point d) e = below d.mutex mutexes e
mutex_so mutexes (Death t m) e = below m mutexes e
mutex_so mutexes (Sleep t q) e = tt
mutex_so mutexes (Wake t) e = tt
mutex_so mutexes (Move t m) e = tt
mutex_so mutexes (Return t x) e = tt
mutex_so mutexes (Kill t) e = tt
mutex_so mutexes (Reap t) e = tt
mutex_so mutexes (Renew t) e = tt

-- a line that names just what is there
abbrev Inside : ℕ → ℕ → Line → Type 0
Inside threads mutexes l = (1 ≤ l.event) × IsInside (threads + 1) mutexes l.fact

inside_so : (threads mutexes : ℕ) (l : Line) → is_inside threads mutexes l ≡ true → Inside threads mutexes l
inside_so threads mutexes l e =
    let inside = nat_lt (thread_of l.fact) (threads + 1) && is_mutex mutexes l.fact in
    let rest = second_so (nat_le 1 l.event) inside e in (
      at_most 1 l.event (first_so (nat_le 1 l.event) inside e),
      (
        below (thread_of l.fact) (threads + 1) (first_so (nat_lt (thread_of l.fact) (threads + 1)) (is_mutex mutexes l.fact) rest),
        mutex_so mutexes l.fact (second_so (nat_lt (thread_of l.fact) (threads + 1)) (is_mutex mutexes l.fact) rest),
      ),
    )

all_inside : (threads mutexes : ℕ) (ls : List Line) → list_all (is_inside threads mutexes) ls ≡ true → All (Inside threads mutexes) ls
all_inside threads mutexes ls e = All-weaker (λ l. is_inside threads mutexes l ≡ true) (Inside threads mutexes) (inside_so threads mutexes) ls (AllPass-from_list_all (is_inside threads mutexes) ls e)

pub few_mutexes : (x : Explained) → fits x ≡ true → x.head.mutexes ≤ max_mutexes
few_mutexes x e = at_most x.head.mutexes max_mutexes (first_so (nat_le x.head.mutexes max_mutexes) (nat_le x.head.conditions max_conditions && list_all (is_inside x.head.threads x.head.mutexes) x.lines.items) e)

pub few_conditions : (x : Explained) → fits x ≡ true → x.head.conditions ≤ max_conditions
few_conditions x e =
    at_most x.head.conditions max_conditions
    (first_so (nat_le x.head.conditions max_conditions) (list_all (is_inside x.head.threads x.head.mutexes) x.lines.items)
    (second_so (nat_le x.head.mutexes max_mutexes) (nat_le x.head.conditions max_conditions && list_all (is_inside x.head.threads x.head.mutexes) x.lines.items) e))

lines_inside : (x : Explained) → fits x ≡ true → All (Inside x.head.threads x.head.mutexes) x.lines.items
lines_inside x e =
    all_inside x.head.threads x.head.mutexes x.lines.items
    (second_so (nat_le x.head.conditions max_conditions) (list_all (is_inside x.head.threads x.head.mutexes) x.lines.items)
    (second_so (nat_le x.head.mutexes max_mutexes) (nat_le x.head.conditions max_conditions && list_all (is_inside x.head.threads x.head.mutexes) x.lines.items) e))

-- what is drawn of a history that fits is within what a trace may have
pub within : (x : Explained) (d : Drawing) → IsHistoryHead x.head → fits x ≡ true → IsDrawingOf x d → IsWithin d.trace
within x d head fit of = record {
  head = record {
    some_thread = subst (λ (n : ℕ). 1 ≤ n) (sym of.threads) head.some_thread;
    few_threads = subst (λ (n : ℕ). n ≤ max_threads) (sym of.threads) head.few_threads;
    some_mutex = subst (λ (n : ℕ). 1 ≤ n) (sym of.mutexes) head.some_mutex;
    few_mutexes = subst (λ (n : ℕ). n ≤ max_mutexes) (sym of.mutexes) (few_mutexes x fit);
  };
  lines = subst (All (IsOf d.trace.head)) (sym of.lines) (subst (λ (m : ℕ). All (Inside d.trace.head.threads m) x.lines.items) (sym of.mutexes) (subst (λ (t : ℕ). All (Inside t x.head.mutexes) x.lines.items) (sym of.threads) (lines_inside x fit)));
}

-- ---- what has no drawing

pub undrawable : (kind : Kind) (script : Option Scope) (old : Option (List ℕ)) (bytes : List ℕ) (x : Explained) (f : Failure) → IsShownOf bytes x → IsUndrawable x f → FailsHistory kind script bytes old old f
undrawable kind script old bytes x OutOfMemory shown why = inl refl
undrawable kind script old bytes x (Unfit e) shown why = (refl, (x, shown, why.0, why.1))
undrawable kind script old bytes x Usage shown why = absurd why
undrawable kind script old bytes x CannotRead shown why = absurd why
undrawable kind script old bytes x CannotWrite shown why = absurd why
undrawable kind script old bytes x (Script e) shown why = absurd why
undrawable kind script old bytes x Unlike shown why = absurd why
undrawable kind script old bytes x UnlikeHistory shown why = absurd why
undrawable kind script old bytes x (Trace e) shown why = absurd why
undrawable kind script old bytes x (History e) shown why = absurd why
undrawable kind script old bytes x (Undecided line event) shown why = absurd why

-- ---- what is said of one that doesn't fit

past : (a b : ℕ) → a < b → (nat_le b a ≡ false) × (nat_lt a b ≡ true)
past a b lt = (grind (arith, nat_tests, lt), grind (arith, nat_tests, lt))

not_past : (a b : ℕ) → b ≤ a → (nat_le b a ≡ true) × (nat_lt a b ≡ false)
not_past a b le = (grind (arith, nat_tests, le), grind (arith, nat_tests, le))

abbrev counted : Explained → Bool
counted x = list_all (is_inside x.head.threads x.head.mutexes) x.lines.items

many_mutexes : (file : List ℕ) (x : Explained) → 4096 < x.head.mutexes → (fits x ≡ false) × (failure_text file (Unfit (excess_of x)) ≡ codes "rfx-draw: cannot draw the history: line 1: more than 4096 mutexes\n")
many_mutexes file x many =
    let p = past 4096 x.head.mutexes many in (
      ap (λ (b : Bool). b && (nat_le x.head.conditions max_conditions && counted x)) p.0,
      ap (λ (b : Bool). failure_text file (Unfit (if b then Mutexes else (if nat_lt max_conditions x.head.conditions then Conditions else Uncounted)))) p.1,
    )

many_conditions : (file : List ℕ) (x : Explained) → x.head.mutexes ≤ 4096 → 256 < x.head.conditions → (fits x ≡ false) × (failure_text file (Unfit (excess_of x)) ≡ codes "rfx-draw: cannot draw the history: line 1: more than 256 condition variables\n")
many_conditions file x few many =
    let m = not_past 4096 x.head.mutexes few in
    let p = past 256 x.head.conditions many in (
      ap (λ (b : Bool). b && (nat_le x.head.conditions max_conditions && counted x)) m.0 ∙ ap (λ (b : Bool). b && counted x) p.0,
      ap (λ (b : Bool). failure_text file (Unfit (if b then Mutexes else (if nat_lt max_conditions x.head.conditions then Conditions else Uncounted)))) m.1
          ∙ ap (λ (b : Bool). failure_text file (Unfit (if b then Conditions else Uncounted))) p.1,
    )

few_fit : (x : Explained) → x.head.mutexes ≤ 4096 → x.head.conditions ≤ 256 → fits x ≡ counted x
few_fit x mutexes conditions =
    ap (λ (b : Bool). b && (nat_le x.head.conditions max_conditions && counted x)) (not_past 4096 x.head.mutexes mutexes).0
    ∙ ap (λ (b : Bool). b && counted x) (not_past 256 x.head.conditions conditions).0

pub excess_is_said : ExcessIsSaid
excess_is_said = record { mutexes = many_mutexes; conditions = many_conditions; others = few_fit }

-- ---- what is said of an undecided history

pub undecided_is_said : UndecidedIsSaid
undecided_is_said file l =
    let said = concat (codes "undecided at line " ∷ decimal l.number ∷ codes " (event " ∷ decimal l.event ∷ codes ")\n" ∷ []) in
    (said, quote l, refl, refl)
