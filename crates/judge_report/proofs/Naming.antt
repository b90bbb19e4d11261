-- What is written after a legal verdict: a line for each window, and one for each call that still waits and shouldn't.
use Rattle.std.proofs.Common.{Vec, ◌≡◌, ℕ, zero, suc, ◌-◌, ◌<◌, ◌≤◌, List, [], ◌∷◌, ◌++◌, map, reverse, Option, Some, append_assoc, refl, sym, ap, ◌∙◌, arith, Bool, true, false, None}
use Rattle.std.specs.Prelude.{codes, count_by, decimal}
use Rattle.std.specs.declared.alloc.Global.{Global}
use Rattle.std.specs.List.{Contains, concat, slice_get}
use Rattle.lockword.specs.Threads.{named_threads}
use Rattle.facts.specs.declared.fact.Begun.{Begun}
use Rattle.verdict.specs.Earlier.{call_in, objects_after, told_of}
use Rattle.histories.specs.declared.entry.Entry.{Entry}
use Rattle.histories.specs.declared.entry.HistoryLine.{HistoryLine}
use Rattle.certificates.specs.declared.waiting.Waiter.{Waiter}
use Rattle.certificates.specs.Certificates.{is_doomed, is_point_step, trace_of}
use Rattle.certificates.specs.Laws.{IsStuck}
use Rattle.certificates.specs.Waiters.{waiters}
use Rattle.certificates.proofs.Members.{named_are_stuck, stuck_are_named}
use Rattle.judge.specs.declared.judging.Judgement.TheVariants.{Legal}
use Rattle.judge_report.specs.declared.keeping.Cut.{Cut}
use Rattle.judge_report.specs.Heard.{Heard}
use Rattle.judge_report.specs.Laws.{WaitersAreNamed, WindowsAreInOrder, state_words, window_lines}
use Rattle.judge_report.specs.Said.{IsSaid, named}
use Rattle.judge_report.specs.Texts.{cut_text, cuts_text, legal_text, line_of, quote_of, since_note, since_words, waiter_text, waiters_text}
use Rattle.judge_report.proofs.Options.{joined_whole}

-- ---- windows

lines_of_cuts : (cs : List Cut) → cuts_text cs ≡ window_lines cs
lines_of_cuts [] = refl
lines_of_cuts (c ∷ cs) = ap (λ (more : List ℕ). cut_text c ++ more) (lines_of_cuts cs)

pub windows_in_order : (Makes Fills : List ℕ → Option (List ℕ) → Type 0) → WindowsAreInOrder Makes Fills
windows_in_order Makes Fills = record {
  joined = joined_whole Makes Fills;
  written = λ waiting k steps cuts text said. (
    legal_text (count_by is_point_step steps.items) (reverse k.seen),
    waiters_text (reverse k.seen) (named waiting steps.items),
    said.1 ∙ ap (λ (lines : List ℕ). legal_text (count_by is_point_step steps.items) (reverse k.seen) ++ (lines ++ waiters_text (reverse k.seen) (named waiting steps.items))) (lines_of_cuts cuts),
  );
}

-- ---- calls that still wait

-- one of the texts that stand one after the other
part_of : {X : Type 0} (f : X → List ℕ) (xs : List X) (x : X) → Contains xs x → (before after : List ℕ) × (concat (map f xs) ≡ before ++ (f x ++ after))
part_of f [] x (k, few, is) = absurd (omega (arith, few))
part_of f (y ∷ xs) x (zero, few, is) = ([], concat (map f xs), ap (λ z. f z ++ concat (map f xs)) is)
part_of f (y ∷ xs) x (suc k, few, is) =
    let more = part_of f xs x (k, omega (arith, few), is) in
    (f y ++ more.0, more.1, ap (λ (text : List ℕ). f y ++ text) more.2 ∙ sym (append_assoc (f y) more.0 (f x ++ more.1)))

titled : (x y more : List ℕ) → (x ++ (codes " for m" ++ (y ++ []))) ++ more ≡ x ++ (codes " for m" ++ (y ++ more))
titled x y more = append_assoc x (codes " for m" ++ (y ++ [])) more ∙ ap (λ (z : List ℕ). x ++ (codes " for m" ++ z)) (append_assoc y [] more)

abbrev after_title : List HistoryLine → Waiter → List ℕ
after_title ls w = since_words w.unusable (line_of ls w.since) ++ (quote_of (slice_get ls (w.begin - 1)) ++ since_note (line_of ls w.since))

abbrev title : ℕ → ℕ → List ℕ → List ℕ
title t m more = codes "still waits: t" ++ (decimal t ++ (codes " for m" ++ (decimal m ++ more)))

waiter_begins : (ls : List HistoryLine) (w : Waiter) → waiter_text ls w ≡ title w.thread w.mutex (after_title ls w)
waiter_begins ls w = ap (λ (z : List ℕ). codes "still waits: t" ++ z) (titled (decimal w.thread) (decimal w.mutex) (after_title ls w))

title_more : (t m : ℕ) (x y : List ℕ) → title t m x ++ y ≡ title t m (x ++ y)
title_more t m x y = ap (λ (z : List ℕ). codes "still waits: t" ++ z) (append_assoc (decimal t) (codes " for m" ++ (decimal m ++ x)) y ∙ ap (λ (z : List ℕ). decimal t ++ (codes " for m" ++ z)) (append_assoc (decimal m) x y))

placed : (legal cuts before more : List ℕ) → legal ++ (cuts ++ (before ++ more)) ≡ (legal ++ (cuts ++ before)) ++ more
placed legal cuts before more = ap (λ (z : List ℕ). legal ++ z) (sym (append_assoc cuts before more)) ∙ sym (append_assoc legal (cuts ++ before) more)

-- what is said first of the mutex
state_begins : (b : Bool) (o : Option HistoryLine) → (rest : List ℕ) × (since_words b o ≡ state_words b ++ rest)
state_begins true None = (codes "\n", refl)
state_begins false None = (codes "has owned\n", refl)
state_begins true (Some l) = (concat (codes " since line " ∷ decimal l.number ∷ codes " (event " ∷ decimal l.event ∷ codes ")\n" ∷ []), refl)
state_begins false (Some l) = (concat (codes "owns since line " ∷ decimal l.number ∷ codes " (event " ∷ decimal l.event ∷ codes ")\n" ∷ []), refl)

each_named : (k : Heard) (steps : Vec Entry Global) (cuts : List Cut) (text : List ℕ) (t : ℕ) (call : Begun) → IsSaid true k (Legal steps) cuts text → 0 < t → t ≤ named_threads → IsStuck t (trace_of (reverse steps.items)) call → is_doomed t (reverse steps.items) ≡ false
    → (before after : List ℕ) × (text ≡ before ++ title t call.mutex (state_words (objects_after (trace_of (reverse steps.items)) call.mutex).unusable ++ after))
each_named k steps cuts text t call said some few stuck alive =
    let ls : List HistoryLine = reverse k.seen in
    let legal : List ℕ = legal_text (count_by is_point_step steps.items) ls in
    let is_named = stuck_are_named t steps.items call some few stuck alive in
    let w : Waiter = is_named.0 in
    let of = named_are_stuck k.head.mutexes ls steps.items w said.0.certificate is_named.2 in
    let thread : w.thread ≡ t = is_named.1 in
    let same : Some of.call ≡ Some call = sym of.stuck.in_call ∙ ap (λ (u : ℕ). call_in (told_of u (trace_of (reverse steps.items)))) thread ∙ stuck.in_call in
    let calls : of.call ≡ call = cc in
    let mutex : w.mutex ≡ call.mutex = of.mutex ∙ ap (λ (c : Begun). c.mutex) calls in
    let unusable : w.unusable ≡ (objects_after (trace_of (reverse steps.items)) call.mutex).unusable = of.unusable ∙ ap (λ (m : ℕ). (objects_after (trace_of (reverse steps.items)) m).unusable) mutex in
    let part = part_of (waiter_text ls) (waiters (reverse steps.items)) w is_named.2 in
    let state = state_begins w.unusable (line_of ls w.since) in
    let behind : List ℕ = quote_of (slice_get ls (w.begin - 1)) ++ since_note (line_of ls w.since) in
    let after : List ℕ = state.0 ++ (behind ++ part.1) in
    let says : after_title ls w ++ part.1 ≡ state_words (objects_after (trace_of (reverse steps.items)) call.mutex).unusable ++ after =
    append_assoc (since_words w.unusable (line_of ls w.since)) behind part.1 ∙ ap (λ (z : List ℕ). z ++ (behind ++ part.1)) state.1
    ∙ append_assoc (state_words w.unusable) state.0 (behind ++ part.1) ∙ ap (λ (b : Bool). state_words b ++ after) unusable in
    let begins : waiter_text ls w ++ part.1 ≡ title t call.mutex (after_title ls w ++ part.1) =
    ap (λ (z : List ℕ). z ++ part.1) (waiter_begins ls w) ∙ title_more w.thread w.mutex (after_title ls w) part.1
    ∙ ap (λ (u : ℕ). title u w.mutex (after_title ls w ++ part.1)) thread ∙ ap (λ (m : ℕ). title t m (after_title ls w ++ part.1)) mutex in (
      legal ++ (cuts_text cuts ++ part.0),
      after,
      said.1 ∙ ap (λ (z : List ℕ). legal ++ (cuts_text cuts ++ z)) part.2 ∙ ap (λ (z : List ℕ). legal ++ (cuts_text cuts ++ (part.0 ++ z))) (begins ∙ ap (title t call.mutex) says)
          ∙ placed legal (cuts_text cuts) part.0 (title t call.mutex (state_words (objects_after (trace_of (reverse steps.items)) call.mutex).unusable ++ after)),
    )

ends_there : (xs : List ℕ) → xs ++ [] ≡ xs
ends_there [] = refl
ends_there (x ∷ xs) = ap (λ (zs : List ℕ). x ∷ zs) (ends_there xs)

pub waiters_named : WaitersAreNamed
waiters_named = record {
  each = each_named;
  unasked = λ k steps cuts text said. (
    count_by is_point_step steps.items,
    said.1 ∙ ap (λ (z : List ℕ). legal_text (count_by is_point_step steps.items) (reverse k.seen) ++ z) (ends_there (cuts_text cuts) ∙ lines_of_cuts cuts),
  );
}
