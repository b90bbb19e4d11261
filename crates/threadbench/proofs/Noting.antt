-- One note more, one parker, or one bucket.
use Rattle.std.proofs.Common.{◌≡◌, ℕ, ◌+◌, ◌<◌, Some, List, [], ◌∷◌, ◌++◌, length, get_or, sym, ap, ◌∙◌, arith}
use mathlib.Core.Logic.{dite}
use native.Mathlib.Decide.{ℕ_discrete}
use Rattle.std.proofs.Math.ListN.{get_or-append}
use Rattle.std.proofs.Math.Seq.{get_or-append_seam}
use Rattle.std.proofs.lemmas.List.{length-append}
use Rattle.std.proofs.lemmas.Option.{get_or_from_slice_get, slice_get-get_or, slice_get_within}
use Rattle.threadbench.specs.declared.kill.note.Note.{Note}
use Rattle.threadbench.specs.declared.numbered.Numbered.{Numbered}
use Rattle.threadbench.specs.declared.parker.Parker.{Parker}
use Rattle.threadbench.specs.Buckets.{AreNumbered}
use Rattle.threadbench.specs.Notes.{AreNotes}
use Rattle.threadbench.specs.Parkers.{AreParkers}

pub one_more_note : (notes : List Note) (n : Note) → AreNotes notes → n.thread ≡ length notes + 1 → AreNotes (notes ++ n ∷ [])
one_more_note notes n are is = λ i m there.
    let within = slice_get_within (notes ++ n ∷ []) i m there in
    let long = length-append notes (n ∷ []) in
    let found = get_or_from_slice_get (notes ++ n ∷ []) i m m there in
    dite (ℕ_discrete i (length notes))
    (λ (last : i ≡ length notes).
    let same : n ≡ m = sym (get_or-append_seam notes n [] m) ∙ ap (λ (j : ℕ). get_or (notes ++ n ∷ []) j m) (sym last) ∙ found in
    ap (λ (x : Note). x.thread) (sym same) ∙ is ∙ ap (λ (j : ℕ). j + 1) (sym last))
    (λ other.
    let low : i < length notes = omega (arith, within, long, other) in
    let before : get_or notes i m ≡ m = sym (get_or-append notes (n ∷ []) m i low) ∙ found in
    are i m (slice_get-get_or notes i m low ∙ ap (λ (x : Note). Some x) before))

pub one_more_parker : (parkers : List Parker) (n : Parker) → AreParkers parkers → n.thread ≡ length parkers + 1 → AreParkers (parkers ++ n ∷ [])
one_more_parker parkers n are is = λ i m there.
    let within = slice_get_within (parkers ++ n ∷ []) i m there in
    let long = length-append parkers (n ∷ []) in
    let found = get_or_from_slice_get (parkers ++ n ∷ []) i m m there in
    dite (ℕ_discrete i (length parkers))
    (λ (last : i ≡ length parkers).
    let same : n ≡ m = sym (get_or-append_seam parkers n [] m) ∙ ap (λ (j : ℕ). get_or (parkers ++ n ∷ []) j m) (sym last) ∙ found in
    ap (λ (x : Parker). x.thread) (sym same) ∙ is ∙ ap (λ (j : ℕ). j + 1) (sym last))
    (λ other.
    let low : i < length parkers = omega (arith, within, long, other) in
    let before : get_or parkers i m ≡ m = sym (get_or-append parkers (n ∷ []) m i low) ∙ found in
    are i m (slice_get-get_or parkers i m low ∙ ap (λ (x : Parker). Some x) before))

pub one_more_bucket : (buckets : List Numbered) (n : Numbered) → AreNumbered buckets → n.number ≡ length buckets → AreNumbered (buckets ++ n ∷ [])
one_more_bucket buckets n are is = λ i m there.
    let within = slice_get_within (buckets ++ n ∷ []) i m there in
    let long = length-append buckets (n ∷ []) in
    let found = get_or_from_slice_get (buckets ++ n ∷ []) i m m there in
    dite (ℕ_discrete i (length buckets))
    (λ (last : i ≡ length buckets).
    let same : n ≡ m = sym (get_or-append_seam buckets n [] m) ∙ ap (λ (j : ℕ). get_or (buckets ++ n ∷ []) j m) (sym last) ∙ found in
    ap (λ (x : Numbered). x.number) (sym same) ∙ is ∙ sym last)
    (λ other.
    let low : i < length buckets = omega (arith, within, long, other) in
    let before : get_or buckets i m ≡ m = sym (get_or-append buckets (n ∷ []) m i low) ∙ found in
    are i m (slice_get-get_or buckets i m low ∙ ap (λ (x : Numbered). Some x) before))
