use Rattle.std.proofs.Common.{ℕ, ◌≤◌, refl, subst, sym, ◌∙◌}
use Rattle.ruledwords.specs.declared.uncrossed.Crossed.TheVariants.{Locking, Meeting}
use Rattle.robustlist.specs.declared.link.LinkRow.TheVariants.{LoadFirst}
use Rattle.ruledwords.specs.InLine.{announcing_lock, linking, loading_lock, taking}
use Rattle.ruledwords.proofs.InLine.{behind, free_knows, leads_across, leads_on, misses, stopped, to_link, to_take}
use Rattle.ruledwords.proofs.Stepping.{◌⨾◌, went_nowhere}
use Rattle.ruledwords.proofs.pass.Words.lock_in_line.Goals as goal

pub returns-in_err-find : goal.returns-in_err-find
returns-in_err-find g c =
    let l = c.args.line.now in
    stopped l announcing_lock _ _ _ (went_nowhere _ _ c.requires.call) c.at-announcing.ensures c.in_err-find.ensures c.from_residual.ensures.1

pub returns-in_err-word : goal.returns-in_err-word
returns-in_err-word g c =
    let l = c.args.line.now in
    let one = leads_on l announcing_lock loading_lock c.at-announcing.ensures refl tt c.in_ok-find.ensures in
    stopped l loading_lock _ _ _ one c.at-loading.ensures c.in_err-word.ensures c.from_residual-in_err-word.ensures.1

pub returns-then-not-is_free : goal.returns-then-not-is_free
returns-then-not-is_free g c =
    let l = c.args.line.now in
    let one = leads_on l announcing_lock loading_lock c.at-announcing.ensures refl tt c.in_ok-find.ensures in
    leads_across l (Locking c.in_ok-word.word) one c.at-loading.ensures (tt, tt) refl c.in_ok-word.ensures

pub returns-in_err-met : goal.returns-in_err-met
returns-in_err-met g c =
    let l = c.args.line.now in
    let s = c.new-seen.result in
    let pos = subst (λ (t : ℕ). 1 ≤ t) (sym c.requires.call.ready.0) c.requires.call.words.0.1.first in
    let one = leads_on l announcing_lock loading_lock c.at-announcing.ensures refl tt c.in_ok-find.ensures in
    let two = one ⨾ leads_on l loading_lock (taking s) c.at-loading.ensures (to_take l c.in_ok-word.word s c.new-seen.ensures pos (sym c.is_free.ensures ∙ c.if-not-is_free.false)) tt c.in_ok-word.ensures in
    stopped l (taking s) _ _ _ two c.at-taking.ensures c.in_err-met.ensures c.from_residual-in_err-met.ensures.1

pub link_in_line-requires-clause-call : goal.link_in_line-requires-clause-call
link_in_line-requires-clause-call g c =
    let l = c.args.line.now in
    let s = c.new-seen.result in
    let free = sym c.is_free.ensures ∙ c.if-not-is_free.false in
    let three = leads_on l (taking s) (linking l LoadFirst) c.at-taking.ensures (to_link l s c.in_ok-met.met c.requires.operation free (c.if-met-word.true ∙ c.word.ensures.value)) tt c.in_ok-met.ensures in
    three.came.0

pub returns-then-met-word : goal.returns-then-met-word
returns-then-met-word g c =
    let l = c.args.line.now in
    let s = c.new-seen.result in
    let free = sym c.is_free.ensures ∙ c.if-not-is_free.false in
    let pos = subst (λ (t : ℕ). 1 ≤ t) (sym c.requires.call.ready.0) c.requires.call.words.0.1.first in
    let one = leads_on l announcing_lock loading_lock c.at-announcing.ensures refl tt c.in_ok-find.ensures in
    let two = one ⨾ leads_on l loading_lock (taking s) c.at-loading.ensures (to_take l c.in_ok-word.word s c.new-seen.ensures pos free) tt c.in_ok-word.ensures in
    let three = two ⨾ leads_on l (taking s) (linking l LoadFirst) c.at-taking.ensures (to_link l s c.in_ok-met.met c.requires.operation free (c.if-met-word.true ∙ c.word.ensures.value)) tt c.in_ok-met.ensures in
    behind l _ _ three c.link_in_line.ensures

pub returns : goal.returns
returns g c =
    let l = c.args.line.now in
    let s = c.new-seen.result in
    let free = sym c.is_free.ensures ∙ c.if-not-is_free.false in
    let pos = subst (λ (t : ℕ). 1 ≤ t) (sym c.requires.call.ready.0) c.requires.call.words.0.1.first in
    let one = leads_on l announcing_lock loading_lock c.at-announcing.ensures refl tt c.in_ok-find.ensures in
    let two = one ⨾ leads_on l loading_lock (taking s) c.at-loading.ensures (to_take l c.in_ok-word.word s c.new-seen.ensures pos free) tt c.in_ok-word.ensures in
    leads_across l (Meeting s c.in_ok-met.met) two c.at-taking.ensures (tt, free_knows s free) (misses l s c.in_ok-met.met (λ is. c.if-met-word.false (is ∙ sym c.word.ensures.value))) c.in_ok-met.ensures
