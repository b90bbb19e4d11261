use Rattle.std.proofs.Common.{◌≡◌, ◌<◌, ◌∙◌, ◌++◌, ◌∷◌, [], List, ap, sym, arith, length, map}
use Rattle.std.proofs.lemmas.List.{map_push}
use Rattle.std.proofs.lemmas.List.FromFn.{map-range_with_len_more}
use Rattle.outcomes.specs.declared.outcome.Ended.{Ended}
use Rattle.outcomes.specs.Positions.{Place, place_of}
use Rattle.outcomes.specs.Outcomes.{ended, ended_in}
use Rattle.outcomes.specs.Kept.{places_in, position_in}
use Rattle.outcomes.specs.declared.kept.Life.{Life}
use Rattle.outcomes.proofs.Lives.{place_read}
use Rattle.outcomes.proofs.reading.ended_threads.Goals as goal

pub loop-before-preserved : goal.loop-before-preserved
loop-before-preserved c =
    let plan = c.args.plan.now in
    let p = position_in plan.layout c.args.kept.now in
    let t = c.in-Some.thread in
    let i = c.from-in-loop-before.result in
    let at = c.from-in-loop-before.ensures in
    let id = c.in-Some.ensures.1 in
    let n = c.threads-count.ensures.value in
    let below = c.loop-before-test.true in
    let lives = c.requires.lives in
    let long = ap (λ (ls : List Life). length ls) c.lives-lives.ensures in
    let lt : i < length c.lives-lives.result.now = omega arith in
    let place = ap (λ (ls : List Life). place_of (places_in ls) t) (sym c.lives-lives.ensures) ∙ place_read c.lives-lives.result.now i t c.index-lives-from.result (omega arith) lt c.index-lives-from.is in
    let replies : c.in_ok-replies.replies.items ≡ (place_of p.places t).replies = c.in_ok-replies.ensures.items ∙ c.deref.ensures.value ∙ ap (λ (l : Life). l.replies.items) (sym c.index-lives-from.is) ∙ ap (λ (z : Place). z.replies) (sym place) in
    let one : record { replies = c.in_ok-replies.replies.items; end = c.end_of-end.result } ≡ ended plan p t = (λ j. record { replies = replies j; end = c.end_of-end.ensures j }) in
    ap (λ (es : List Ended). map ended_in es) c.in_ok-add.ensures
    ∙ map_push ended_in c.loop-before.threads.items (record { replies = c.in_ok-replies.replies; end = c.end_of-end.result })
    ∙ (λ j. c.loop-before.invariant j ++ one j ∷ [])
    ∙ sym (map-range_with_len_more (ended plan p) 1 c.loop-before.before t (omega arith))
