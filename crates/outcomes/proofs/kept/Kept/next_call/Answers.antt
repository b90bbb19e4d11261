use Rattle.std.proofs.Common.{arith, ◌∙◌, ap, Option, drop, ◌≡◌}
use Rattle.lockword.specs.declared.reply.Reply.{Reply}
use Rattle.outcomes.specs.Plans.{next_among, last_reply}
use Rattle.outcomes.specs.declared.plan.Item.{Item}
use Rattle.outcomes.proofs.Lives.{next_none, next_first, next_read}
use Rattle.outcomes.specs.Kept.{places_in}
use Rattle.outcomes.specs.Positions.{next_call}
use Rattle.outcomes.specs.declared.kept.Life.{Life}
use Rattle.std.proofs.Common.{List, None}
use Rattle.outcomes.proofs.kept.Kept.next_call.Goals as goal

pub returns-then-index-len : goal.returns-then-index-len
returns-then-index-len c = next_none c.args.plan.now (places_in c.args.self.now.lives.value.items) c.as_index-index.result c.args.thread c.as_index-index.ensures (let n = c.len.ensures in let past = c.if-index-len.true in omega arith)

pub returns-then-index-lives : goal.returns-then-index-lives
returns-then-index-lives c =
    c.next_among.ensures ∙ ap (λ (xs : List Item). next_among None 0 (drop 0 xs)) c.deref.ensures.value
    ∙ next_first c.args.plan.now c.lives-lives.result.now c.as_index-index.result c.args.thread c.index-items.result.now c.as_index-index.ensures (let n = c.len.ensures in let below = c.if-index-len.false in omega arith) c.index-items.ensures
    (let past = c.if-index-lives.true in omega arith)
    ∙ ap (λ (ls : List Life). next_call c.args.plan.now (places_in ls) c.args.thread) c.lives-lives.ensures

pub returns : goal.returns
returns c =
    let life = c.index-lives-index.result in
    let last : c.copied.result ≡ last_reply life.replies.items = (c.copied.ensures ∙ c.last.ensures.value ∙ ap (λ (rs : List Reply). last_reply rs) c.deref-3.ensures.value) in
    c.next_among-2.ensures ∙ ap (λ (xs : List Item). next_among c.copied.result life.at (drop life.at xs)) c.deref-2.ensures.value
    ∙ ap (λ (x : Option Reply). next_among x life.at (drop life.at c.index-items.result.now.items)) last
    ∙ next_read c.args.plan.now c.lives-lives.result.now c.as_index-index.result c.args.thread c.index-items.result.now life c.as_index-index.ensures (let n = c.len.ensures in let below = c.if-index-len.false in omega arith) c.index-items.ensures
    (let below = c.if-index-lives.false in omega arith) c.index-lives-index.is
    ∙ ap (λ (ls : List Life). next_call c.args.plan.now (places_in ls) c.args.thread) c.lives-lives.ensures
