-- Calls after a meeting.
use Rattle.std.proofs.Common.{◌≡◌, ℕ, List, [], ◌∷◌, ◌++◌, sym, ap, ◌∙◌, subst}
use mathlib.Core.List.{IsPrefix}
use Rattle.posixmutex.specs.declared.point.Point.{Point}
use Rattle.facts.specs.Lives.{Act}
use Rattle.ruledwords.specs.declared.pass.Card.{Card}
use Rattle.ruledwords.specs.Cards.{at}
use Rattle.ruledwords.specs.Meetings.{StandsBehind, MeetingsOrderCalls}
use Rattle.ruledwords.specs.Seen.{by, points_of, Saw}
use Rattle.ruledwords.proofs.Lists.{by_append}

same_rest : (xs ys zs : List Point) → xs ++ ys ≡ xs ++ zs → ys ≡ zs
same_rest [] ys zs e = e
same_rest (x ∷ xs) ys zs e = same_rest xs ys zs (cc e)

stands : (seen : List (List Point)) (c d d' e : Card) (p : ℕ) (acts : List Act) → d' ≡ record d { seen = seen } → IsPrefix (at c.seen p) (at seen p) → Saw d' p acts e → StandsBehind c d.thread p acts e
stands seen c d d' e p acts is first saw =
    let there : at d'.seen p ≡ at seen p = ap (λ (z : Card). at z.seen p) is in
    let thread : d'.thread ≡ d.thread = ap (λ (z : Card). z.thread) is in
    let t : ℕ = d'.thread in
    let before : List Point = at d'.seen p in record {
      before = before;
      behind = saw.since;
      all = saw.grows;
      first = subst (IsPrefix (at c.seen p)) (sym there) first;
      own = subst (λ (u : ℕ). by u saw.since ≡ points_of u p acts) thread (same_rest (by t before) (by t saw.since) (points_of t p acts) (sym (by_append t before saw.since) ∙ ap (by t) (sym saw.grows) ∙ saw.own));
    }

pub ordered : MeetingsOrderCalls
ordered c d c' d' e p acts joined = (
  stands joined.seen c d d' e p acts joined.second (joined.begins p).0,
  stands joined.seen d c c' e p acts joined.first (joined.begins p).1,
)
