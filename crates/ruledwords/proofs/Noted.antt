-- Calls whose thread has seen no more of any mutex since.
use Rattle.std.proofs.Common.{Bool, ◌≡◌, ◌≢◌, ℕ, ◌+◌, List, [], ◌∷◌, ◌++◌, Option, refl, sym, ap, ◌∙◌, subst, arith, append_assoc}
use Rattle.facts.specs.Lives.{Act}
use Rattle.posixmutex.specs.declared.point.Operation.{Operation}
use Rattle.mutex.specs.declared.row.Row.{Row}
use Rattle.mutex.specs.Laws.{changes, decided}
use Rattle.mutex.specs.Standings.{Standing}
use Rattle.ruledwords.specs.declared.pass.Card.{Card}
use Rattle.ruledwords.specs.declared.pass.Change.{Change}
use Rattle.ruledwords.specs.Calls.{acts, ExpectsKnown, Stands}
use Rattle.ruledwords.specs.Changes.{ChangedNone, KnowsMoreAt, KnowsOn}
use Rattle.ruledwords.specs.Looks.{KnowsTheSame}
use Rattle.lockword.specs.declared.reply.Reply.{Reply}
use Rattle.lockword.specs.declared.reply.Reply.TheVariants.{OK}
use Rattle.posixmutex.specs.declared.point.Operation.TheVariants.{Lock, Unlock}
use Rattle.posixmutex.specs.declared.point.Point.{Point}
use Rattle.ruledwords.specs.Cards.{at}
use Rattle.ruledwords.specs.Seen.{by, count_acts, points_of, EndsWith, Called, Saw}
use Rattle.ruledwords.specs.Turns.{HasSeenTheSame}
use Rattle.ruledwords.proofs.Changes.{knows_on_at, knows_on_then, more_on, more_same, none_at, none_then, others_stay}

-- who has only noted a word, or a trim
pub seen_noted : (p : ℕ) (c d : Card) → KnowsTheSame c d → KnowsMoreAt c p d → HasSeenTheSame p c d
seen_noted p c d same more = (same ∙ ap (λ (vs : List (Option ℕ)). record c { last = d.last; trims = d.trims; values = vs; changes = d.changes }) (sym (ap (λ (z : Card). z.values) same)), more)

pub seen_stored : (p : ℕ) (c d : Card) (vs : List (Option ℕ)) → d ≡ record c { values = vs } → HasSeenTheSame p c d
seen_stored p c d vs same =
    subst (λ (z : Card). HasSeenTheSame p c z) (sym same) (refl, more_same c record c { values = vs } p refl refl)

pub seen_on : (p : ℕ) (c d e : Card) → HasSeenTheSame p c d → HasSeenTheSame p d e → HasSeenTheSame p c e
seen_on p c d e first more = (more.0 ∙ ap (λ (z : Card). record z { last = e.last; trims = e.trims; values = e.values; changes = e.changes }) first.0, more_on c d e p (ap (λ (z : Card). z.threads) first.0) first.1 more.1)

-- what a call was decided
pub still_called : (c : Card) (p : ℕ) (ds : List Act) (d e : Card) → HasSeenTheSame p d e → Called c p ds d → Called c p ds e
still_called c p ds d e same h = go e.changes same.0 same.1 where
  go : (zs : List (List Change)) → e ≡ record d { last = e.last; trims = e.trims; values = e.values; changes = zs } → KnowsMoreAt d p e → Called c p ds e
  go zs is more =
      let after : Card = record d { last = e.last; trims = e.trims; values = e.values; changes = zs } in
      let on : KnowsMoreAt d p after = subst (KnowsMoreAt d p) is more in
      subst (Called c p ds) (sym is) record {
        saw = record {
          thread = h.saw.thread;
          threads = h.saw.threads;
          base = h.saw.base;
          elsewhere = h.saw.elsewhere;
          since = h.saw.since;
          grows = h.saw.grows;
          own = h.saw.own;
          knows = knows_on_then c d after h.saw.threads h.saw.knows (knows_on_at d after p on);
          still = λ few. none_then (λ x. x ≢ p) (λ x. x ≢ p) c d after h.saw.thread (λ x there. there) (h.saw.still few) (none_at d after p on);
        };
        last = h.last;
      }

-- who has only remembered what was set in cells
pub marked_called : (c : Card) (p : ℕ) (ds : List Act) (d : Card) (n : ℕ) (marks : List Bool) (zs : List (List Change)) → KnowsOn d record d { last = n; marks = marks; changes = zs } → ChangedNone (λ x. x ≢ p) d record d { last = n; marks = marks; changes = zs } → Called c p ds d → Called c p ds record d { last = n; marks = marks; changes = zs }
marked_called c p ds d n marks zs on none h =
    let after : Card = record d { last = n; marks = marks; changes = zs } in record {
      saw = record {
        thread = h.saw.thread;
        threads = h.saw.threads;
        base = h.saw.base;
        elsewhere = h.saw.elsewhere;
        since = h.saw.since;
        grows = h.saw.grows;
        own = h.saw.own;
        knows = knows_on_then c d after h.saw.threads h.saw.knows on;
        still = λ few. none_then (λ x. x ≢ p) (λ x. x ≢ p) c d after h.saw.thread (λ x there. there) (h.saw.still few) none;
      };
      last = h.last;
    }

pub still_stands : (op : Operation) (first : Row) (q : ℕ) (c : Card) (p : Standing) (d e : Card) → HasSeenTheSame q d e → ExpectsKnown p.row q e → Stands op first q c p d → Stands op first q c p e
still_stands op first q c p d e same expects s = record {
  of = s.of;
  called = still_called c q (acts op (decided p.row)) d e same s.called;
  answers = s.answers;
  reaches = s.reaches;
  misses = ap (λ (z : Card). z.misses) same.0 ∙ s.misses;
  knows = more_on c d e q s.called.saw.threads s.knows same.1;
  expects = expects;
  others = others_stay (changes s.answers) c.thread s.knows.here.0 same.1.here.0 s.others;
}

-- ---- two calls of a thread on one mutex, one after the other

points_append : (t p : ℕ) (xs ys : List Act) → points_of t p (xs ++ ys) ≡ points_of t p xs ++ points_of t p ys
points_append t p [] ys = refl
points_append t p (x ∷ xs) ys = ap (λ (l : List Point). record { thread = t; at = p; operation = x.0; reply = x.1 } ∷ l) (points_append t p xs ys)

count_append : (xs ys : List Act) → count_acts (xs ++ ys) ≡ count_acts xs + count_acts ys
count_append [] ys = omega arith
count_append (x ∷ xs) ys = let more = count_append xs ys in omega arith

-- what it saw in both
pub saw_on : (c : Card) (p : ℕ) (xs ys : List Act) (d e : Card) → Saw c p xs d → Saw d p ys e → Saw c p (xs ++ ys) e
saw_on c p xs ys d e first more = record {
  thread = more.thread ∙ first.thread;
  threads = more.threads ∙ first.threads;
  base = more.base ∙ first.base;
  elsewhere = λ q other. more.elsewhere q other ∙ first.elsewhere q other;
  since = first.since ++ more.since;
  grows = more.grows ∙ ap (λ (l : List Point). l ++ more.since) first.grows ∙ append_assoc (at c.seen p) first.since more.since;
  own = subst (λ (t : ℕ). by t (at e.seen p) ≡ by t (at d.seen p) ++ points_of t p ys) first.thread more.own ∙ ap (λ (l : List Point). l ++ points_of c.thread p ys) first.own
      ∙ append_assoc (by c.thread (at c.seen p)) (points_of c.thread p xs) (points_of c.thread p ys) ∙ ap (λ (l : List Point). by c.thread (at c.seen p) ++ l) (sym (points_append c.thread p xs ys));
  knows = knows_on_then c d e first.threads first.knows more.knows;
  still = λ few.
      let both = count_append xs ys in
      none_then (λ x. x ≢ p) (λ x. x ≢ p) c d e first.thread (λ x there. there) (first.still (omega arith)) (more.still (omega arith));
}

-- a wait that released its mutex and took it again: its two points, of which the second is the last that its thread has seen
pub waited : (c : Card) (p : ℕ) (x : Reply) (d e : Card) → Called c p ((Unlock, OK) ∷ []) d → Called d p ((Lock, x) ∷ []) e → Called c p ((Unlock, OK) ∷ (Lock, x) ∷ []) e
waited c p x d e first more = record {
  saw = saw_on c p ((Unlock, OK) ∷ []) ((Lock, x) ∷ []) d e first.saw more.saw;
  last = subst (λ (t : ℕ). EndsWith (at e.seen p) (points_of t p ((Lock, x) ∷ []))) first.saw.thread more.last;
}
