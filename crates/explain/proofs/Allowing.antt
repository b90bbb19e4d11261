-- The replies that pass the test are those that the object's step permits, and how they are said one by one.
use Rattle.std.proofs.Common.{◌≡◌, ◌≢◌, ℕ, ◌+◌, ◌<◌, ◌≤◌, ◌&&◌, ◌||◌, Bool, true, false, not, List, ◌++◌, length, get_or, drop, Option, Some, None, refl, sym, ap, ◌∙◌, append_assoc}
use Rattle.std.specs.Option.{is_none, is_some}
use Rattle.std.proofs.lemmas.Bool.{and_parts}
use Rattle.std.proofs.lemmas.List.{at_drop_all, at_drop_more}
use Rattle.lockword.specs.declared.reply.Reply.{Reply}
use Rattle.lockword.specs.declared.reply.Reply.TheVariants.{OK, EPERM, EBUSY, EINVAL, EDEADLK, ETIMEDOUT, EOWNERDEAD, ENOTRECOVERABLE, XRACED, XFULL, XSTATE}
use Rattle.posixmutex.specs.Histories.{is_thread}
use Rattle.posixmutex.specs.Objects.{Permits, bereaved, declared_consistent, freed, fresh, owned_by}
use Rattle.posixmutex.specs.declared.object.Object.{Object}
use Rattle.posixmutex.specs.declared.point.Operation.{Operation}
use Rattle.posixmutex.specs.declared.point.Operation.TheVariants.{Lock, TryLock, TimedLock, Unlock, Consistent, Wait, Signal, Broadcast, Death, Reinit}
use Rattle.verdict.proofs.Misfits.{is_owner}
use Rattle.verdict.proofs.Owners.{not_owner, owns_itself}
use Rattle.explain.specs.declared.explanation.Standing.{Standing}
use Rattle.explain.specs.Allowed.{AllowedArePermitted, IsPermitted, allowed_words, allows, end_words, is_free, reply_words, standing_of}

-- ---- tests of a mutex's fields

not_then : (b : Bool) → not b ≡ true → b ≡ false
not_then false h = refl
not_then true h = absurd (cc h)

both : (a b : Bool) → a ≡ true → b ≡ true → (a && b) ≡ true
both true b e f = f
both false b e f = absurd (cc e)

none_then : (w : Option ℕ) → is_none w ≡ true → w ≡ None
none_then None h = refl
none_then (Some u) h = absurd (cc h)

some_then : (w : Option ℕ) → not (is_none w) ≡ true → w ≢ None
some_then None h e = absurd (cc h)
some_then (Some u) h e = absurd (cc e)

then_some : (w : Option ℕ) → w ≢ None → not (is_none w) ≡ true
then_some None other = absurd (other refl)
then_some (Some u) other = refl

other_then : (t : ℕ) (w : Option ℕ) → not (is_thread t w) ≡ true → w ≢ Some t
other_then t w h e = absurd (cc (owns_itself t w e, not_then (is_thread t w) h))

then_other : (t : ℕ) (w : Option ℕ) → w ≢ Some t → not (is_thread t w) ≡ true
then_other t w other = ap not (not_owner t w other)

free_then : (o : Object) (t : ℕ) → is_free (standing_of o t) ≡ true → (o.unusable ≡ false) × (o.owner ≡ None)
free_then o t h = let a = and_parts (is_none o.owner) (not o.unusable) h in (not_then o.unusable a.1, none_then o.owner a.0)

then_free : (o : Object) (t : ℕ) → o.unusable ≡ false → o.owner ≡ None → is_free (standing_of o t) ≡ true
then_free o t u w = both (is_none o.owner) (not o.unusable) (ap is_none w) (ap not u)

-- ---- a reply that passes

passes : (o : Object) (t : ℕ) (op : Operation) (r : Reply) → allows (standing_of o t) op r ≡ true → IsPermitted o t op r
passes o t Lock OK h =
    let a = and_parts (is_free (standing_of o t)) (not o.inconsistent) h in
    let f = free_then o t a.0 in
    (owned_by o t, (f.0, f.1, not_then o.inconsistent a.1, refl))
passes o t Lock EOWNERDEAD h =
    let a = and_parts (is_free (standing_of o t)) o.inconsistent h in
    let f = free_then o t a.0 in
    (owned_by o t, (f.0, f.1, a.1, refl))
passes o t Lock ENOTRECOVERABLE h = (o, (h, refl))
passes o t Lock EDEADLK h = (o, (is_owner t o.owner h, refl))
passes o t TryLock OK h =
    let a = and_parts (is_free (standing_of o t)) (not o.inconsistent) h in
    let f = free_then o t a.0 in
    (owned_by o t, (f.0, f.1, not_then o.inconsistent a.1, refl))
passes o t TryLock EOWNERDEAD h =
    let a = and_parts (is_free (standing_of o t)) o.inconsistent h in
    let f = free_then o t a.0 in
    (owned_by o t, (f.0, f.1, a.1, refl))
passes o t TryLock ENOTRECOVERABLE h = (o, (h, refl))
passes o t TryLock EBUSY h = (o, (some_then o.owner h, refl))
passes o t TryLock XRACED h = let f = free_then o t h in (o, (f.0, f.1, refl))
passes o t TimedLock ETIMEDOUT h = (o, refl)
passes o t Unlock OK h = (freed o, (is_owner t o.owner h, refl))
passes o t Unlock EPERM h = (o, (other_then t o.owner h, refl))
passes o t Consistent OK h =
    let a = and_parts (is_thread t o.owner) o.inconsistent h in
    (declared_consistent o, (is_owner t o.owner a.0, a.1, refl))
passes o t Consistent EINVAL h =
    let a = and_parts (is_thread t o.owner) (not o.inconsistent) h in
    (o, (is_owner t o.owner a.0, not_then o.inconsistent a.1, refl))
passes o t Consistent EPERM h = (o, (other_then t o.owner h, refl))
passes o t Wait XSTATE h =
    let a = and_parts (is_thread t o.owner) o.inconsistent h in
    (o, (is_owner t o.owner a.0, a.1, refl))
passes o t Wait EPERM h = (o, (other_then t o.owner h, refl))
passes o t Signal OK h = (o, (is_owner t o.owner h, refl))
passes o t Signal XFULL h = (o, (is_owner t o.owner h, refl))
passes o t Signal EPERM h = (o, (other_then t o.owner h, refl))
passes o t Broadcast OK h = (o, (is_owner t o.owner h, refl))
passes o t Broadcast XFULL h = (o, (is_owner t o.owner h, refl))
passes o t Broadcast EPERM h = (o, (other_then t o.owner h, refl))
passes o t Death OK h = (bereaved o, (is_owner t o.owner h, refl))
passes o t Reinit OK h =
    let a = and_parts (is_none o.owner) o.unusable h in
    (fresh, (a.1, none_then o.owner a.0, refl))
passes o t op r h = absurd (cc h)

-- ---- a reply that is permitted

passed : (o : Object) (t : ℕ) (op : Operation) (r : Reply) (n : Object) → Permits o t op r n → allows (standing_of o t) op r ≡ true
passed o t Lock OK n p = both (is_free (standing_of o t)) (not o.inconsistent) (then_free o t p.0 p.1) (ap not p.2)
passed o t Lock EOWNERDEAD n p = both (is_free (standing_of o t)) o.inconsistent (then_free o t p.0 p.1) p.2
passed o t Lock ENOTRECOVERABLE n p = p.0
passed o t Lock EDEADLK n p = owns_itself t o.owner p.0
passed o t TryLock OK n p = both (is_free (standing_of o t)) (not o.inconsistent) (then_free o t p.0 p.1) (ap not p.2)
passed o t TryLock EOWNERDEAD n p = both (is_free (standing_of o t)) o.inconsistent (then_free o t p.0 p.1) p.2
passed o t TryLock ENOTRECOVERABLE n p = p.0
passed o t TryLock EBUSY n p = then_some o.owner p.0
passed o t TryLock XRACED n p = then_free o t p.0 p.1
passed o t TimedLock ETIMEDOUT n p = refl
passed o t Unlock OK n p = owns_itself t o.owner p.0
passed o t Unlock EPERM n p = then_other t o.owner p.0
passed o t Consistent OK n p = both (is_thread t o.owner) o.inconsistent (owns_itself t o.owner p.0) p.1
passed o t Consistent EINVAL n p = both (is_thread t o.owner) (not o.inconsistent) (owns_itself t o.owner p.0) (ap not p.1)
passed o t Consistent EPERM n p = then_other t o.owner p.0
passed o t Wait XSTATE n p = both (is_thread t o.owner) o.inconsistent (owns_itself t o.owner p.0) p.1
passed o t Wait EPERM n p = then_other t o.owner p.0
passed o t Signal OK n p = owns_itself t o.owner p.0
passed o t Signal XFULL n p = owns_itself t o.owner p.0
passed o t Signal EPERM n p = then_other t o.owner p.0
passed o t Broadcast OK n p = owns_itself t o.owner p.0
passed o t Broadcast XFULL n p = owns_itself t o.owner p.0
passed o t Broadcast EPERM n p = then_other t o.owner p.0
passed o t Death OK n p = owns_itself t o.owner p.0
passed o t Reinit OK n p = both (is_none o.owner) o.unusable (ap is_none p.1) p.0
passed o t op r n p = absurd p

pub permitted : (o : Object) (t : ℕ) → AllowedArePermitted o t (standing_of o t)
permitted o t op r = (passes o t op r, λ p. passed o t op r p.0 p.1)

none_by : (w : Option ℕ) (b : Bool) → is_some w ≡ not b → b ≡ is_none w
none_by None true h = refl
none_by None false h = absurd (cc h)
none_by (Some u) true h = absurd (cc h)
none_by (Some u) false h = refl

pub same_standing : (o : Object) (t : ℕ) (owns free : Bool) → owns ≡ is_thread t o.owner → is_some o.owner ≡ not free → record { owns = owns; free = free; inconsistent = o.inconsistent; unusable = o.unusable } ≡ standing_of o t
same_standing o t owns free e f =
    let first : (b : Bool) → Standing = λ (b : Bool). record { owns = b; free = free; inconsistent = o.inconsistent; unusable = o.unusable } in
    let then : (b : Bool) → Standing = λ (b : Bool). record { owns = is_thread t o.owner; free = b; inconsistent = o.inconsistent; unusable = o.unusable } in
    ap first e ∙ ap then (none_by o.owner free f)

-- ---- one reply after the other

pub one_reply : (s : Standing) (op : Operation) (told now : Bool) (rs : List Reply) (i : ℕ) (d : Reply) (before after total : List ℕ) → i < length rs → now ≡ (told || allows s op (get_or rs i d)) → after ≡ before ++ reply_words s op told (get_or rs i d) → before ++ allowed_words s op told (drop i rs) ≡ total → after ++ allowed_words s op now (drop (i + 1) rs) ≡ total
unfolding allowed_words
one_reply s op told now rs i d before after total lt e is so_far =
    let one = reply_words s op told (get_or rs i d) in
    let rest = allowed_words s op (told || allows s op (get_or rs i d)) (drop (i + 1) rs) in
    ap (λ b. after ++ allowed_words s op b (drop (i + 1) rs)) e ∙ ap (λ l. l ++ rest) is ∙ append_assoc before one rest
    ∙ sym (ap (λ l. before ++ l) (at_drop_more (allowed_words s op told) rs i d lt)) ∙ so_far

-- after all
pub all_replied : (s : Standing) (op : Operation) (told : Bool) (rs : List Reply) (i : ℕ) (before after total : List ℕ) → length rs ≤ i → after ≡ before ++ end_words op told → before ++ allowed_words s op told (drop i rs) ≡ total → after ≡ total
unfolding allowed_words
all_replied s op told rs i before after total le is so_far = is ∙ sym (ap (λ l. before ++ l) (at_drop_all (allowed_words s op told) rs i le)) ∙ so_far
