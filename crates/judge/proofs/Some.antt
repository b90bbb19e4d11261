-- Some of the replies of a list, one more at a time.
use Rattle.std.proofs.Common.{◌≡◌, ℕ, ◌+◌, ◌<◌, Bool, true, false, List, [], ◌∷◌, ◌++◌, length, take, get_or, if◌then◌else◌, refl, sym, subst, subst₂}
use Rattle.std.proofs.lemmas.List.Elements.{All-nil, All-push}
use Rattle.std.proofs.lemmas.List.{take_more}
use Rattle.lockword.specs.declared.reply.Reply.{Reply}
use Rattle.histories.specs.declared.head.Head.{Head}
use Rattle.histories.specs.declared.entry.HistoryLine.{HistoryLine}
use Rattle.judge.specs.Judgements.{AreSome, CouldBeTold}
use Rattle.judge.specs.Replies.{IsPartOf, Ends, Skips, Takes}

skips : (x : Reply) (ys xs : List Reply) → IsPartOf ys xs → IsPartOf ys (xs ++ x ∷ [])
skips x ys xs Ends = Skips x [] [] Ends
skips x ys xs (Skips z vs us h) = Skips z vs (us ++ x ∷ []) (skips x vs us h)
skips x ys xs (Takes z vs us h) = Takes z vs (us ++ x ∷ []) (skips x vs us h)

takes : (x : Reply) (ys xs : List Reply) → IsPartOf ys xs → IsPartOf (ys ++ x ∷ []) (xs ++ x ∷ [])
takes x ys xs Ends = Takes x [] [] Ends
takes x ys xs (Skips z vs us h) = Skips z (vs ++ x ∷ []) (us ++ x ∷ []) (takes x vs us h)
takes x ys xs (Takes z vs us h) = Takes z (vs ++ x ∷ []) (us ++ x ∷ []) (takes x vs us h)

pub none_yet : (h : Head) (ls : List HistoryLine) (t : ℕ) (ys : List Reply) → ys ≡ [] → AreSome h ls t [] ys
none_yet h ls t ys is = subst (AreSome h ls t []) (sym is) (All-nil (CouldBeTold h ls t), Ends)

pushed : (h : Head) (ls : List HistoryLine) (t : ℕ) (x : Reply) (b : Bool) (xs ys : List Reply) → (b ≡ true → CouldBeTold h ls t x) → AreSome h ls t xs ys
    → AreSome h ls t (xs ++ x ∷ []) (if b then ys ++ x ∷ [] else ys)
pushed h ls t x true xs ys could s = (All-push (CouldBeTold h ls t) ys x s.0 (could refl), takes x ys xs s.1)
pushed h ls t x false xs ys could s = (s.0, skips x ys xs s.1)

-- reply i of those of a list, which thread t could get, or wasn't found to
pub some_more : (h : Head) (ls : List HistoryLine) (t : ℕ) (xs : List Reply) (i : ℕ) (d : Reply) (b : Bool) (old new : List Reply) → i < length xs → (b ≡ true → CouldBeTold h ls t (get_or xs i d))
    → AreSome h ls t (take i xs) old → new ≡ (if b then old ++ get_or xs i d ∷ [] else old) → AreSome h ls t (take (i + 1) xs) new
some_more h ls t xs i d b old new lt could s added =
    subst₂ (AreSome h ls t) (sym (take_more xs i d lt)) (sym added) (pushed h ls t (get_or xs i d) b (take i xs) old could s)
