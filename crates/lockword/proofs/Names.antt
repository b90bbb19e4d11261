-- What names are read as.
use Rattle.std.proofs.Common.{◌≡◌, ℕ, Bool, true, false, Some, List, [], ◌∷◌, refl, sym, subst}
use Rattle.std.specs.Prelude.{cond, find}
use Rattle.std.specs.Str.{bytes_eq}
use Rattle.std.proofs.lemmas.Slice.Eq.{bytes_eq-Decides}
use Rattle.lockword.specs.declared.reply.Reply.{Reply}
use Rattle.lockword.specs.declared.reply.Reply.TheVariants.{OK, EPERM, ESRCH, EAGAIN, EFAULT, EBUSY, EINVAL, EDEADLK, ETIMEDOUT, EOWNERDEAD, ENOTRECOVERABLE, XNOMEM, XRACED, XHELD, XFULL, XSTATE}
use Rattle.lockword.specs.Replies.{RepliesAreReadBack, all_replies, reply_of, reply_word}

-- what is found passes the test
found : {X : Type 0} (p : X → Bool) (xs : List X) (x : X) → find p xs ≡ Some x → p x ≡ true
found p [] x e = absurd cc
found p (y ∷ ys) x e = go (p y) refl (found p ys x) e
  where
    go : (b : Bool) → p y ≡ b → (find p ys ≡ Some x → p x ≡ true) → cond b (Some y) (find p ys) ≡ Some x → p x ≡ true
    go true is behind here = let same : y ≡ x = cc in subst (λ z. p z ≡ true) same is
    go false is behind here = behind here

-- what is found by its word has that word
pub named : {X : Type 0} (word : X → List ℕ) (xs : List X) (text : List ℕ) (x : X) → find (λ y. bytes_eq (word y) text) xs ≡ Some x → text ≡ word x
named word xs text x e = let is : bytes_eq (word x) text ≡ true = found (λ y. bytes_eq (word y) text) xs x e in sym ((bytes_eq-Decides (word x) text).0 is)

back : (x : Reply) → reply_of (reply_word x) ≡ Some x
unfolding reply_of
back OK = refl
back EPERM = refl
back ESRCH = refl
back EAGAIN = refl
back EFAULT = refl
back EBUSY = refl
back EINVAL = refl
back EDEADLK = refl
back ETIMEDOUT = refl
back EOWNERDEAD = refl
back ENOTRECOVERABLE = refl
back XNOMEM = refl
back XRACED = refl
back XHELD = refl
back XFULL = refl
back XSTATE = refl

only : (text : List ℕ) (x : Reply) → reply_of text ≡ Some x → text ≡ reply_word x
unfolding reply_of
only text x e = named reply_word all_replies text x e

pub replies_read_back : RepliesAreReadBack
replies_read_back = record { back = back; only = only }
