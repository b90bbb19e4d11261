-- The numbers and the printed names of replies (errno(3); those with an X are this project's own).
--
-- *Reply.* A call's result, by the number and the name of errno(3); those that begin with X_ are the project's own. A
-- text is read as the reply that has it as its name; the law `replies_are_read_back`: each name is read as its reply,
-- and no other text is.
use Rattle.std.specs.Prelude.{ℕ, ◌≡◌, List, [], ◌∷◌, Option, Some, find, codes}
use Rattle.std.specs.Str.{bytes_eq}
use Rattle.lockword.specs.declared.reply.Reply.{Reply}
use Rattle.lockword.specs.declared.reply.Reply.TheVariants.{OK, EPERM, ESRCH, EAGAIN, EFAULT, EBUSY}
use Rattle.lockword.specs.declared.reply.Reply.TheVariants.{EINVAL, EDEADLK, ETIMEDOUT, EOWNERDEAD}
use Rattle.lockword.specs.declared.reply.Reply.TheVariants.{ENOTRECOVERABLE, XNOMEM, XRACED, XHELD, XFULL, XSTATE}

abbrev pub number_of : Reply → ℕ
number_of OK = 0
number_of EPERM = 1
number_of ESRCH = 3
number_of EAGAIN = 11
number_of EFAULT = 14
number_of EBUSY = 16
number_of EINVAL = 22
number_of EDEADLK = 35
number_of ETIMEDOUT = 110
number_of EOWNERDEAD = 130
number_of ENOTRECOVERABLE = 131
number_of XNOMEM = 1000
number_of XRACED = 1001
number_of XHELD = 1002
number_of XFULL = 1003
number_of XSTATE = 1004

abbrev pub reply_word : Reply → List ℕ
reply_word OK = codes "OK"
reply_word EPERM = codes "EPERM"
reply_word ESRCH = codes "ESRCH"
reply_word EAGAIN = codes "EAGAIN"
reply_word EFAULT = codes "EFAULT"
reply_word EBUSY = codes "EBUSY"
reply_word EINVAL = codes "EINVAL"
reply_word EDEADLK = codes "EDEADLK"
reply_word ETIMEDOUT = codes "ETIMEDOUT"
reply_word EOWNERDEAD = codes "EOWNERDEAD"
reply_word ENOTRECOVERABLE = codes "ENOTRECOVERABLE"
reply_word XNOMEM = codes "X_NOMEM"
reply_word XRACED = codes "X_RACED"
reply_word XHELD = codes "X_HELD"
reply_word XFULL = codes "X_FULL"
reply_word XSTATE = codes "X_STATE"

-- every reply
abbrev pub all_replies : List Reply
all_replies = OK ∷ EPERM ∷ ESRCH ∷ EAGAIN ∷ EFAULT ∷ EBUSY ∷ EINVAL ∷ EDEADLK ∷ ETIMEDOUT ∷ EOWNERDEAD ∷ ENOTRECOVERABLE
    ∷ XNOMEM ∷ XRACED ∷ XHELD ∷ XFULL ∷ XSTATE ∷ []

-- the reply that has this name
unfoldable pub reply_of : List ℕ → Option Reply
reply_of text = find (λ x. bytes_eq (reply_word x) text) all_replies

-- a reply's name is read as that reply, and no other text is
pub record RepliesAreReadBack : Type 0 where
  pub back : (x : Reply) → reply_of (reply_word x) ≡ Some x
  pub only : (text : List ℕ) (x : Reply) → reply_of text ≡ Some x → text ≡ reply_word x
