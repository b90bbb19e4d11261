-- Reading line after line, as the loop does.
use Rattle.std.proofs.Common.{◌≡◌, ℕ, ◌+◌, ◌≤◌, ◌==◌, Bool, true, false, List, [], ◌∷◌, length, Option, Some, None, Result, Ok, Err, IfSome, refl, sym, ap, subst, ◌∙◌, arith}
use Rattle.lines.specs.Lines.{lines_of}
use Rattle.lines.specs.Faults.{◌>>=◌}
use Rattle.lines.proofs.Cutting.{one_or_more}
use Rattle.histories.specs.declared.head.Head.{Head}
use Rattle.histories.specs.declared.fault.Fault.{Fault}
use Rattle.histories.specs.declared.fault.Fault.TheVariants.{Cut}
use Rattle.histories.specs.declared.fault.HistoryFault.{HistoryFault}
use Rattle.histories.specs.Reading.{head_read}
use Rattle.judge_report.specs.declared.reading.History.{History}
use Rattle.judge_report.specs.declared.reading.ReadFault.{ReadFault}
use Rattle.judge_report.specs.declared.reading.ReadFault.TheVariants.{Failed, Memory, Ill}
use Rattle.judge_report.specs.Heard.{Begins, Closes, Cuts, Gives, Heard, IsUnread, Taken, Takes, begun, closed, fault_at, goes_on, heard_of, history_read, line_taken, lines_read, met_at, text_read, unended}

unrolled : (n : ℕ) (h : Heard) (text : List ℕ) (ls : List (List ℕ)) → 1 ≤ length ls → lines_read n h (text ∷ ls) ≡ (line_taken n h text >>= goes_on (n + 1) ls (λ k. lines_read (n + 1) k ls))
unfolding lines_read
unrolled n h text [] long = absurd (omega (arith, long))
unrolled n h text (l ∷ ls) long = refl

last_one : (n : ℕ) (h : Heard) (text : List ℕ) → lines_read n h (text ∷ []) ≡ Err (fault_at n (unended text))
unfolding lines_read
last_one n h text = refl

-- a line is taken, after which others stand
taken : (n : ℕ) (h : Heard) (text bytes rest : List ℕ) (r : Result Taken HistoryFault) → lines_of bytes ≡ text ∷ lines_of rest → line_taken n h text ≡ r
    → lines_read n h (lines_of bytes) ≡ (r >>= goes_on (n + 1) (lines_of rest) (λ k. lines_read (n + 1) k (lines_of rest)))
taken n h text bytes rest r parts is =
    ap (lines_read n h) parts ∙ unrolled n h text (lines_of rest) (one_or_more (λ b. b == 10) rest)
    ∙ ap (λ (x : Result Taken HistoryFault). x >>= goes_on (n + 1) (lines_of rest) (λ k. lines_read (n + 1) k (lines_of rest))) is

-- ---- what is left says what all did

abbrev pub Left : Result Heard HistoryFault → Option (List ℕ) → ℕ → Heard → Type 0
Left said None n h = ⊥
Left said (Some bytes) n h = said ≡ lines_read n h (lines_of bytes)

abbrev pub said_of : Head → List ℕ → Result Heard HistoryFault
said_of head bytes = lines_read 2 (begun head) (lines_of bytes)

abbrev pub Same : Option (List ℕ) → Option (List ℕ) → Head → ℕ → Heard → Type 0
Same had left head n h = IfSome had (λ bytes. Left (said_of head bytes) left n h)

-- whether a line feed was met is known
pub known : (had after : Option (List ℕ)) (b c : Bool) (line : List ℕ) → b ≡ c → IfSome had (λ bytes. Cuts bytes after b line) → IfSome had (λ bytes. Cuts bytes after c line)
known had after b c line e = subst (λ (x : Bool). IfSome had (λ bytes. Cuts bytes after x line)) e

-- so is the line that was taken, and what came of it
pub seen_so : (h k : Heard) (n : ℕ) (seen line : List ℕ) (r s : Result Bool ReadFault) → seen ≡ line → r ≡ s → Takes h n seen r k → Takes h n line s k
seen_so h k n seen line r s same is takes = subst (λ (x : Result Bool ReadFault). Takes h n line x k) is (subst (λ (l : List ℕ). Takes h n l r k) same takes)

pub at_first : (had : Option (List ℕ)) (head : Head) (h : Heard) → h ≡ begun head → Same had had head 2 h
at_first None head h is = tt
at_first (Some bytes) head h is = ap (λ (k : Heard). lines_read 2 k (lines_of bytes)) (sym is)

-- what is given of what all lines say
abbrev pub GivesAll : Option (List ℕ) → Head → Result History ReadFault → Type 0
GivesAll had head r = IfSome had (λ bytes. Gives (said_of head bytes) r)

-- a read that failed
pub gives_none : (said : Result Heard HistoryFault) (e : ReadFault) → IsUnread e → Gives said (Err e)
gives_none said Failed quiet = tt
gives_none said Memory quiet = tt
gives_none said (Ill f) quiet = absurd quiet

pub fails : (had : Option (List ℕ)) (head : Head) (e : ReadFault) → IsUnread e → GivesAll had head (Err e)
fails None head e quiet = tt
fails (Some bytes) head e quiet = gives_none (said_of head bytes) e quiet

pub runs_out : (had left after : Option (List ℕ)) (head : Head) (n : ℕ) (h : Heard) (line : List ℕ) (e : ReadFault) → Same had left head n h → IfSome left (λ bytes. Cuts bytes after false line) → e ≡ Ill (fault_at n (unended line)) → GivesAll had head (Err e)
runs_out None left after head n h line e same cut is = tt
runs_out (Some bytes) None after head n h line e same cut is = absurd same
runs_out (Some bytes) (Some rest) after head n h line e same cut is =
    subst (λ (x : ReadFault). Gives (said_of head bytes) (Err x)) (sym is) (same ∙ ap (lines_read n h) cut ∙ last_one n h line)

-- a line is taken, and isn't the last
pub goes_further : (had left after : Option (List ℕ)) (head : Head) (n : ℕ) (h k : Heard) (line : List ℕ) → Same had left head n h → IfSome left (λ bytes. Cuts bytes after true line) → Takes h n line (Ok false) k → Same had after head (n + 1) k
goes_further None left after head n h k line same cut takes = tt
goes_further (Some bytes) None after head n h k line same cut takes = absurd same
goes_further (Some bytes) (Some rest) after head n h k line same cut takes =
    subst (λ (o : Option (List ℕ)). Left (said_of head bytes) o (n + 1) k) (sym cut.1) (same ∙ taken n h line rest cut.0 (Ok (record { ends = false; heard = k })) cut.2 takes)

-- a line has a fault
takes_fault : (said : Result Heard HistoryFault) (n : ℕ) (h k : Heard) (line rest behind : List ℕ) (e : ReadFault) → said ≡ lines_read n h (lines_of rest) → lines_of rest ≡ line ∷ lines_of behind → Takes h n line (Err e) k → Gives said (Err e)
takes_fault said n h k line rest behind Failed same parts takes = tt
takes_fault said n h k line rest behind Memory same parts takes = tt
takes_fault said n h k line rest behind (Ill f) same parts takes = same ∙ taken n h line rest behind (Err f) parts takes

pub stops : (had left after : Option (List ℕ)) (head : Head) (n : ℕ) (h k : Heard) (line : List ℕ) (e : ReadFault) → Same had left head n h → IfSome left (λ bytes. Cuts bytes after true line) → Takes h n line (Err e) k → GivesAll had head (Err e)
stops None left after head n h k line e same cut takes = tt
stops (Some bytes) None after head n h k line e same cut takes = absurd same
stops (Some bytes) (Some rest) after head n h k line e same cut takes = takes_fault (said_of head bytes) n h k line rest cut.0 e same cut.2 takes

-- the last line is taken
at_last : (had left after : Option (List ℕ)) (head : Head) (n : ℕ) (h k : Heard) (line : List ℕ) (P : Result Heard HistoryFault → Type 0) → Same had left head n h → IfSome left (λ bytes. Cuts bytes after true line) → Takes h n line (Ok true) k
    → ((ls : List ℕ) → after ≡ Some ls → P (closed (n + 1) k (lines_of ls))) → IfSome had (λ bytes. P (said_of head bytes))
at_last None left after head n h k line P same cut takes then_so = tt
at_last (Some bytes) None after head n h k line P same cut takes then_so = absurd same
at_last (Some bytes) (Some rest) after head n h k line P same cut takes then_so =
    subst P (sym (same ∙ taken n h line rest cut.0 (Ok (record { ends = true; heard = k })) cut.2 takes)) (then_so cut.0 cut.1)

some_at : (o : Option (List ℕ)) (xs : List ℕ) (P : List ℕ → Type 0) → o ≡ Some xs → IfSome o P → P xs
some_at o xs P e = subst (λ (q : Option (List ℕ)). IfSome q P) e

pub ends_well : (had left after : Option (List ℕ)) (head : Head) (n : ℕ) (h : Heard) (history : History) (line : List ℕ) → Same had left head n h → IfSome left (λ bytes. Cuts bytes after true line) → Takes h n line (Ok true) (heard_of history)
    → IfSome after (λ bytes. Closes (n + 1) (lines_of bytes) (Ok tt)) → GivesAll had head (Ok history)
ends_well had left after head n h history line same cut takes close =
    at_last had left after head n h (heard_of history) line (λ (said : Result Heard HistoryFault). said ≡ Ok (heard_of history)) same cut takes
    (λ ls is. some_at after ls (λ bytes. Closes (n + 1) (lines_of bytes) (Ok tt)) is close (heard_of history))

closes_ill : (n : ℕ) (k : Heard) (ls : List (List ℕ)) (e : ReadFault) → Closes n ls (Err e) → Gives (closed n k ls) (Err e)
closes_ill n k ls Failed close = tt
closes_ill n k ls Memory close = tt
closes_ill n k ls (Ill f) close = close k

pub ends_ill : (had left after : Option (List ℕ)) (head : Head) (n : ℕ) (h k : Heard) (line : List ℕ) (e : ReadFault) → Same had left head n h → IfSome left (λ bytes. Cuts bytes after true line) → Takes h n line (Ok true) k
    → IfSome after (λ bytes. Closes (n + 1) (lines_of bytes) (Err e)) → GivesAll had head (Err e)
ends_ill had left after head n h k line e same cut takes close =
    at_last had left after head n h k line (λ (said : Result Heard HistoryFault). Gives said (Err e)) same cut takes
    (λ ls is. closes_ill (n + 1) k (lines_of ls) e (some_at after ls (λ bytes. Closes (n + 1) (lines_of bytes) (Err e)) is close))

-- ---- after the last line

closes_at : (n : ℕ) (h : Heard) (line : List ℕ) (ls : List (List ℕ)) → 1 ≤ length ls → closed n h (line ∷ ls) ≡ Err (fault_at n Cut)
closes_at n h line [] long = absurd (omega (arith, long))
closes_at n h [] (l ∷ ls) long = refl
closes_at n h (b ∷ bs) (l ∷ ls) long = refl

pub closes : (had after : Option (List ℕ)) (n : ℕ) (line : List ℕ) → IfSome had (λ bytes. Cuts bytes after false line) → line ≡ [] → IfSome had (λ bytes. Closes n (lines_of bytes) (Ok tt))
closes None after n line cut quiet = tt
closes (Some bytes) after n line cut quiet = λ h. ap (closed n h) (cut ∙ ap (λ (l : List ℕ). l ∷ []) quiet)

pub more_behind : (had after : Option (List ℕ)) (n : ℕ) (line : List ℕ) (e : ReadFault) → IfSome had (λ bytes. Cuts bytes after true line) → e ≡ Ill (fault_at n Cut) → IfSome had (λ bytes. Closes n (lines_of bytes) (Err e))
more_behind None after n line e cut is = tt
more_behind (Some bytes) after n line e cut is =
    subst (λ (x : ReadFault). Closes n (lines_of bytes) (Err x)) (sym is) (λ h. ap (closed n h) cut.2 ∙ closes_at n h line (lines_of cut.0) (one_or_more (λ b. b == 10) cut.0))

some_left : (n : ℕ) (h : Heard) (line : List ℕ) → (line ≡ [] → ⊥) → closed n h (line ∷ []) ≡ Err (fault_at n Cut)
some_left n h [] filled = absurd (filled refl)
some_left n h (b ∷ bs) filled = refl

pub some_behind : (had after : Option (List ℕ)) (n : ℕ) (line : List ℕ) (e : ReadFault) → IfSome had (λ bytes. Cuts bytes after false line) → (line ≡ [] → ⊥) → e ≡ Ill (fault_at n Cut) → IfSome had (λ bytes. Closes n (lines_of bytes) (Err e))
some_behind None after n line e cut filled is = tt
some_behind (Some bytes) after n line e cut filled is =
    subst (λ (x : ReadFault). Closes n (lines_of bytes) (Err x)) (sym is) (λ h. ap (closed n h) cut ∙ some_left n h line filled)

closes_none : (n : ℕ) (ls : List (List ℕ)) (e : ReadFault) → IsUnread e → Closes n ls (Err e)
closes_none n ls Failed quiet = tt
closes_none n ls Memory quiet = tt
closes_none n ls (Ill f) quiet = absurd quiet

pub isnt_closed : (had : Option (List ℕ)) (n : ℕ) (e : ReadFault) → IsUnread e → IfSome had (λ bytes. Closes n (lines_of bytes) (Err e))
isnt_closed None n e quiet = tt
isnt_closed (Some bytes) n e quiet = closes_none n (lines_of bytes) e quiet

-- ---- the first line

first_of : (text : List ℕ) (ls : List (List ℕ)) → 1 ≤ length ls → text_read (text ∷ ls) ≡ (met_at 1 (head_read text) >>= λ h. lines_read 2 (begun h) ls)
first_of text [] long = absurd (omega (arith, long))
first_of text (l ∷ ls) long = refl

read_first : (bytes text rest : List ℕ) (r : Result Head Fault) → lines_of bytes ≡ text ∷ lines_of rest → head_read text ≡ r → history_read bytes ≡ (met_at 1 r >>= λ h. lines_read 2 (begun h) (lines_of rest))
read_first bytes text rest r parts is =
    ap text_read parts ∙ first_of text (lines_of rest) (one_or_more (λ b. b == 10) rest) ∙ ap (λ (x : Result Head Fault). met_at 1 x >>= λ h. lines_read 2 (begun h) (lines_of rest)) is

pub begins_well : (had after : Option (List ℕ)) (line : List ℕ) (h : Head) → IfSome had (λ bytes. Cuts bytes after true line) → head_read line ≡ Ok h → IfSome had (λ bytes. Begins bytes after (Ok h))
begins_well None after line h cut is = tt
begins_well (Some bytes) after line h cut is = (cut.0, cut.1, read_first bytes line cut.0 (Ok h) cut.2 is)

pub begins_ill : (had after : Option (List ℕ)) (line : List ℕ) (f : Fault) (e : ReadFault) → IfSome had (λ bytes. Cuts bytes after true line) → head_read line ≡ Err f → e ≡ Ill (fault_at 1 f) → IfSome had (λ bytes. Begins bytes after (Err e))
begins_ill None after line f e cut is ill = tt
begins_ill (Some bytes) after line f e cut is ill =
    subst (λ (x : ReadFault). Begins bytes after (Err x)) (sym ill) (read_first bytes line cut.0 (Err f) cut.2 is)

pub begins_cut : (had after : Option (List ℕ)) (line : List ℕ) (e : ReadFault) → IfSome had (λ bytes. Cuts bytes after false line) → e ≡ Ill (fault_at 1 (unended line)) → IfSome had (λ bytes. Begins bytes after (Err e))
begins_cut None after line e cut ill = tt
begins_cut (Some bytes) after line e cut ill = subst (λ (x : ReadFault). Begins bytes after (Err x)) (sym ill) (ap text_read cut)

begins_none : (bytes : List ℕ) (after : Option (List ℕ)) (e : ReadFault) → IsUnread e → Begins bytes after (Err e)
begins_none bytes after Failed quiet = tt
begins_none bytes after Memory quiet = tt
begins_none bytes after (Ill f) quiet = absurd quiet

pub isnt_begun : (had after : Option (List ℕ)) (e : ReadFault) → IsUnread e → IfSome had (λ bytes. Begins bytes after (Err e))
isnt_begun None after e quiet = tt
isnt_begun (Some bytes) after e quiet = begins_none bytes after e quiet

-- ---- the whole

pub whole : (had left : Option (List ℕ)) (head : Head) (r : Result History ReadFault) → IfSome had (λ bytes. Begins bytes left (Ok head)) → GivesAll left head r → IfSome had (λ bytes. Gives (history_read bytes) r)
whole None left head r begins gives = tt
whole (Some bytes) left head r begins gives =
    subst (λ (said : Result Heard HistoryFault). Gives said r) (sym begins.2) (some_at left begins.0 (λ rest. Gives (said_of head rest) r) begins.1 gives)

gives_so : (bytes : List ℕ) (left : Option (List ℕ)) (e : ReadFault) → Begins bytes left (Err e) → Gives (history_read bytes) (Err e)
gives_so bytes left Failed begins = tt
gives_so bytes left Memory begins = tt
gives_so bytes left (Ill f) begins = begins

pub refused : (had left : Option (List ℕ)) (e : ReadFault) → IfSome had (λ bytes. Begins bytes left (Err e)) → IfSome had (λ bytes. Gives (history_read bytes) (Err e))
refused None left e begins = tt
refused (Some bytes) left e begins = gives_so bytes left e begins
