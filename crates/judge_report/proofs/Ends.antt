-- What is known where something was reported, or wasn't.
use Rattle.std.proofs.Common.{◌≡◌, inl, inr, ℕ, ◌<◌, Bool, true, false, List, [], ◌++◌, length, reverse, take, get_or, Option, Some, None, IfSome, Result, Ok, Err, IsErr, refl, sym, ap, subst, ◌∙◌}
use Rattle.std.specs.Prelude.{count_by, Vec}
use Rattle.std.specs.declared.alloc.Global.{Global}
use Rattle.std.specs.Prelude.{if◌then◌else◌, ◌==◌}
use Rattle.std.specs.declared.io.buffered.BufReader.{BufReader}
use Rattle.std.specs.Io.Buffered.{reader_buffer, reader_capacity, reader_inner, reader_remaining}
use Rattle.std.specs.Io.KnownBytes.{Appends, Keeps, prepend_known}
use Rattle.std.proofs.lemmas.List.{reverse-reverse}
use Rattle.streams.specs.Leaves.{AppendsFront, Leaves}
use Rattle.streams.proofs.Writers.{Appends-kept, whole_is_front, leaves_front}
use Rattle.histories.specs.declared.entry.Entry.{Entry}
use Rattle.histories.specs.declared.entry.HistoryLine.{HistoryLine}
use Rattle.certificates.specs.declared.waiting.Waiter.{Waiter}
use Rattle.certificates.specs.Certificates.{is_point_step}
use Rattle.lockword.specs.declared.reply.Reply.{Reply}
use Rattle.judge.specs.declared.judging.Judgement.{Judgement}
use Rattle.judge.specs.declared.judging.Judgement.TheVariants.{Legal, Illegal, Undecided}
use Rattle.judge.specs.declared.reason.Reason.{Reason}
use Rattle.judge.specs.Judgements.{IsIllegal, IsJudged, IsLegalBefore}
use Rattle.judge_report.specs.declared.messages.Failure.{Failure}
use Rattle.judge_report.specs.declared.messages.Failure.TheVariants.{Usage, Overwriting, CannotRead, CannotWrite, CannotKeep, CannotKeepWindow, CannotRemove, TooMany, NoPlace, OutOfMemory, Ill}
use Rattle.judge_report.specs.declared.reading.History.{History}
use Rattle.judge_report.specs.declared.reading.ReadFault.{ReadFault}
use Rattle.judge_report.specs.declared.reading.ReadFault.TheVariants as read
use Rattle.judge_report.specs.Heard.{Heard, Gives, heard_of, history_read}
use Rattle.judge_report.specs.declared.keeping.Cut.{Cut}
use Rattle.judge_report.specs.Asked.{Kept}
use Rattle.judge_report.specs.Kept.{IsFilled, IsUnkept}
use Rattle.judge_report.specs.Said.{AreNamed, IsSaid, Tells, named, status_of}
use Rattle.judge_report.specs.Served.{Fails, IsRead, SaysOf, SaysThen, Serves, ServesFront, Unread, failed_by, is_memory}
use Rattle.judge_report.specs.Texts.{cuts_text, illegal_text, legal_text, undecided_text, waiters_text}
use Rattle.judge_report.proofs.Saying.{illegal_so, is_legal, is_legal_before}

-- whatever came of a text and of what was done then, a beginning of it stands, if that kept it
pub leaves_is_front : {X E : Type 0} (a b c : Option (List ℕ)) (r : Result X E) (text : List ℕ) → Leaves a b r text → Keeps b c → AppendsFront a c text
leaves_is_front a b c (Ok x) text h k = whole_is_front a c text (Appends-kept a b c text h k)
leaves_is_front a b c (Err e) text h k = (h.0, Appends-kept a b c _ h.1 k)

-- ---- what is said

legal_so : (waiting : Bool) (h : History) (steps : List Entry) (points : ℕ) (cs : List Cut) (ws : List Waiter) → points ≡ count_by is_point_step steps → ws ≡ named waiting steps
    → legal_text points h.lines.items ++ (cuts_text cs ++ waiters_text h.lines.items ws)
    ≡ legal_text (count_by is_point_step steps) (reverse (heard_of h).seen) ++ (cuts_text cs ++ waiters_text (reverse (heard_of h).seen) (named waiting steps))
legal_so waiting h steps points cs ws count names =
    ap (λ (n : ℕ). legal_text n h.lines.items ++ (cuts_text cs ++ waiters_text h.lines.items ws)) count
    ∙ ap (λ (us : List Waiter). legal_text (count_by is_point_step steps) h.lines.items ++ (cuts_text cs ++ waiters_text h.lines.items us)) names
    ∙ ap (λ (ls : List HistoryLine). legal_text (count_by is_point_step steps) ls ++ (cuts_text cs ++ waiters_text ls (named waiting steps))) (sym (reverse-reverse h.lines.items))

pub tells_legal : {E : Type 0} (waiting : Bool) (h : History) (j : Judgement) (steps : Vec Entry Global) (points : ℕ) (cs : List Cut) (ws : List Waiter) (old new : Option (List ℕ)) (r : Result (Unit {0}) E) → j ≡ Legal steps
    → IsJudged h.head h.lines.items j → AreNamed waiting j ws → points ≡ count_by is_point_step steps.items → Leaves old new r (legal_text points h.lines.items ++ (cuts_text cs ++ waiters_text h.lines.items ws)) → Tells waiting (heard_of h) j cs old new r
tells_legal waiting h j steps points cs ws old new r is judged names count leaves =
    let so : ws ≡ named waiting steps.items = subst (λ (k : Judgement). AreNamed waiting k ws) is names in
    subst (λ (k : Judgement). Tells waiting (heard_of h) k cs old new r) (sym is)
    (legal_text points h.lines.items ++ (cuts_text cs ++ waiters_text h.lines.items ws), (is_legal h steps.items (subst (IsJudged h.head h.lines.items) is judged), legal_so waiting h steps.items points cs ws count so), leaves)

pub tells_illegal : {E : Type 0} (waiting : Bool) (h : History) (j : Judgement) (at : ℕ) (why : Reason) (possible : Vec Reply Global) (steps : Vec Entry Global) (l : HistoryLine) (cs : List Cut) (old new : Option (List ℕ)) (r : Result (Unit {0}) E) → j ≡ Illegal at why possible steps
    → IsJudged h.head h.lines.items j → l ≡ get_or h.lines.items at l → Leaves old new r (illegal_text (take at h.lines.items) l why possible.items) → Tells waiting (heard_of h) j cs old new r
tells_illegal waiting h j at why possible steps l cs old new r is judged line leaves =
    let so = illegal_so h at l why possible.items steps.items (subst (IsJudged h.head h.lines.items) is judged) line in
    subst (λ (k : Judgement). Tells waiting (heard_of h) k cs old new r) (sym is)
    (illegal_text (take at h.lines.items) l why possible.items, (l, so.0, ap (λ (ls : List HistoryLine). illegal_text ls l why possible.items) so.1), leaves)

pub tells_undecided : {E : Type 0} (waiting : Bool) (h : History) (j : Judgement) (at : ℕ) (l : HistoryLine) (cs : List Cut) (old new : Option (List ℕ)) (r : Result (Unit {0}) E) → j ≡ Undecided at → IsJudged h.head h.lines.items j
    → l ≡ get_or h.lines.items at l → Leaves old new r (undecided_text l) → Tells waiting (heard_of h) j cs old new r
tells_undecided waiting h j at l cs old new r is judged line leaves =
    subst (λ (k : Judgement). Tells waiting (heard_of h) k cs old new r) (sym is)
    (undecided_text l, (l, is_legal_before h at l (subst (IsJudged h.head h.lines.items) is judged) line, refl), leaves)

pub illegal_within : (h : History) (j : Judgement) (at : ℕ) (why : Reason) (possible : Vec Reply Global) (steps : Vec Entry Global) → j ≡ Illegal at why possible steps → IsJudged h.head h.lines.items j → at < length h.lines.items
illegal_within h j at why possible steps is judged = let found : IsIllegal h.head h.lines.items at why possible.items steps.items = subst (IsJudged h.head h.lines.items) is judged in found.before.0

pub undecided_within : (h : History) (j : Judgement) (at : ℕ) → j ≡ Undecided at → IsJudged h.head h.lines.items j → at < length h.lines.items
undecided_within h j at is judged = let before : IsLegalBefore h.head h.lines.items at = subst (IsJudged h.head h.lines.items) is judged in before.0

-- what was reported stays, if what came then kept it
pub kept_whole : (waiting : Bool) (k : Heard) (j : Judgement) (cs : List Cut) (a b c : Option (List ℕ)) → (text : List ℕ) × IsSaid waiting k j cs text × Appends a b text → Keeps b c → (text : List ℕ) × IsSaid waiting k j cs text × Appends a c text
kept_whole waiting k j cs a b c t keeps = (t.0, t.1, Appends-kept a b c t.0 t.2 keeps)

pub kept_front : (waiting : Bool) (k : Heard) (j : Judgement) (cs : List Cut) (a b c : Option (List ℕ)) → (text : List ℕ) × IsSaid waiting k j cs text × Appends a b text → Keeps b c → (text : List ℕ) × IsSaid waiting k j cs text × AppendsFront a c text
kept_front waiting k j cs a b c t keeps = (t.0, t.1, whole_is_front a c t.0 (Appends-kept a b c t.0 t.2 keeps))

pub tells_err : {E : Type 0} (waiting : Bool) (k : Heard) (j : Judgement) (cs : List Cut) (a b : Option (List ℕ)) (r : Result (Unit {0}) E) → IsErr r → (text : List ℕ) × IsSaid waiting k j cs text × AppendsFront a b text → Tells waiting k j cs a b r
tells_err waiting k j cs a b r err t = (t.0, t.1, leaves_front a b r t.0 err t.2)

-- ---- what was read

prepend-nil : (o : Option (List ℕ)) → prepend_known [] o ≡ o
prepend-nil None = refl
prepend-nil (Some xs) = refl

-- a buffer before a reader loses nothing
buffered : {T : Type 0} (remaining : T → Option (List ℕ)) (r : BufReader T Global) (input : T) → reader_inner r ≡ input → reader_buffer r ≡ [] → reader_capacity r ≡ 8192 → reader_remaining remaining r ≡ remaining input
buffered remaining r input inner empty capacity =
    let front : reader_remaining remaining r ≡ prepend_known [] (remaining input) = λ j. if capacity j == 0 then None else prepend_known (empty j) (remaining (inner j)) in
    front ∙ prepend-nil (remaining input)

pub is_read : {T : Type 0} (remaining : T → Option (List ℕ)) (r : BufReader T Global) (input : T) (h : History) → reader_inner r ≡ input → reader_buffer r ≡ [] → reader_capacity r ≡ 8192
    → IfSome (reader_remaining remaining r) (λ bytes. Gives (history_read bytes) (Ok h)) → IsRead (remaining input) (heard_of h)
is_read remaining r input h inner empty capacity gives =
    subst (λ (o : Option (List ℕ)). IfSome o (λ bytes. Gives (history_read bytes) (Ok h))) (buffered remaining r input inner empty capacity) gives

unread_by : (had : Option (List ℕ)) (e : ReadFault) → IfSome had (λ bytes. Gives (history_read bytes) (Err e)) → Unread had (failed_by e)
unread_by had read.Failed gives = tt
unread_by had read.Memory gives = tt
unread_by had (read.Ill f) gives = gives

pub is_unread : {T : Type 0} (remaining : T → Option (List ℕ)) (r : BufReader T Global) (input : T) (e : ReadFault) (f : Failure) → reader_inner r ≡ input → reader_buffer r ≡ [] → reader_capacity r ≡ 8192
    → IfSome (reader_remaining remaining r) (λ bytes. Gives (history_read bytes) (Err e)) → f ≡ failed_by e → Unread (remaining input) f
is_unread remaining r input e f inner empty capacity gives is =
    subst (Unread (remaining input)) (sym is) (unread_by (remaining input) e (subst (λ (o : Option (List ℕ)). IfSome o (λ bytes. Gives (history_read bytes) (Err e))) (buffered remaining r input inner empty capacity) gives))

pub unread_fails : (Makes Fills : List ℕ → Option (List ℕ) → Type 0) (waiting : Bool) (kept : Kept) (had old : Option (List ℕ)) (LetGo : Type 0) (f : Failure) → Unread had f → Fails Makes Fills waiting kept had old old LetGo f
unread_fails Makes Fills waiting kept had old LetGo Usage h = h
unread_fails Makes Fills waiting kept had old LetGo Overwriting h = absurd h
unread_fails Makes Fills waiting kept had old LetGo CannotRead h = refl
unread_fails Makes Fills waiting kept had old LetGo CannotWrite h = absurd h
unread_fails Makes Fills waiting kept had old LetGo CannotKeep h = absurd h
unread_fails Makes Fills waiting kept had old LetGo (CannotKeepWindow n) h = absurd h
unread_fails Makes Fills waiting kept had old LetGo (CannotRemove n) h = absurd h
unread_fails Makes Fills waiting kept had old LetGo TooMany h = absurd h
unread_fails Makes Fills waiting kept had old LetGo NoPlace h = absurd h
unread_fails Makes Fills waiting kept had old LetGo OutOfMemory h = refl
unread_fails Makes Fills waiting kept had old LetGo (Ill f) h = (refl, h)

-- ---- what was said without a certificate

pub says_then : (waiting : Bool) (k : Heard) (j : Judgement) (cs : List Cut) (old new : Option (List ℕ)) (LetGo : Type 0) (f r : Failure) → cs ≡ [] → r ≡ f → (text : List ℕ) × IsSaid waiting k j cs text × Appends old new text → LetGo → SaysThen waiting k j old new LetGo f r
says_then waiting k j cs old new LetGo f r none is t let_go = inl (is, subst (λ (ds : List Cut). (text : List ℕ) × IsSaid waiting k j ds text × Appends old new text) none t, let_go)

pub says_not : (waiting : Bool) (k : Heard) (j : Judgement) (cs : List Cut) (old new : Option (List ℕ)) (LetGo : Type 0) (f r : Failure) → cs ≡ [] → r ≡ CannotWrite → (text : List ℕ) × IsSaid waiting k j cs text × AppendsFront old new text → SaysThen waiting k j old new LetGo f r
says_not waiting k j cs old new LetGo f r none is t = inr (is, subst (λ (ds : List Cut). (text : List ℕ) × IsSaid waiting k j ds text × AppendsFront old new text) none t)

module _ (Makes Fills : List ℕ → Option (List ℕ) → Type 0) (waiting : Bool) (kept : Kept) (had old new : Option (List ℕ)) (LetGo : Type 0) (k : Heard) (j : Judgement) (read : IsRead had k) where
  abbrev Ends : Failure → Type 0
  Ends f = Fails Makes Fills waiting kept had old new LetGo f

  spoken : (f r : Failure) → SaysThen waiting k j old new LetGo f r → (SaysOf waiting had old new × LetGo → Ends f) → Ends r
  spoken f r (inl (is, says, let_go)) whole = subst (λ (g : Failure). Ends g) (sym is) (whole (record { heard = k; read = read; judgement = j; says = says }, let_go))
  spoken f r (inr (is, front)) whole = subst (λ (g : Failure). Ends g) (sym is) (inr (record { heard = k; read = read; judgement = j; says = front }))

  unkept : (f r : Failure) → IsUnkept f → (is_memory f ≡ true → r ≡ f) → (is_memory f ≡ true → new ≡ old) → (is_memory f ≡ false → SaysThen waiting k j old new LetGo f r) → Ends r
  unkept Usage r h same none says = absurd h
  unkept Overwriting r h same none says = absurd h
  unkept CannotRead r h same none says = absurd h
  unkept CannotWrite r h same none says = absurd h
  unkept CannotKeep r h same none says = spoken CannotKeep r (says refl) (λ s. s)
  unkept (CannotKeepWindow n) r h same none says = spoken (CannotKeepWindow n) r (says refl) (λ s. s)
  unkept (CannotRemove n) r h same none says = spoken (CannotRemove n) r (says refl) (λ s. s)
  unkept TooMany r h same none says = spoken TooMany r (says refl) (λ s. s)
  unkept NoPlace r h same none says = spoken NoPlace r (says refl) (λ s. s)
  unkept OutOfMemory r h same none says = subst (λ (g : Failure). Ends g) (sym (same refl)) (none refl)
  unkept (Ill f) r h same none says = absurd h

pub unkept_fails : (Makes Fills : List ℕ → Option (List ℕ) → Type 0) (waiting : Bool) (kept : Kept) (had old new : Option (List ℕ)) (LetGo : Type 0) (k : Heard) (j : Judgement) → IsRead had k → (f r : Failure) → IsUnkept f → (is_memory f ≡ true → r ≡ f) → (is_memory f ≡ true → new ≡ old) → (is_memory f ≡ false → SaysThen waiting k j old new LetGo f r) → Fails Makes Fills waiting kept had old new LetGo r
unkept_fails Makes Fills waiting kept had old new LetGo k j read f r h same none says = unkept Makes Fills waiting kept had old new LetGo k j read f r h same none says

-- ---- the whole

pub serves : (Makes Fills : List ℕ → Option (List ℕ) → Type 0) (waiting : Bool) (kept : Kept) (had old new : Option (List ℕ)) (k : Heard) (j : Judgement) (cs : List Cut) (status : ℕ) → IsRead had k → IsFilled Makes Fills kept k j cs
    → (text : List ℕ) × IsSaid waiting k j cs text × Appends old new text → status ≡ status_of j → Serves Makes Fills waiting kept had old new status
serves Makes Fills waiting kept had old new k j cs status read filled t exit = record { heard = k; read = read; judgement = j; cuts = cs; filled = filled; text = t.0; said = t.1; written = t.2; exit = exit }

pub serves_front : (Makes Fills : List ℕ → Option (List ℕ) → Type 0) (waiting : Bool) (kept : Kept) (had old new : Option (List ℕ)) (k : Heard) (j : Judgement) (cs : List Cut) → IsRead had k → IsFilled Makes Fills kept k j cs
    → (text : List ℕ) × IsSaid waiting k j cs text × AppendsFront old new text → ServesFront Makes Fills waiting kept had old new
serves_front Makes Fills waiting kept had old new k j cs read filled t = record { heard = k; read = read; judgement = j; cuts = cs; filled = filled; text = t.0; said = t.1; written = t.2 }
