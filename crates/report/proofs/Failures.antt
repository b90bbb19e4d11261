-- What is known where a form ended or failed.
use Rattle.std.proofs.Common.{◌≡◌, ◌≤◌, ℕ, Bool, true, false, List, length, Option, Result, Ok, Err, refl, sym, subst, ◌∙◌, inl, inr, MatchResult, arith}
use Rattle.std.specs.Prelude.{nat_lt, IfErr}
use Rattle.std.specs.Io.KnownBytes.{Appends, Consumes, IsAtEnd, Keeps}
use Rattle.std.proofs.lemmas.Bool.Decides.{nat_tests}
use Rattle.script.specs.declared.fault.ScriptFault.{ScriptFault}
use Rattle.script.specs.declared.fault.Fault.TheVariants.{TooLong}
use Rattle.script.specs.Limits.{max_bytes}
use Rattle.script.specs.Reading.{fault_at, script_read}
use Rattle.script.specs.Scope.{Scope}
use Rattle.script.specs.declared.command.Mode.TheVariants.{Threads}
use Rattle.verdict.specs.Limits as traces
use Rattle.verdict.specs.declared.checking.Verdict.TheVariants as verdict
use Rattle.cmdline.specs.declared.form.Form.{Form}
use Rattle.cmdline.specs.declared.form.Form.TheVariants as form
use Rattle.streams.specs.Leaves.{AppendsFront, Leaves}
use Rattle.streams.proofs.Writers.{Appends-kept, whole_is_front}
use Rattle.report.specs.declared.messages.Failure.{Failure}
use Rattle.report.specs.declared.messages.Failure.TheVariants.{Usage, CannotRead, CannotWrite, OutOfMemory, Script, Trace}
use Rattle.report.specs.declared.threads.Answers.{Answers}
use Rattle.report.specs.Messages.{failure_status}
use Rattle.report.specs.Served.{Report, trace, table, replies, mode_of, Means, Answer, Written, WrittenFront, Served, ServedFront, ServedAs, ServedFrontAs}
use Rattle.report.specs.Verdicts.{verdict_text, CheckedFront, Finds, Judged}
use Rattle.report.specs.Failed.{IsUnread, Fails, FailsTelling, FailsTrace, FailsAt, FailsAs, EndsAs}
use Rattle.report.proofs.Judged.{found, read_is_short}
use Rattle.report.proofs.Servings.{told_front}

-- ---- scripts

-- all of what is reported of a script is a beginning of it
written_is_front : (k : Report) (old new : Option (List ℕ)) (bytes : List ℕ) → Written k old new bytes → WrittenFront k old new bytes
written_is_front k old new bytes = go (script_read (mode_of k) bytes)
  where
    go : (r : Result Scope ScriptFault) → MatchResult r (λ s. (text : List ℕ) × Means k s text × Appends old new text) (λ e. ⊥) → MatchResult r (λ s. (text : List ℕ) × Means k s text × AppendsFront old new text) (λ e. ⊥)
    go (Ok s) h = (h.0, h.1, whole_is_front old new h.0 h.2)
    go (Err e) h = absurd h

-- a script isn't too long
script_is_short : (k : Report) (old new : Option (List ℕ)) (bytes : List ℕ) → WrittenFront k old new bytes → length bytes ≤ max_bytes
script_is_short k old new bytes h = go (nat_lt max_bytes (length bytes)) refl
  where
    go : (b : Bool) → nat_lt max_bytes (length bytes) ≡ b → length bytes ≤ max_bytes
    go true long =
        let fault : script_read (mode_of k) bytes ≡ Err (fault_at 1 TooLong) = rw long refl in
        absurd (subst (λ (r : Result Scope ScriptFault). MatchResult r (λ s. (text : List ℕ) × Means k s text × AppendsFront old new text) (λ e. ⊥)) fault h)
    go false short = grind (arith, nat_tests)

-- all that a reader had is a script, if what was read is one
pub serves : (k : Report) (had left old new : Option (List ℕ)) (bytes seen : List ℕ) → seen ≡ bytes → Consumes had left bytes → (length bytes ≤ max_bytes → IsAtEnd left) → Written k old new seen → Served k had left old new
serves k had left old new bytes seen same taken end w =
    let written = subst (λ (bs : List ℕ). Written k old new bs) same w in
    (bytes, taken, end (script_is_short k old new bytes (written_is_front k old new bytes written)), written)

-- a failure to tell what real threads were answered is one of their script
pub told_fails : (old new : Option (List ℕ)) (bytes : List ℕ) (s : Scope) (a : Answers) → script_read Threads bytes ≡ Ok s → Answer s a → (f : Failure) → FailsTelling s a old new f → Fails replies bytes old new f
told_fails old new bytes s a reads answer Usage h = absurd h
told_fails old new bytes s a reads answer CannotRead h = absurd h
told_fails old new bytes s a reads answer CannotWrite h = told_front old new bytes s a reads answer h
told_fails old new bytes s a reads answer OutOfMemory h = (h, (s, reads))
told_fails old new bytes s a reads answer (Script e) h = absurd h
told_fails old new bytes s a reads answer (Trace e) h = absurd h

-- ---- readers

-- a file that couldn't be read
pub unread_at : (most : ℕ) (Comes : List ℕ → Failure → Type 0) (had left old new : Option (List ℕ)) → new ≡ old → (f : Failure) → IsUnread f → FailsAt most Comes had left old new f
unread_at most Comes had left old new same Usage h = absurd h
unread_at most Comes had left old new same CannotRead h = same
unread_at most Comes had left old new same CannotWrite h = absurd h
unread_at most Comes had left old new same OutOfMemory h = same
unread_at most Comes had left old new same (Script e) h = absurd h
unread_at most Comes had left old new same (Trace e) h = absurd h

-- what a script's bytes failed by
script_fails_at : (k : Report) (had left old new : Option (List ℕ)) (bytes : List ℕ) → Consumes had left bytes → (length bytes ≤ max_bytes → IsAtEnd left) → (f : Failure) → Fails k bytes old new f → FailsAt max_bytes (λ bs g. Fails k bs old new g) had left old new f
script_fails_at k had left old new bytes taken end Usage h = absurd h
script_fails_at k had left old new bytes taken end CannotRead h = absurd h
script_fails_at k had left old new bytes taken end CannotWrite h = (bytes, taken, end, h)
script_fails_at k had left old new bytes taken end OutOfMemory h = h.0
script_fails_at k had left old new bytes taken end (Script e) h = (bytes, taken, end, h)
script_fails_at k had left old new bytes taken end (Trace e) h = absurd h

pub fails_at : (k : Report) (had left old new : Option (List ℕ)) (bytes seen : List ℕ) → seen ≡ bytes → Consumes had left bytes → (length bytes ≤ max_bytes → IsAtEnd left) → (f : Failure) → Fails k seen old new f → FailsAt max_bytes (λ bs g. Fails k bs old new g) had left old new f
fails_at k had left old new bytes seen same taken end f h = script_fails_at k had left old new bytes taken end f (subst (λ (bs : List ℕ). Fails k bs old new f) same h)

-- and a trace's
judging_fails_at : (had left old new : Option (List ℕ)) (bytes : List ℕ) → Consumes had left bytes → (length bytes ≤ traces.max_bytes → IsAtEnd left) → (f : Failure) → FailsTrace bytes old new f → FailsAt traces.max_bytes (λ bs g. FailsTrace bs old new g) had left old new f
judging_fails_at had left old new bytes taken end Usage h = absurd h
judging_fails_at had left old new bytes taken end CannotRead h = absurd h
judging_fails_at had left old new bytes taken end CannotWrite h = (bytes, taken, end, h)
judging_fails_at had left old new bytes taken end OutOfMemory h = absurd h
judging_fails_at had left old new bytes taken end (Script e) h = absurd h
judging_fails_at had left old new bytes taken end (Trace e) h = (bytes, taken, end, h)

pub trace_fails_at : (had left old new : Option (List ℕ)) (bytes seen : List ℕ) → seen ≡ bytes → Consumes had left bytes → (length bytes ≤ traces.max_bytes → IsAtEnd left) → (f : Failure) → FailsTrace seen old new f → FailsAt traces.max_bytes (λ bs g. FailsTrace bs old new g) had left old new f
trace_fails_at had left old new bytes seen same taken end f h = judging_fails_at had left old new bytes taken end f (subst (λ (bs : List ℕ). FailsTrace bs old new f) same h)

-- all that a reader had is a trace, if what was read is one
pub judges : (had left old new : Option (List ℕ)) (bytes seen : List ℕ) (status : ℕ) → seen ≡ bytes → Consumes had left bytes → (length bytes ≤ traces.max_bytes → IsAtEnd left) → Finds old new seen status → Judged had left old new status
judges had left old new bytes seen status same taken end found_so =
    let finds = subst (λ (bs : List ℕ). Finds old new bs status) same found_so in
    (bytes, taken, end (read_is_short bytes finds.1.0 finds.1.1), finds)

-- ---- forms

-- what a form wrote, where its status is 0
pub ended_done : (f : Form) (had left old new : Option (List ℕ)) (status : ℕ) → EndsAs f had left old new status → status ≡ 0 → ServedAs f had left old new
ended_done (form.Run file) had left old new status h zero = h.1
ended_done (form.Table file) had left old new status h zero = h.1
ended_done (form.Threads file) had left old new status h zero = h.1
ended_done (form.Check file) had left old new status h zero = (h.0, h.1, h.2, found old new h.0 h.3.0 h.3.1 h.3.2 (sym h.3.3 ∙ zero))
ended_done form.Usage had left old new status h zero = absurd h

served_front : (k : Report) (had left old new : Option (List ℕ)) → Served k had left old new → ServedFront k had left old new
served_front k had left old new h = inr (h.0, h.1, h.2, written_is_front k old new h.0 h.3)

-- what was written whole is a beginning too
pub ended_front : (f : Form) (had left old new : Option (List ℕ)) (status : ℕ) → EndsAs f had left old new status → ServedFrontAs f had left old new
ended_front (form.Run file) had left old new status h = served_front trace had left old new h.1
ended_front (form.Table file) had left old new status h = served_front table had left old new h.1
ended_front (form.Threads file) had left old new status h = served_front replies had left old new h.1
ended_front (form.Check file) had left old new status h = inr (h.0, h.1, h.2, (h.3.0, h.3.1, whole_is_front old new (verdict_text h.3.0) h.3.2))
ended_front form.Usage had left old new status h = absurd h

failed_script_front : (k : Report) (had left old new : Option (List ℕ)) (f : Failure) → FailsAt max_bytes (λ bytes g. Fails k bytes old new g) had left old new f → ServedFront k had left old new
failed_script_front k had left old new Usage h = absurd h
failed_script_front k had left old new CannotRead h = inl h
failed_script_front k had left old new CannotWrite h = inr (h.0, h.1, h.2 (script_is_short k old new h.0 h.3), h.3)
failed_script_front k had left old new OutOfMemory h = inl h
failed_script_front k had left old new (Script e) h = inl h.3.0
failed_script_front k had left old new (Trace e) h = absurd h.3

failed_trace_front : (had left old new : Option (List ℕ)) (f : Failure) → FailsAt traces.max_bytes (λ bytes g. FailsTrace bytes old new g) had left old new f → CheckedFront had left old new
failed_trace_front had left old new Usage h = absurd h
failed_trace_front had left old new CannotRead h = inl h
failed_trace_front had left old new CannotWrite h = inr (h.0, h.1, h.2 (read_is_short h.0 h.3.1.0 h.3.1.1), h.3)
failed_trace_front had left old new OutOfMemory h = inl h
failed_trace_front had left old new (Script e) h = absurd h.3
failed_trace_front had left old new (Trace e) h = inl h.3.0

-- where a form failed nothing was written, or a beginning
pub failed_front : (f : Form) (had left old new : Option (List ℕ)) (g : Failure) → FailsAs f had left old new g → ServedFrontAs f had left old new
failed_front (form.Run file) had left old new g h = failed_script_front trace had left old new g h
failed_front (form.Table file) had left old new g h = failed_script_front table had left old new g h
failed_front (form.Threads file) had left old new g h = failed_script_front replies had left old new g h
failed_front (form.Check file) had left old new g h = failed_trace_front had left old new g h
failed_front form.Usage had left old new g h = h.1

-- a verdict's status is 0 or 1
verdict_low : (old new : Option (List ℕ)) (bytes : List ℕ) (status : ℕ) → Finds old new bytes status → status ≤ 1
verdict_low old new bytes status (verdict.Legal points, on, a, is) = omega (arith, is)
verdict_low old new bytes status (verdict.Illegal line, on, a, is) = omega (arith, is)

-- so is that of each form that ended
pub ended_low : (f : Form) (had left old new : Option (List ℕ)) (status : ℕ) → EndsAs f had left old new status → status ≤ 1
ended_low (form.Run file) had left old new status h = let zero = h.0 in omega (arith, zero)
ended_low (form.Table file) had left old new status h = let zero = h.0 in omega (arith, zero)
ended_low (form.Threads file) had left old new status h = let zero = h.0 in omega (arith, zero)
ended_low (form.Check file) had left old new status h = verdict_low old new h.0 status h.3
ended_low form.Usage had left old new status h = absurd h

-- and none of them is the usage
pub ended_named : (f : Form) (had left old new : Option (List ℕ)) (status : ℕ) → EndsAs f had left old new status → f ≡ form.Usage → ⊥
ended_named (form.Run file) had left old new status h is = cc
ended_named (form.Table file) had left old new status h is = cc
ended_named (form.Threads file) had left old new status h is = cc
ended_named (form.Check file) had left old new status h is = cc
ended_named form.Usage had left old new status h is = h

-- no failure has status 0
pub failed_not_0 : (g : Failure) → failure_status g ≡ 0 → ⊥
failed_not_0 Usage is = omega (arith, is)
failed_not_0 CannotRead is = omega (arith, is)
failed_not_0 CannotWrite is = omega (arith, is)
failed_not_0 OutOfMemory is = omega (arith, is)
failed_not_0 (Script e) is = omega (arith, is)
failed_not_0 (Trace e) is = omega (arith, is)

pub failed_low : (g : Failure) → failure_status g ≤ 2
failed_low Usage = omega arith
failed_low CannotRead = omega arith
failed_low CannotWrite = omega arith
failed_low OutOfMemory = omega arith
failed_low (Script e) = omega arith
failed_low (Trace e) = omega arith

-- only the usage has status 2
usage_alone : (g : Failure) → failure_status g ≡ 2 → g ≡ Usage
usage_alone Usage is = refl
usage_alone CannotRead is = absurd (omega (arith, is))
usage_alone CannotWrite is = absurd (omega (arith, is))
usage_alone OutOfMemory is = absurd (omega (arith, is))
usage_alone (Script e) is = absurd (omega (arith, is))
usage_alone (Trace e) is = absurd (omega (arith, is))

-- a form with a file doesn't fail as the usage
pub usage_fails : (f : Form) (had left old new : Option (List ℕ)) (g : Failure) → FailsAs f had left old new g → failure_status g ≡ 2 → f ≡ form.Usage
usage_fails (form.Run file) had left old new g h is = absurd (subst (λ x. FailsAs (form.Run file) had left old new x) (usage_alone g is) h)
usage_fails (form.Table file) had left old new g h is = absurd (subst (λ x. FailsAs (form.Table file) had left old new x) (usage_alone g is) h)
usage_fails (form.Threads file) had left old new g h is = absurd (subst (λ x. FailsAs (form.Threads file) had left old new x) (usage_alone g is) h)
usage_fails (form.Check file) had left old new g h is = absurd (subst (λ x. FailsAs (form.Check file) had left old new x) (usage_alone g is) h)
usage_fails form.Usage had left old new g h is = refl

pub fails_usage : (f : Form) (had left old new : Option (List ℕ)) (g : Failure) → FailsAs f had left old new g → f ≡ form.Usage → failure_status g ≡ 2
fails_usage (form.Run file) had left old new g h is = absurd cc
fails_usage (form.Table file) had left old new g h is = absurd cc
fails_usage (form.Threads file) had left old new g h is = absurd cc
fails_usage (form.Check file) had left old new g h is = absurd cc
fails_usage form.Usage had left old new g h is = rw h.0 refl

-- ---- messages

-- whatever came of a text and of what was done then, a beginning of it stands, if that kept it
pub leaves_is_front : {X E : Type 0} (a b c : Option (List ℕ)) (r : Result X E) (text : List ℕ) → Leaves a b r text → Keeps b c → AppendsFront a c text
leaves_is_front a b c (Ok x) text h k = whole_is_front a c text (Appends-kept a b c text h k)
leaves_is_front a b c (Err e) text h k = (h.0, Appends-kept a b c _ h.1 k)

-- what holds anyway holds of an error
pub anyway : {T E : Type 0} (r : Result T E) (Q : E → Type 0) (P : Type 0) → P → IfErr r (λ e. Q e → P)
anyway (Ok x) Q P p = tt
anyway (Err e) Q P p = λ q. p
