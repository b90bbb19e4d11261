-- What is found of a script or a trace is what the title says.
use Rattle.std.proofs.Common.{◌≡◌, ◌≢◌, ℕ, List, Option, Some, Result, Ok, Err, refl, inl, inr, sym, subst, ap}
use Rattle.std.specs.Prelude.{IfOk, IfErr}
use Rattle.std.specs.declared.alloc.AllocError.{AllocError}
use Rattle.script.specs.declared.command.Mode.{Mode}
use Rattle.script.specs.declared.command.Mode.TheVariants.{Run, Threads}
use Rattle.script.specs.declared.fault.Fault.{Fault}
use Rattle.script.specs.declared.fault.Fault.TheVariants.{NotUtf8, UnknownWord, OutOfRange, NoSuchName, TooLong, OutOfMemory}
use Rattle.script.specs.declared.fault.ScriptFault.{ScriptFault}
use Rattle.script.specs.Outcome.{TellsAt}
use Rattle.script.specs.Scope.{Scope}
use Rattle.script.specs.Playing.{overlong}
use Rattle.script.specs.Played.{RefusesCommand}
use Rattle.script.specs.Reading.{script_read}
use Rattle.verdict.specs.declared.fault.Fault.TheVariants as of_trace
use Rattle.verdict.specs.declared.fault.TraceFault.{TraceFault}
use Rattle.verdict.specs.Reading.{Trace}
use Rattle.verdict.specs.Verdicts.{Tells}
use Rattle.explain.specs.Explains.{IsFaultOf}

-- a fault that isn't lack of memory is the reader's
its_own : (e : ScriptFault) (f : Fault) (said : Result Scope ScriptFault) → f ≢ OutOfMemory → TellsAt e f said → said ≡ Err e
its_own e NotUtf8 said n h = h
its_own e UnknownWord said n h = h
its_own e OutOfRange said n h = h
its_own e NoSuchName said n h = h
its_own e TooLong said n h = h
its_own e OutOfMemory said n h = absurd (n refl)

pub read_fault : (k : Mode) (bytes : List ℕ) (e : ScriptFault) → TellsAt e e.fault (script_read k bytes) → e.fault ≢ OutOfMemory → IsFaultOf k bytes (Some e)
read_fault Threads bytes e h n = its_own e e.fault (script_read Threads bytes) n h
read_fault Run bytes e h n = inl (its_own e e.fault (script_read Run bytes) n h)

too_many : (s : Scope) (line : ℕ) (f : Fault) → f ≢ OutOfMemory → RefusesCommand s line f → (overlong s ≡ Some line) × (f ≡ TooLong)
too_many s line NotUtf8 n h = absurd h
too_many s line UnknownWord n h = absurd h
too_many s line OutOfRange n h = absurd h
too_many s line NoSuchName n h = absurd h
too_many s line TooLong n h = (h, refl)
too_many s line OutOfMemory n h = absurd (n refl)

pub played_fault : (bytes : List ℕ) (s : Scope) (e : ScriptFault) → script_read Run bytes ≡ Ok s → RefusesCommand s e.line e.fault → e.fault ≢ OutOfMemory → IsFaultOf Run bytes (Some e)
played_fault bytes s e reads h n = let many = too_many s e.line e.fault n h in inr (s, reads, many.0, many.1)

pub judged_fault : (said : Result Trace TraceFault) (e : TraceFault) → Tells said (Err e) → e.fault ≢ of_trace.OutOfMemory → said ≡ Err e
judged_fault said e (inl h) n = h
judged_fault said e (inr h) n = absurd (n (ap (λ (x : TraceFault). x.fault) h.0))

-- ---- what holds of what was made

pub if_ok_weaker : {X E : Type 0} (r : Result X E) (P Q : X → Type 0) → ((x : X) → P x → Q x) → IfOk r P → IfOk r Q
if_ok_weaker (Ok x) P Q f h = f x h
if_ok_weaker (Err e) P Q f h = tt

pub read_as : (k : Mode) (bytes : List ℕ) (e : ScriptFault) (r : Result (Option ScriptFault) AllocError) → TellsAt e e.fault (script_read k bytes) → IfOk r (λ o. (o ≡ Some e) × (e.fault ≢ OutOfMemory)) → IfOk r (IsFaultOf k bytes)
read_as k bytes e r h = if_ok_weaker r (λ o. (o ≡ Some e) × (e.fault ≢ OutOfMemory)) (IsFaultOf k bytes) (λ o p. subst (IsFaultOf k bytes) (sym p.0) (read_fault k bytes e h p.1))

pub played_as : (bytes : List ℕ) (s : Scope) (e : ScriptFault) (r : Result (Option ScriptFault) AllocError) → script_read Run bytes ≡ Ok s → RefusesCommand s e.line e.fault → IfOk r (λ o. (o ≡ Some e) × (e.fault ≢ OutOfMemory)) → IfOk r (IsFaultOf Run bytes)
played_as bytes s e r reads h = if_ok_weaker r (λ o. (o ≡ Some e) × (e.fault ≢ OutOfMemory)) (IsFaultOf Run bytes) (λ o p. subst (IsFaultOf Run bytes) (sym p.0) (played_fault bytes s e reads h p.1))

pub if_err_weaker : {X E : Type 0} (r : Result X E) (P Q : E → Type 0) → ((e : E) → P e → Q e) → IfErr r P → IfErr r Q
if_err_weaker (Ok x) P Q f h = tt
if_err_weaker (Err e) P Q f h = f e h

-- two things of what was made
pub if_ok_both : {X E : Type 0} (r : Result X E) (P P' Q : X → Type 0) → ((x : X) → P x → P' x → Q x) → IfOk r P → IfOk r P' → IfOk r Q
if_ok_both (Ok x) P P' Q f h h' = f x h h'
if_ok_both (Err e) P P' Q f h h' = tt
