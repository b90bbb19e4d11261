-- What is known where a picture was drawn, or wasn't.
use Rattle.std.proofs.Common.{◌≡◌, ◌≤◌, ℕ, Bool, true, false, IfErr, List, length, Option, Result, Ok, Err, refl, sym, ap, subst, ◌∙◌, arith, inl, inr}
use Rattle.std.specs.Prelude.{codes, nat_eq, nat_lt, if◌then◌else◌}
use Rattle.std.specs.List.{starts_with}
use Rattle.std.specs.Io.KnownBytes.{Appends, Consumes, IsAtEnd, Keeps}
use Rattle.std.proofs.lemmas.Bool.Decides.{nat_tests}
use Rattle.streams.specs.Leaves.{AppendsFront, Leaves}
use Rattle.streams.proofs.Writers.{Appends-kept, whole_is_front}
use Rattle.verdict.specs.declared.fault.Fault.TheVariants.{TooLong}
use Rattle.verdict.specs.Limits.{max_bytes}
use Rattle.verdict.specs.Reading.{Trace, fault_at, trace_read}
use Rattle.verdict.specs.Told.{trace_of}
use Rattle.picture.specs.declared.drawing.Unwritten.{Unwritten}
use Rattle.picture.specs.declared.drawing.Unwritten.TheVariants as unwritten
use Rattle.draw_report.specs.declared.asking.Kind.{Kind}
use Rattle.draw_report.specs.declared.asking.Kind.TheVariants.{Text, Svg, Html}
use Rattle.page.specs.Pages.{LeavesPage}
use Rattle.draw_report.specs.declared.messages.Failure.{Failure}
use Rattle.draw_report.specs.declared.messages.Failure.TheVariants.{Script}
use Rattle.draw_report.specs.Scripts.{FailsScript, GivesScript}
use Rattle.draw_report.specs.Files.{Comes, DrawsAs, DrawsFile, FailsFile, Serves, is_history}
use Rattle.draw_report.specs.Histories.{FailsHistory, IsHistoryPicture}
use Rattle.draw_report.specs.Served.{FailsDrawing, IsPictureOf, IsUndrawn, LeavesPicture, undrawn_by}
use Rattle.script.specs.declared.command.Mode.TheVariants.{Run}
use Rattle.script.specs.declared.fault.Fault.TheVariants as script
use Rattle.script.specs.declared.fault.ScriptFault.{ScriptFault}
use Rattle.script.specs.Limits as scripts
use Rattle.script.specs.Outcome.{TellsAt}
use Rattle.script.specs.Reading.{script_read, fault_at as script_fault_at}
use Rattle.script.specs.Scope.{Scope}

-- whatever came of a text and of what was done then, a beginning of it stands, if that kept it
pub leaves_is_front : {X E : Type 0} (a b c : Option (List ℕ)) (r : Result X E) (text : List ℕ) → Leaves a b r text → Keeps b c → AppendsFront a c text
leaves_is_front a b c (Ok x) text h k = whole_is_front a c text (Appends-kept a b c text h k)
leaves_is_front a b c (Err e) text h k = (h.0, Appends-kept a b c _ h.1 k)

-- what an error says, said otherwise
pub err_weaker : {X E : Type 0} {P Q : E → Type 0} (r : Result X E) → ((e : E) → P e → Q e) → IfErr r P → IfErr r Q
err_weaker (Ok x) weaker h = h
err_weaker (Err e) weaker h = weaker e h

-- a picture that wasn't written, or not all of it
pub draws_not : (kind : Kind) (script : Option Scope) (old new : Option (List ℕ)) (bytes p : List ℕ) (u : Unwritten) → IsPictureOf kind script bytes p → IsUndrawn kind p old new u → FailsDrawing kind script bytes old new (undrawn_by u)
draws_not kind script old new bytes p unwritten.OutOfMemory of front = inr (p, of, front)
draws_not kind script old new bytes p unwritten.Failed of front = (p, of, front)

-- that of a history
pub history_not : (kind : Kind) (script : Option Scope) (old new : Option (List ℕ)) (bytes p : List ℕ) (u : Unwritten) → IsHistoryPicture kind script bytes p → IsUndrawn kind p old new u → FailsHistory kind script bytes old new (undrawn_by u)
history_not kind script old new bytes p unwritten.OutOfMemory of front = inr (p, of, front)
history_not kind script old new bytes p unwritten.Failed of front = (p, of, front)

-- memory was refused before it began
pub nothing_drawn : (kind : Kind) (p : List ℕ) (old new : Option (List ℕ)) → new ≡ old → IsUndrawn kind p old new unwritten.OutOfMemory
nothing_drawn Text p old new same = inl same
nothing_drawn Svg p old new same = inl same
nothing_drawn Html p old new same = same

-- a picture in text, or a beginning of it
pub leaves_text : {X : Type 0} (p : List ℕ) (old new : Option (List ℕ)) (r : Result X Unwritten) → Leaves old new r p → LeavesPicture Text p old new r
leaves_text p old new (Ok x) h = h
leaves_text p old new (Err e) h = inr h

-- the same as SVG
pub leaves_svg : {X : Type 0} (p : List ℕ) (old new : Option (List ℕ)) (r : Result X Unwritten) → Leaves old new r p → LeavesPicture Svg p old new r
leaves_svg p old new (Ok x) h = h
leaves_svg p old new (Err e) h = inr h

-- a page
pub leaves_page : {X : Type 0} (p : List ℕ) (old new : Option (List ℕ)) (r : Result X Unwritten) → LeavesPage old new r p → LeavesPicture Html p old new r
leaves_page p old new (Ok x) h = h
leaves_page p old new (Err unwritten.OutOfMemory) h = h
leaves_page p old new (Err unwritten.Failed) h = inr h

-- what was drawn stays, as a beginning of it
pub begun_kept : (kind : Kind) (p : List ℕ) (old drawn new : Option (List ℕ)) → Appends old drawn p → Keeps drawn new → IsUndrawn kind p old new unwritten.Failed
begun_kept Text p old drawn new d k = inr (whole_is_front old new p (Appends-kept old drawn new p d k))
begun_kept Svg p old drawn new d k = inr (whole_is_front old new p (Appends-kept old drawn new p d k))
begun_kept Html p old drawn new d k = inr (whole_is_front old new p (Appends-kept old drawn new p d k))

-- a trace isn't too long
read_is_short : (bytes : List ℕ) (t : Trace) → trace_read bytes ≡ Ok t → length bytes ≤ max_bytes
read_is_short bytes t is = go (nat_lt max_bytes (length bytes)) refl
  where
    go : (b : Bool) → nat_lt max_bytes (length bytes) ≡ b → length bytes ≤ max_bytes
    go true long =
        let fault : trace_read bytes ≡ Err (fault_at 1 TooLong) = rw long refl in
        let both : Ok t ≡ Err (fault_at 1 TooLong) = sym is ∙ fault in absurd cc
    go false short = grind (arith, nat_tests)

-- what was drawn isn't too long: neither a trace nor a history is
drawn_is_short : (kind : Kind) (script : Option Scope) (old new : Option (List ℕ)) (bytes : List ℕ) → DrawsFile kind script old new bytes → length bytes ≤ max_bytes
drawn_is_short kind script old new bytes draws = go (is_history bytes) refl draws
  where
    few : (b : Bool) → nat_lt max_bytes (length bytes) ≡ b → (if b then false else starts_with nat_eq bytes (codes "history ")) ≡ true → length bytes ≤ max_bytes
    few true long is = let no : false ≡ true = is in absurd cc
    few false short is = grind (arith, nat_tests)

    go : (b : Bool) → is_history bytes ≡ b → DrawsAs b kind script old new bytes → length bytes ≤ max_bytes
    go false is d = read_is_short bytes (trace_of d.1.trace) d.1.of.reads
    go true is d = few (nat_lt max_bytes (length bytes)) refl is

-- all that a reader had is a trace or a history, if what was read is one
pub serves : (kind : Kind) (script : Option Scope) (had left old new : Option (List ℕ)) (bytes seen : List ℕ) → seen ≡ bytes → Consumes had left bytes → (length bytes ≤ max_bytes → IsAtEnd left) → DrawsFile kind script old new seen → Serves kind script had left old new
serves kind script had left old new bytes seen same taken end draws =
    let d = subst (DrawsFile kind script old new) same draws in
    (bytes, taken, end (drawn_is_short kind script old new bytes d), d)

-- what came of its bytes
pub comes : (kind : Kind) (script : Option Scope) (had left old new : Option (List ℕ)) (bytes seen : List ℕ) (f : Failure) → seen ≡ bytes → Consumes had left bytes → (length bytes ≤ max_bytes → IsAtEnd left) → FailsFile kind script seen old new f → Comes kind script had left old new f
comes kind script had left old new bytes seen f same taken end fails = (bytes, taken, end, subst (λ (bs : List ℕ). FailsFile kind script bs old new f) same fails)

-- a script isn't too long
script_is_short : (bytes : List ℕ) (s : Scope) → script_read Run bytes ≡ Ok s → length bytes ≤ scripts.max_bytes
script_is_short bytes s is = go (nat_lt scripts.max_bytes (length bytes)) refl
  where
    go : (b : Bool) → nat_lt scripts.max_bytes (length bytes) ≡ b → length bytes ≤ scripts.max_bytes
    go true long =
        let fault : script_read Run bytes ≡ Err (script_fault_at 1 script.TooLong) = rw long refl in
        let both : Ok s ≡ Err (script_fault_at 1 script.TooLong) = sym is ∙ fault in absurd cc
    go false short = grind (arith, nat_tests)

pub gives_script : (had left : Option (List ℕ)) (bytes seen : List ℕ) (s : Scope) → seen ≡ bytes → Consumes had left bytes → (length bytes ≤ scripts.max_bytes → IsAtEnd left) → script_read Run seen ≡ Ok s → GivesScript had left s
gives_script had left bytes seen s same taken end reads =
    let is : script_read Run bytes ≡ Ok s = ap (script_read Run) (sym same) ∙ reads in
    (bytes, taken, end (script_is_short bytes s is), is)

pub fails_script : (had left : Option (List ℕ)) (bytes seen : List ℕ) (e : ScriptFault) → seen ≡ bytes → Consumes had left bytes → (length bytes ≤ scripts.max_bytes → IsAtEnd left) → TellsAt e e.fault (script_read Run seen) → FailsScript had left (Script e)
fails_script had left bytes seen e same taken end tells = inr (bytes, taken, end, subst (λ (bs : List ℕ). TellsAt e e.fault (script_read Run bs)) same tells)
