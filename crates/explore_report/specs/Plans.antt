-- From a script to a plan: what each thread calls, in order, and which events come in between.
use Rattle.std.specs.Prelude.{ℕ, ◌+◌, ◌-◌, ◌==◌, ◌||◌, ◌≡◌, ◌⊎◌, Bool, true, false, List, [], ◌∷◌, Option, Some, None}
use Rattle.std.specs.Prelude.{map, length, take, slice_get, get_or, nat_lt, count_by, min, Result, Ok, Err}
use Rattle.std.specs.Prelude.{if◌then◌else◌}
use Rattle.std.specs.List.{flat_map, list_any, range_with_len}
use Rattle.std.specs.Str.{bytes_eq, is_utf8}
use Rattle.lines.specs.Lines.{bad_line, lines_of}
use Rattle.lockword.specs.declared.reply.Reply.{Reply}
use Rattle.script.specs.declared.command.Action.TheVariants.{Call, Go}
use Rattle.script.specs.declared.command.Action.{Action}
use Rattle.script.specs.declared.command.Command.{Command}
use Rattle.script.specs.declared.command.Condition.{Condition}
use Rattle.script.specs.declared.command.Mode.TheVariants.{Run}
use Rattle.script.specs.declared.fault.Fault.TheVariants.{NotUtf8, OutOfMemory, TooLong}
use Rattle.script.specs.declared.fault.ScriptFault.{ScriptFault}
use Rattle.script.specs.Limits.{max_bytes}
use Rattle.script.specs.Playing.{layout_of}
use Rattle.script.specs.Reading.{fault_at, script_read}
use Rattle.script.specs.Scope.{Scope}
use Rattle.outcomes.specs.declared.plan.Act.{Act}
use Rattle.outcomes.specs.declared.plan.Act.TheVariants as act
use Rattle.outcomes.specs.declared.plan.Item.{Item}
use Rattle.outcomes.specs.declared.plan.Plan.{Plan}
use Rattle.explore_report.specs.Asked.{Choices, kills_of}
use Rattle.explore_report.specs.Spelled.{kinds_of, spelled_text}
use Rattle.explore_report.specs.declared.planning.Explored.{Explored}
use Rattle.explore_report.specs.declared.spelling.Kind.{Kind}
use Rattle.explore_report.specs.declared.spelling.Kind.TheVariants.{Plain, After, StopAfter, Phase}

-- ---- reading

-- the names and commands of a script, and what each of its lines says
pub record Said : Type 0 where
  pub scope : Scope
  pub kinds : List Kind

abbrev pub with_kinds : List Kind → Result Scope ScriptFault → Result Said ScriptFault
with_kinds kinds (Ok s) = Ok (record { scope = s; kinds = kinds })
with_kinds kinds (Err e) = Err e

-- what a text says
abbrev pub text_said : List ℕ → Result Said ScriptFault
text_said text = with_kinds (kinds_of (lines_of text)) (script_read Run (spelled_text (lines_of text)))

-- what these bytes say as a script that is explored, or their first fault
abbrev pub said_read : List ℕ → Result Said ScriptFault
said_read bytes =
    if nat_lt max_bytes (length bytes) then Err (fault_at 1 TooLong)
    else (if is_utf8 bytes
    then text_said bytes
    else Err (fault_at (bad_line bytes) NotUtf8))

abbrev pub said_by : Explored → Said
said_by x = record { scope = x.script; kinds = x.kinds.items }

-- a script was read so, or has this fault; memory may run out instead
abbrev pub Gives : Result Said ScriptFault → Result Explored ScriptFault → Type 0
Gives said (Ok x) = said ≡ Ok (said_by x)
Gives said (Err e) = (e.fault ≡ OutOfMemory) ⊎ (said ≡ Err e)

-- ---- planning

abbrev pub ends_phase : Kind → Bool
ends_phase Phase = true
ends_phase k = false

-- how many phases have ended before a line
abbrev pub phase_at : List Kind → ℕ → ℕ
phase_at kinds line = min 65535 (count_by ends_phase (take (min line (length kinds)) kinds))

-- the reply on which a line depends
abbrev pub depends_on : Option Kind → Option Reply
depends_on (Some (After x)) = Some x
depends_on (Some (StopAfter x)) = Some x
depends_on k = None

abbrev pub item_at : List Kind → ℕ → Act → Item
item_at kinds line a =
    record { phase = phase_at kinds line; after = depends_on (slice_get kinds (line - 1)); act = a }

-- the items that a command is for thread t: one, or none
abbrev pub items_by : List Kind → ℕ → ℕ → Action → List Item
items_by kinds t line (Call u o) = if u == t then item_at kinds line (act.Call o) ∷ [] else []
items_by kinds t line (Go u) = if u == t then item_at kinds line act.Stop ∷ [] else []
items_by kinds t line a = []

abbrev pub items_in : List Kind → ℕ → Command → List Item
items_in kinds t c = items_by kinds t c.line c.action

-- what thread t has to do
abbrev pub items_of : Said → ℕ → List Item
items_of said t = flat_map (items_in said.kinds t) said.scope.commands

-- a thread is one of these, or there are none
abbrev pub may_die : List (List ℕ) → List ℕ → Bool
may_die [] name = true
may_die (n ∷ ns) name = list_any (λ x. bytes_eq x name) (n ∷ ns)

-- what is explored of a script with these options
pub record IsPlanOf (said : Said) (c : Choices) (p : Plan) : Type 0 where
  pub layout : p.layout ≡ layout_of said.scope
  pub presets : p.presets.items ≡ map (λ c. c.counter) (map (λ x. x.1) said.scope.conditions)
  pub threads : map (λ v. v.items) p.threads.items
      ≡ map (λ i. items_of said (i + 1)) (range_with_len 0 (length said.scope.threads))
  pub kills : p.asked.kills ≡ kills_of c
  pub killable : p.asked.killable.items ≡ map (may_die c.named) said.scope.threads
  pub expire : p.asked.expire ≡ c.expire
  pub leave : p.asked.leave ≡ c.leave
  pub spare : p.asked.spare ≡ c.spare
