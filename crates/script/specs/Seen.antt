-- Values of the code as the definitions see them.
use Rattle.std.specs.Prelude.{ℕ, List, map, String, string_bytes}
use Rattle.std.specs.declared.alloc.Global.{Global}
use Rattle.script.specs.Forms.{CallForm, lock, trylock, timedlock, unlock, consistent, wait, timedwait, signal}
use Rattle.script.specs.Forms.{broadcast, Form}
use Rattle.script.specs.Forms.{process, thread, member, mutex, mutexes, cond, begins, steps, kills}
use Rattle.script.specs.Forms.{kills_all, goes, leaves, declines, expires, renews, remakes, spares}
use Rattle.script.specs.Forms.{calls, locks, phase, dies}
use Rattle.script.specs.Scope.{Scope}
use Rattle.script.specs.declared.draft.Draft.{Draft}
use Rattle.script.specs.declared.line.NamedCall.{NamedCall}
use Rattle.script.specs.declared.line.NamedCall.TheVariants as named
use Rattle.script.specs.declared.line.Line.{Line}
use Rattle.script.specs.declared.line.Line.TheVariants as line

-- a call by names
abbrev pub call_seen : NamedCall → CallForm
call_seen (named.Lock m) = lock m.now
call_seen (named.TryLock m) = trylock m.now
call_seen (named.TimedLock m) = timedlock m.now
call_seen (named.Unlock m) = unlock m.now
call_seen (named.Consistent m) = consistent m.now
call_seen (named.Wait c) = wait c.now
call_seen (named.TimedWait c) = timedwait c.now
call_seen (named.Signal c) = signal c.now
call_seen (named.Broadcast c) = broadcast c.now

-- the form that a line that isn't silent was read to
abbrev pub form_seen : Line → Form
form_seen (line.Process p b) = process p.now b
form_seen (line.Thread a) = thread a.now
form_seen (line.Member a p) = member a.now p.now
form_seen (line.Mutex a) = mutex a.now
form_seen (line.Mutexes a n) = mutexes a.now n
form_seen (line.Cond c m n) = cond c.now m.now n
form_seen (line.Begin a c) = begins a.now (call_seen c)
form_seen (line.Step a n) = steps a.now n
form_seen (line.Kill a) = kills a.now
form_seen (line.KillAll p) = kills_all p.now
form_seen (line.Go a) = goes a.now
form_seen (line.Leave a) = leaves a.now
form_seen (line.Decline a) = declines a.now
form_seen (line.Expire a) = expires a.now
form_seen (line.Renew a) = renews a.now
form_seen (line.Remake a m) = remakes a.now m.now
form_seen (line.Spare a) = spares a.now
form_seen (line.Call a c) = calls a.now (call_seen c)
form_seen (line.Locks a m n) = locks a.now m.now n
form_seen line.Phase = phase
form_seen (line.Die a n) = dies a.now n

-- what was declared with names, by their bytes
abbrev pub entries_seen : {V : Type 0} → List (String Global × V) → List (List ℕ × V)
entries_seen es = map (λ e. (string_bytes e.0, e.1)) es

-- what the lines so far declared and asked for
abbrev pub scope_of : Draft → Scope
scope_of d = record {
  mode = d.mode;
  processes = entries_seen d.processes.entries;
  threads = map string_bytes d.threads.keys;
  members = d.members.items;
  mutexes = map string_bytes d.mutexes.keys;
  conditions = entries_seen d.conditions.entries;
  commands = d.commands.items;
}
