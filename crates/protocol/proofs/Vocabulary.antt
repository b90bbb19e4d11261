-- The words of the crates below, and of specs/, that many proofs here speak: each file names from here those that it uses.
pub use Rattle.std.proofs.lemmas.Bool.{eqb-false}
pub use Rattle.std.proofs.lemmas.Bool.Decides.{nat_tests}
pub use Rattle.std.specs.Prelude.{Err, MatchBool, Ok, bit_or, if◌then◌else◌, nat_le, nat_lt, not, replicate, slice_index, ◌&&◌, ◌-◌, ◌||◌}
pub use Rattle.lockword.proofs.Bits.{or_waiting}
pub use Rattle.lockword.specs.Cells.{Fields, fields_of, taken, waiting, word_of}
pub use Rattle.lockword.specs.Coding.{fields_of-word_of}
pub use Rattle.lockword.specs.declared.reply.Reply.{Reply}
pub use Rattle.lockword.specs.declared.reply.Reply.TheVariants.{EOWNERDEAD, EPERM, OK, XFULL, XHELD, XRACED}
pub use Rattle.posixmutex.proofs.Owners.{owner_of-is, owner_of-none, owner_of-some}
pub use Rattle.stepprograms.specs.Accesses.{address_of, answer_among, answer_at, changed, sleeps_at, word_among}
pub use Rattle.memorymap.specs.Addresses.{words_from}
pub use Rattle.memorymap.specs.Chains.{AreDifferent, IsChainBothWays, Leads, address_sum}
pub use Rattle.posixmutex.specs.Histories.{held_by}
pub use Rattle.memorymap.specs.Layouts.{IsLayout, Layout', address_in, base_of, cell_place, counter_place, entry_place, first_word, head_place, place_in, words_of}
pub use Rattle.posixmutex.specs.Objects.{Does, Permits, Run, acquires, fresh, object_of, owner_of}
pub use Rattle.stepprograms.specs.declared.access.Access.{Access}
pub use Rattle.stepprograms.specs.declared.access.Answer.{Answer}
pub use Rattle.stepprograms.specs.declared.access.Answer.TheVariants.{Again, Changed, Count, Exchanged, Fault, Trimmed}
pub use Rattle.posixmutex.specs.declared.object.Object.{Object}
pub use Rattle.posixmutex.specs.declared.point.Decision.{Decision}
pub use Rattle.posixmutex.specs.declared.point.Operation.{Operation}
pub use Rattle.robustlist.proofs.Chains.{both-ways, chain-same, chained, leads-same}
pub use Rattle.robustlist.proofs.Places.{apart-among, avoids-all, entries-different, without-among}
pub use Rattle.robustlist.specs.Link.{LinkGoes, link_access, link_access_of, link_moved, link_resume}
pub use Rattle.robustlist.specs.Standings.{UnlinkStanding}
pub use Rattle.robustlist.specs.Unlink.{UnlinkGoes, unlink_access, unlink_resume}
pub use Rattle.robustlist.specs.Words.{Agree, Makes, answer_on}
pub use Rattle.robustlist.specs.declared.link.LinkRow.{LinkRow}
pub use Rattle.robustlist.specs.declared.unlink.UnlinkRow.{UnlinkRow}
pub use Rattle.mutex.specs.Alone.{Alone, Steady, answers_for, is_wake, left}
pub use Rattle.mutex.specs.Laws.{Expects, Joins, Sound, decided}
pub use Rattle.mutex.specs.Standings.{Whole}
pub use Rattle.mutex.specs.Whole.{after_cell, leaving, whole_access, whole_led}
pub use Rattle.mutex.specs.declared.call.Call.{Call}
pub use Rattle.mutex.specs.declared.consistent.ConsistentRow.{ConsistentRow}
pub use Rattle.mutex.specs.declared.lock.LockRow.{LockRow}
pub use Rattle.mutex.specs.declared.phase.Onward.{Onward}
pub use Rattle.mutex.specs.declared.phase.Phase.{Phase}
pub use Rattle.mutex.specs.declared.phase.Phase.TheVariants.{AtCell, Clearing, Linking}
pub use Rattle.mutex.specs.declared.row.Row.TheVariants.{Consistent, TryLock}
pub use Rattle.mutex.specs.declared.try_lock.TryLockRow.{TryLockRow}
pub use Rattle.mutex.specs.declared.unlock.UnlockRow.TheVariants.{Load, Release}
pub use Rattle.mutex.specs.declared.unlock.UnlockRow.{UnlockRow}
pub use Rattle.condvar.proofs.Rights.{names, there}
pub use Rattle.condvar.specs.Calls.{condition_of}
pub use Rattle.condvar.specs.Laws.{cell_after, counter_after, met_word}
pub use Rattle.condvar.specs.Rows.{full}
pub use Rattle.condvar.specs.Standings.{CondWhole}
pub use Rattle.condvar.specs.Whole.{after_words, cond_access, cond_led, from_words}
pub use Rattle.condvar.specs.declared.broadcast.BroadcastRow.{BroadcastRow}
pub use Rattle.condvar.specs.declared.call.CondCall.{CondCall}
pub use Rattle.condvar.specs.declared.call.Limit.{Limit}
pub use Rattle.condvar.specs.declared.call.Limit.TheVariants.{Ahead, Past}
pub use Rattle.condvar.specs.declared.phase.CondOnward.{CondOnward}
pub use Rattle.condvar.specs.declared.phase.CondPhase.{CondPhase}
pub use Rattle.condvar.specs.declared.row.CondLed.{CondLed}
pub use Rattle.condvar.specs.declared.row.CondRow.{CondRow}
pub use Rattle.condvar.specs.declared.row.CondRow.TheVariants.{Awake, Broadcast, Signal}
pub use Rattle.condvar.specs.declared.signal.SignalRow.{SignalRow}
pub use Rattle.condvar.specs.declared.wait.WaitRow.{WaitRow}
pub use Rattle.exitwalk.specs.Steps.{OnlyWaits}
pub use Rattle.exitwalk.specs.Words.{sum_of}
pub use Rattle.exitwalk.specs.declared.row.Part.{Part}
pub use Rattle.exitwalk.specs.declared.row.Rest.{Rest}
pub use Rattle.exitwalk.specs.declared.row.Row.TheVariants.{LoadFirst, LoadNext, LoadOffset, LoadPending, LoadWord, Mark, WakeOne}
pub use Rattle.facts.specs.declared.fact.Begun.{Begun}
pub use Rattle.facts.specs.declared.fact.Fact.{Fact}
pub use Rattle.facts.specs.declared.fact.Fact.TheVariants.{Return}
pub use Rattle.facts.specs.declared.fact.Queue.{Queue}
pub use Rattle.facts.specs.declared.fact.Queue.TheVariants.{Condition, Mutex}
pub use Rattle.protocol.specs.Applies.{Names}
pub use Rattle.protocol.specs.Applies.{Applies, AtRest, Dead, EventsApply, Gone, HasAccess, InCall, IsAccessOf, IsInNoQueue, IsLiving, IsNotedAs, IsThread, NextApplies, Told, last_told, refusal, told_after, told_next}
pub use Rattle.protocol.specs.Explained.{IsExplained, TraceIsExplained, caller, caller_of}
pub use Rattle.protocol.specs.Headline.{HistoryIsLegal, NoReapedOwner, NoReapedOwns, facts_among, points_among, points_of, seen}
pub use Rattle.protocol.specs.Machine.{After, State, answer_of, begun, decision, falls_asleep, first_stage, happens, has_ended, held_after, is_alive, is_asleep}
pub use Rattle.protocol.specs.Machine.{is_calling, is_met, is_valid, joined, killed, Led, led, led_at, may_begin, moved_by, notes, nothing, place_met, put, queue_after, reply_at}
pub use Rattle.protocol.specs.Machine.{returned, returned_at, run, sleepers, sleeps, slept_in, stage_after, stage_at, stage_walked, stands_in, start, stepped, told_of, walked}
pub use Rattle.protocol.specs.Machine.{death_at, decided_at, departed, lapsed, mutex_at, reinited, renewed, spared, waiters_of, stands_at, went, woken, woken_by}
pub use Rattle.protocol.specs.Machine.{another_answers, answers, sparing, wakes_one}
pub use Rattle.protocol.specs.Machine.{a_walk_minds, is_left_to, is_owned, minds, overslept, waits_on, walk_minds}
pub use Rattle.protocol.specs.Spares.{AnotherAnswers, AWalkAnswers, IsLeftTo, In_unlock, In_wait, MaySpare, WakesOneOf}
pub use Rattle.protocol.specs.Reinits.{MayRemake}
pub use Rattle.protocol.specs.Notes.{death_facts, facts_of, line_of, lines_from, moves_to, point_facts, reap_facts, reinit_of, return_facts, sleep_facts}
pub use Rattle.condvar.specs.Ops.{mutex_of}
pub use Rattle.protocol.specs.Ops.{begun_of, queue_place}
pub use Rattle.protocol.specs.PassedBy.{ArePresets, BeginsNone, NobodyIsPassedBy, last_begun}
pub use Rattle.protocol.specs.Sleepers.{IsUnowned, IsWaiting, Sleeps}
pub use Rattle.protocol.specs.declared.event.Event.{Event}
pub use Rattle.protocol.specs.declared.event.LeftTo.{LeftTo}
pub use Rattle.protocol.specs.declared.event.Event.TheVariants.{Step}
pub use Rattle.condvar.specs.declared.op.Op.{Op}
pub use Rattle.condvar.specs.declared.op.Op.TheVariants.{OnCondition, OnMutex}
pub use Rattle.protocol.specs.declared.note.Note.{Note}
pub use Rattle.protocol.specs.declared.note.Note.TheVariants.{Began, Expired, Killed, Left, Nothing, Reinited, Renewed, Stepped, Walked}
pub use Rattle.protocol.specs.declared.thread.Stage.{Stage}
pub use Rattle.protocol.specs.declared.thread.Stage.TheVariants.{AtCondition, Calling, Dying, Idle, Reaped}
pub use Rattle.protocol.specs.declared.thread.Thread.{Thread}
