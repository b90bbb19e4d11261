mod Vocabulary
mod Cases
pub mod Puts
mod NoteFacts
pub mod Phases
mod Objects
mod Counts
pub mod Seeing
pub mod Kept
pub mod Places
pub mod Steps
pub mod Owning
pub mod Arrivals
mod WalksLeft
pub mod Frames
pub mod Stepping
pub mod CallSteps
pub mod CellSteps
pub mod OwnWords
pub mod Leaving
pub mod OwnSteps
pub mod Accesses
pub mod Walking
pub mod WalkSteps
pub mod WalkStepping
pub mod CondRows
pub mod CondSteps
pub mod CondOwn
pub mod CondAccesses
pub mod Events
pub mod Working
pub mod Queues
pub mod Queued
mod Departures
pub mod Declines
pub mod Sparing
pub mod Expiring
pub mod Oversleeping
pub mod Renewals
pub mod Reinits
pub mod Lists
pub mod Runs
pub mod QueueRuns
pub mod Reaped
pub mod Deaths
pub mod Endings
pub mod Acts
mod LineOrder
pub mod Lives
pub mod Owed
pub mod Returning
pub mod Comings
pub mod CondAlone
pub mod Undivided
pub mod Applying
pub mod InTurn
pub mod Counters
pub mod Passing
mod CallsTold
mod Unlimited
pub mod Splits
pub mod PassedBy
pub mod Emptied
pub mod Learnt
mod Callers
pub mod Waking
pub mod Woken
pub mod Signalling
mod WaitersBit
mod Lone
mod Anew
mod Unusable
pub mod Changing
mod Bounded
mod Counting
mod Releases
mod WalksOn
pub mod LoneExpiries
mod Lateness
pub mod TimeLimits
