pub mod Lists
pub mod Changes
mod Cards
mod Counts
pub mod Held
pub mod Keepers
mod Moves
mod Hands
mod Gathering
mod AllMeet
mod Behind
mod Apart
mod Steps
mod Turned
pub mod Exchanges
mod Standing
mod Phases
mod Making
mod Accesses
pub mod Beginnings
mod Looks
mod Trims
mod OwnWords
mod Counters
mod ConditionSteps
mod Acting
mod Sections
mod Walking
mod Marking
mod WalkBeginnings
mod WalkPlaces
mod WalkSteps
mod Listing
pub mod Noted
mod Finishing
mod Freeing
pub mod Fates
mod Turning
mod OwnTurns
mod CellTurns
mod SectionPlaces
mod Ranks
mod Advancing
mod Stepping
mod Stretching
mod Settling
mod StepsOfCalls
pub mod InLine
mod Releasing
mod ReleaseSteps
mod ConditionActs
mod ConditionReleases
mod ConditionTurns
mod ConditionStands
mod ConditionKeeps
