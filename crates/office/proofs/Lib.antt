pub mod Alikeness
pub mod Answered
pub mod Deciding
pub mod Endurance
pub mod Forming
pub mod Handlings
pub mod Holding
pub mod Judged
pub mod Replies
pub mod RunSoFar
pub mod SessionSteps
pub mod SoundOffice
pub mod ToldMoments
pub mod Without
pub mod Obeyed
pub mod Possible
pub mod Once
pub mod RepeatEdges
pub mod Repeats
pub mod Standing
pub mod Placing
pub mod Begun
pub mod BodySteps
pub mod BodyWaits
pub mod StepWaits
pub mod Told
pub mod Resumptions
pub mod KeeperCalls
pub mod Questions
pub mod StagedSoFar
pub mod Stagings
mod Foreseen
mod Staged
mod Unstaged
mod Replied
pub mod RunTurns
pub mod SeatTurns
pub mod Sitting
pub mod Weaving
pub mod Counting
pub mod CrowdTurns
mod Needs
pub mod WithoutInTurn
pub mod Endings
pub mod Turns
pub mod Asides
pub mod SeatAsides
pub mod ReplayLemmas
