pub mod BoundStatements
mod CalmEvents
mod Carried
mod CheckpointEvents
mod CommitEvents
pub mod Commits
pub mod CreatedTables
mod Erased
mod Decided
pub mod FewColumns
pub mod Forgotten
pub mod Judged
mod KeptSchemas
mod JudgedCreates
mod LookEvents
mod LookSteps
pub mod Nets
mod NextWorlds
mod OpenStates
mod OutsideReplies
mod PromptEvents
mod Puts
mod RecordedCreates
mod Images
mod InstalledEvents
mod RepresentsLemmas
pub mod Sent
pub mod SentTxns
mod ServedCalls
mod Sizes
mod StatedEvents
mod Stood
mod UnmadeEvents
pub mod Writes
pub mod EngineStands
mod MadeCalls
