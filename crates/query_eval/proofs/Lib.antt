pub mod BaseRows
mod BoundSelects
mod CandidateLemmas
pub mod EnoughLemmas
mod FoundWeaker
pub mod HeldRows
mod JoinCandidates
pub mod JoinedRows
pub mod KeptByValue
pub mod KeyPlaces
pub mod KeySpans
mod LinkedSelects
pub mod MeetingByKey
pub mod MeetingHolders
pub mod MeetingRows
pub mod NamedRows
pub mod OrderedEntries
pub mod Replies
pub mod RowGroups
pub mod Runs
pub mod RunsLeft
pub mod ShowColumns
pub mod ShownGroups
pub mod SortedByColumn
pub mod SpanRows
pub mod StoredRows
pub mod TableRows
pub mod Tallies
mod WantedLemmas
