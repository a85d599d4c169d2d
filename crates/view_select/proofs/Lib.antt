pub mod ShownRuns
pub mod TableSources
pub mod ViewSelects
pub mod WellFormedViews
pub mod WholeRows
