pub mod Has
pub mod KeyExact
pub mod LeftBound
pub mod PairOrder
pub mod RangeOf
pub mod RightsOf
