pub use Rattle.own_base.specs.Key
pub use Rattle.own_base.specs.Name
pub use Rattle.own_base.specs.Row
pub mod Db
pub mod FaultText
pub mod Stored
pub mod TextBytes
