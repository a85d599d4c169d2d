mod CreatedOwners
mod CreatedShelves
mod FewRows
mod Indexed
mod Laid
mod LoneChange
mod NamedRows
mod OneChange
mod PartsAfter
pub mod PutLemmas
mod SameOwners
pub mod TheirParts
mod ViewsKept
