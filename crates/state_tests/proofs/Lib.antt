pub mod BoundStatements
mod KeptStores
mod KeptNext
mod Readiness
