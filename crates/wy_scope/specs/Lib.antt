pub mod Regions
pub mod Graph
pub mod Scope
pub mod Passing
pub mod Evidence
pub mod Items
pub mod Laws
pub mod Kept
