pub mod Chains
pub mod Executed
pub mod Evidence
pub mod Targets
pub mod Items
pub mod Laws
