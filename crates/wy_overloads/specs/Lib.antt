pub mod Candidates
pub mod Choice
pub mod Lineage
pub mod LineageView
pub mod Laws
