pub mod Refusal
pub mod RefusalNames
pub mod Scope
pub mod Places
pub mod Scopes
pub mod Fields
pub mod Widening
pub mod Constant
