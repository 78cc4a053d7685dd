pub mod Rules
pub mod Forms
pub mod Programs
pub mod Tasks
