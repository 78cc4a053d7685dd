pub mod Contained
pub mod Leasts
pub mod Keyed
pub mod Numbering
pub mod Monotone
pub mod Least
pub mod Sweeps
pub mod Learning
pub mod InRange
pub mod ProgramTables
mod ConstantExamples
pub mod Cycles
pub mod Duplicates
pub mod Unknowns
pub mod Overrides
pub mod Firsts
pub mod Judgings
pub mod Knowns
pub mod KnownParts
pub mod KnownMembers
pub mod Judgeable
pub mod Library
pub mod Written
mod Shapes
pub mod Judged
mod Repeated
mod Unknown
pub mod Inherited
pub mod Listed
pub mod Alone
pub mod Alike
mod Supertypes
mod Overriding
mod Unimplemented
pub mod OneRefusal
mod Refused
