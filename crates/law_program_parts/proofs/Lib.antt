pub mod BodiesLists
pub mod Headers
pub mod Keeping
pub mod Classes
pub mod Concrete
pub mod Called
pub mod Fitting
mod DeclaredRows
mod Made
mod Lengths
mod Interfaces
mod DeclaredTexts
mod Mains
mod MainRows
mod TreeMains
pub mod MembersLists
pub mod Places
pub mod Fields
pub mod Standing
mod Weights
mod Trees
mod TableRows
pub mod Tables
mod Rising
mod Names
mod Alone
mod Main
pub mod RunningLists
pub mod Climb
pub mod Codes
pub mod Results
pub mod Chains
pub mod Dispatch
pub mod Rules
pub mod Alike
pub mod Inherited
pub mod Runs
pub mod Hierarchy
pub mod Compared
pub mod Abstract
pub mod RunningTexts
pub mod TypedMade
pub mod Growing
pub mod Members
pub mod Rows
pub mod Bodies
pub mod Shapes
pub mod Programs
pub mod TypedNames
