pub mod FileReads
pub mod ErrorDues
pub mod Replies
pub mod AnswerLemmas
pub mod Delivered
pub mod OneText
pub mod OneTrace
pub mod RunAnswers
pub mod Sessions
pub mod Explored
pub mod Opened
pub mod Requests
pub mod Generated
pub mod LeftLemmas
mod OwnTraces
mod Certified
mod Sound
mod AnewTellings
mod Migrated
pub mod Paging
pub mod Fronts
pub mod Scenes
