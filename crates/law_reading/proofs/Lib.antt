pub mod OneSteps
pub mod Answered
pub mod ReferringNumbers
pub mod Fields
pub mod ReferringEvents
pub mod ReferringTraces
pub mod SpelledNumbers
pub mod Versions
pub mod Heads
pub mod Tails
pub mod Slots
pub mod SpelledSteps
pub mod SpelledValues
mod Told
pub mod Uses
pub mod SpelledEvents
pub mod Progress
pub mod SpelledTraces
mod Prefixes
mod Back
mod BackParts
mod BackValues
mod EventLengths
mod BackEvents
mod BackTraces
mod BackEnds
mod EndsApart
mod ReadableSteps
mod Parts
mod ReadableValues
mod ReadableEvents
mod Ends
mod Frames
pub mod Runs
mod Closings
mod ReadableTraces
