pub mod Throughout
pub mod ExpressionsWritten
pub mod ExpressionsTyped
pub mod StatementsWritten
pub mod StatementsTyped
pub mod Bodies
pub mod Library
