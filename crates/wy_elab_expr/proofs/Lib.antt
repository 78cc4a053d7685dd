mod Forms
pub mod KernelViews
pub mod Listed
pub mod TextPlaces
pub mod Nearest
pub mod Primitives
pub mod Rows
pub mod Judging
pub mod Operands
pub mod Layers
pub mod Arms
pub mod Dots
pub mod Sequence
mod Examples
