mod Examples
pub mod ExpressionViews
pub mod Parts
pub mod Rows
pub mod Shapes
pub mod Productions
pub mod Steps
pub mod StatementViews
pub mod Heads
pub mod StatementProductions
