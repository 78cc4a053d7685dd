pub mod FormViews
pub mod Superclasses
