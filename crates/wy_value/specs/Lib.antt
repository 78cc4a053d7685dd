pub mod Number
pub mod Operator
pub mod Conversion
pub mod Text
pub mod Numeral
pub mod Encoding
pub mod Value
