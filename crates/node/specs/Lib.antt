pub mod Bits
pub mod Columns
pub mod Forms
