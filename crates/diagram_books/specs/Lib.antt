pub mod Bases
pub mod BitBooks
pub mod Checks
pub mod ColumnBooks
pub mod Links
pub mod Tables
