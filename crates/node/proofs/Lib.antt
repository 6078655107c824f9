pub mod Places
pub mod ColumnLinks
pub mod ColumnReading
pub mod ColumnLaws
pub mod Widths
pub mod BitFollows
pub mod BitReaches
pub mod BitLaws
