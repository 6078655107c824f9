pub mod Numbers
pub mod Cuts
pub mod Splits
pub mod Layouts
pub mod Rows
pub mod Plain
pub mod Takes
pub mod Parts
