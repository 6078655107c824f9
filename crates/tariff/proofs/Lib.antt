pub mod SpecialSums
pub mod StoppedSums
pub mod Totals
