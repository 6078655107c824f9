pub mod Numbers
pub mod Words
pub mod Lines
pub mod Filled
pub mod Stages
pub mod Verdicts
pub mod Held
