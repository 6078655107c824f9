pub mod Costs
pub mod Days
pub mod Money
pub mod Special
pub mod TrueSums
pub mod MoneyLaws
pub mod DaysLaws
pub mod SpecialLaws
