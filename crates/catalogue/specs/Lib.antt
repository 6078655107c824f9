pub mod Forms
pub mod Content
pub mod Sections
pub mod Whole
pub mod NumberLaws
pub mod WordLaws
pub mod Desk
