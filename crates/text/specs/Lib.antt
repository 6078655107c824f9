pub mod Fields
pub mod Tokens
pub mod Lines
pub mod Layouts
