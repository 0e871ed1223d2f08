pub mod Texts
pub mod Conversions
pub mod RuleSets
pub mod Firsts
pub mod Differing
pub mod Lines
pub mod Outputs
pub mod Exits
