pub mod Named
pub mod AtOnce
