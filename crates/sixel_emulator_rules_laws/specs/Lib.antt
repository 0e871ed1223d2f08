pub mod Witnesses
pub mod Stale
pub mod Laws
pub mod Wrong
