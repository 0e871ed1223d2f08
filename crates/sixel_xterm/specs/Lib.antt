pub mod XTerm
pub mod XTermSeen
pub mod Settings
