pub mod MlTerm
pub mod MlTermSeen
pub mod Settings
