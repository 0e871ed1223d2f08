pub mod DeviceLemmas
pub mod SinkLemmas
pub mod KeptLemmas
