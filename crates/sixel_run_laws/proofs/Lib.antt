pub mod BoxLemmas
pub mod FormatLemmas
pub mod OneStringLemmas
pub mod RoundTripLemmas
pub mod DocumentLemmas
