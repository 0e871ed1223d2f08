pub mod PairLemmas
pub mod WitnessLemmas
pub mod ExactLemmas
mod WorkedRules
pub mod RoomLemmas
pub mod OnePixel
