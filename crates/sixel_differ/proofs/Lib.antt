pub mod PixelLemmas
mod ViewLemmas
pub mod FaultLemmas
pub mod DrawingLemmas
pub mod ShowingLemmas
