pub mod LaneLemmas
pub mod PaintedLemmas
pub mod ByteLemmas
pub mod BandLemmas
pub mod StretchLemmas
pub mod PlaneStretchLemmas
pub mod CoverLemmas
