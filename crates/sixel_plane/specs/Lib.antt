pub mod Stretches
pub mod BytePlanes
pub mod BandPlanes
pub mod Covers
pub mod CoverPlanes
pub mod Lanes
