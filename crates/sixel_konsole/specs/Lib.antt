pub mod Konsole
pub mod KonsoleSeen
pub mod KonsoleMeasured
pub mod Measuring
pub mod Settings
