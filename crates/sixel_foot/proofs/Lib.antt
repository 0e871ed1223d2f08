pub mod FootLemmas
pub mod FootColourLemmas
pub mod SettingLemmas
