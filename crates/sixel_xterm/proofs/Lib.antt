pub mod PenLemmas
pub mod XTermLemmas
pub mod SettingLemmas
