pub mod MlTermLemmas
pub mod PastLemmas
pub mod SettingLemmas
