pub mod ScreenLemmas
