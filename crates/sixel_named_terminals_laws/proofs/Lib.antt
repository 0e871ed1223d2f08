pub mod BandLemmas
