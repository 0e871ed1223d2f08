pub mod TasklessLemmas
pub mod LiteralLemmas
pub mod FlagLemmas
pub mod WishLemmas
