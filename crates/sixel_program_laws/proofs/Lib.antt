pub mod SaidLemmas
pub mod EmptyLemmas
pub mod ReadBackLemmas
pub mod ValueLemmas
pub mod FeedLemmas
