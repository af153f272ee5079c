pub mod Books
pub mod Going
pub mod WordLemmas
pub mod PoolLemmas
pub mod StandingLemmas
