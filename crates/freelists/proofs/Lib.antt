pub mod ShardLemmas
pub mod QueueLemmas
pub mod FreeLemmas
