pub mod Shards
pub mod Queues
