mod Answering
mod Emptiness
mod Lowering
mod Pools
