pub mod LineLemmas
pub mod HexLemmas
pub mod WrongLemmas
mod MistakeLemmas
