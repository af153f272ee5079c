mod GraphLemmas
mod Safe
mod WordLemmas
