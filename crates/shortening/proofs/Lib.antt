pub mod PartLemmas
pub mod TrialLemmas
pub mod WordLemmas
pub mod ReplayLemmas
pub mod ChoiceLemmas
pub mod PlanLemmas
