pub mod LineTexts
pub mod LineRefusals
pub mod TraceTexts
pub mod CountLemmas
pub mod PageLemmas
pub mod FollowLemmas
pub mod TurnWords
pub mod CallLemmas
