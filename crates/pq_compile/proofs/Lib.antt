pub mod Best
pub mod CandidateNodes
pub mod ChosenRows
pub mod Plans
