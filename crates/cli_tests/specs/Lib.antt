pub mod Outcome
pub mod Plan
pub mod PolicyTest
pub mod ScenarioTest
