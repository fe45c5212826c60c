pub mod Alike
pub mod Asked
pub mod DecidingRules
pub mod GivenLabels
pub mod KnownLabels
pub mod LabelRanges
pub mod LabelSets
pub mod RouteSteps
