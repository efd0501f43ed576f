pub mod AppendedRuns
pub mod FullMemory
pub mod Headline
pub mod NearestNames
pub mod NoMemory
pub mod RunBytes
pub mod RunSteps
