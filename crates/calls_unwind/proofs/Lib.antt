mod Cited
pub mod Arm64CodeRuns
pub mod Arm64Maps
pub mod CodeRuns
pub mod EvenRecords
pub mod FunctionPlans
pub mod Indices
pub mod PlanEnds
pub mod PlanSteps
pub mod PutCodes
pub mod RecordRanges
pub mod Rings
pub mod TableLinks
pub mod TableLookups
pub mod Ways
pub mod CodeBytes
pub mod StepFailures
