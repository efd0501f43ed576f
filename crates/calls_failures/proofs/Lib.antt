pub mod FailureParts
pub mod IndexedCalls
pub mod OneRun
pub mod OneParts
pub mod OneImports
pub mod OneResources
pub mod UnwindFailures
