pub mod DebugLaws
pub mod DumpLaws
pub mod WalkStarts
pub mod ImageDebug
pub mod ImageOfCalls
pub mod HeadersRead
pub mod AnyParts
pub mod ItemFailures
