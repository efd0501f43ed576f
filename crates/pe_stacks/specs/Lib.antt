pub mod DumpMemory
pub mod Images
pub mod MemoryRuns
pub mod Names
pub mod ThreadContexts
pub mod ThreadWalks
