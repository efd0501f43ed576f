pub mod Failures
pub mod DirectoryFailures
pub mod DebugFailures
pub mod ImageParts
pub mod StepFailures
pub mod ResourceFailures
pub mod UnwindFailures
pub mod Arm64Failures
