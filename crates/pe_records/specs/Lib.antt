pub mod Certificates
pub mod CertificateWriting
pub mod DebugDirectory
pub mod DebugRecords
pub mod Parts
pub mod Pogo
pub mod DebugSpelling
pub mod ManagedDebug
