pub mod SignatureRuns
