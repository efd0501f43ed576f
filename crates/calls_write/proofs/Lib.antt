pub mod DigestParts
pub mod ResourceEdits
pub mod SignedFiles
