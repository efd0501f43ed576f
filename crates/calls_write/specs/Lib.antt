pub mod Signing
pub mod ResourceEdits
pub mod ImageWrites
