pub mod SignatureParts
pub mod Signatures
pub mod X509
pub mod NameWalks
