pub mod Arm64
pub mod Plans
pub mod Unwinding
pub mod CodeBytes
