pub mod Tables
pub mod Sums
pub mod Streams
pub mod Registers
pub mod IndexFirsts
