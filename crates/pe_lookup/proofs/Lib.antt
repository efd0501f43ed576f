pub mod Halving
pub mod IndexSearches
pub mod Lookups
