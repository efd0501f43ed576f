pub mod PdbStreams
pub mod PdbRanges
pub mod PdbReadings
