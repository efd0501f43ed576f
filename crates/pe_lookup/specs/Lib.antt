pub mod AddressRanges
pub mod SectionIndexes
pub mod SectionSearch
