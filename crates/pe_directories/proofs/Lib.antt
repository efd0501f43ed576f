mod Cited
pub mod WholeWalks
pub mod SectionRuns
pub mod LoadedImages
pub mod LoadedReads
pub mod WalkLists
pub mod WordsLeft
pub mod MovedWords
pub mod OtherBytes
pub mod DelayLists
pub mod RelocationWalks
pub mod OtherWalks
pub mod RichHeaders
pub mod SectionTexts
pub mod DrainedWalks
