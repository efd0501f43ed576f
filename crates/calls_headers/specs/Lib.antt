pub mod Debug
pub mod Headers
pub mod Coff
