pub mod RewriteRefusals
pub mod Places
pub mod Rooms
pub mod Removals
pub mod Edited
pub mod WrittenImages
pub mod Relocations
