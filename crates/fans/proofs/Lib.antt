pub mod Ranks
pub mod Fans
pub mod Numbering
