pub mod Refusals
pub mod Adding
pub mod Balance
pub mod Fans
pub mod Closed
pub mod Limit
pub mod Keys
pub mod Corners
