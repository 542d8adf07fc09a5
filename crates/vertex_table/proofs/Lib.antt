pub mod Bound
pub mod Gather
pub mod Good
pub mod Keys
pub mod Numbers
pub mod Same
pub mod Slots
pub mod Use
