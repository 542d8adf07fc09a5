pub mod Flat
pub mod AllPlaced
pub mod Joined
