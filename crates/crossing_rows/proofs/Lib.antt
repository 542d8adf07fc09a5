pub mod Listings
pub mod Rowwise
pub mod Room
pub mod Along
