pub mod Refusals
pub mod Solids
pub mod Admission
pub mod Places
pub mod Containment
pub mod Words
