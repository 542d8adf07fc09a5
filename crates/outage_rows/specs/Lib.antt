pub mod Row
pub mod Bounds
pub mod Box
pub mod Boxed
pub mod Boxes
