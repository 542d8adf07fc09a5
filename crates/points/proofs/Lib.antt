pub mod Order
pub mod Hold
