pub mod Records
pub mod Following
pub mod Steps
pub mod Grammar
pub mod Files
pub mod Shown
pub mod Refusals
pub mod RoundTrip
