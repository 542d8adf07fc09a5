pub mod Records
pub mod Reader
pub mod Writer
pub mod RoundTrip
