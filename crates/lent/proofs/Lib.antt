pub mod Passes
pub mod Numbers
pub mod Steps
pub mod Road
