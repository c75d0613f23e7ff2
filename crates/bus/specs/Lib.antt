pub mod Run
pub mod Read
pub mod Held
pub mod Promises
