pub mod Stretch
pub mod Grammar
pub mod Cycles
pub mod Demand
pub mod Laws
