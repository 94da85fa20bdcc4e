pub mod Jobs
pub mod Laws
pub mod Orders
pub mod Preemption
pub mod Named
