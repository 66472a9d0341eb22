pub mod Promised
pub mod Demand1
pub mod Demand2
pub mod LeastBits
pub mod Printed
pub mod Undoing
pub mod Demand3
pub mod Starred
