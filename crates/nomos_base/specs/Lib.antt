pub mod Faults
pub mod Source
pub mod Sink
pub mod WholeRead
pub mod Memory
pub mod Gas
