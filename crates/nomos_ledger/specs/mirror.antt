pub mod StartArguments
pub mod Books
pub mod Fired
pub mod StartedLines
pub mod ContractNames
pub mod Worlds
pub mod Resolving
