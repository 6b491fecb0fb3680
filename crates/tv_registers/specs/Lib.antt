pub mod BitSets
pub mod Sharing
pub mod Registers
pub mod Managers
pub mod Merges
