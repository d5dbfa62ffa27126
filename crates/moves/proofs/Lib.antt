-- A Topic's strings lie within its datagram.
pub mod Strings
