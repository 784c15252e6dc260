mod Vectors
pub mod Numbers
pub mod Bits
pub mod Places
pub mod Answered
