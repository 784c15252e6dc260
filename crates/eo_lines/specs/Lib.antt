pub mod Lines
pub mod Forms
pub mod Sizes
pub mod Reading
