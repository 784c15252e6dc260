pub mod Words
pub mod Shapes
pub mod Parameters
pub mod Cases
pub mod Sequences
pub mod Reading
pub mod Rules
pub mod Forms
