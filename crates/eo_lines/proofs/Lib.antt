pub mod HexBytes
pub mod FieldCuts
pub mod NumbersRead
pub mod SmallLines
