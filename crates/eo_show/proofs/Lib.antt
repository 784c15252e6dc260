mod Vectors
pub mod FormFacts
pub mod Lower
pub mod Order
pub mod PartsHold
pub mod FreeNames
pub mod Named
pub mod Leaves
pub mod Depths
pub mod Measured
pub mod Printable
pub mod LinesPrint
pub mod AllMembers
pub mod Items
pub mod Found
pub mod Lookups
pub mod FormOf
pub mod Kept
pub mod Turns
pub mod Same
pub mod Counting
pub mod NumberedLines
pub mod Looks
pub mod Ranges
pub mod Numbering
pub mod Atoms
mod Sized
mod MembersAt
mod FormLists
mod WrittenParts
mod WrittenLines
