pub mod Trees
pub mod Moving
