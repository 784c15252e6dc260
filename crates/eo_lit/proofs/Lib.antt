mod Vectors
pub mod Digits
pub mod HexDigits
pub mod Words
pub mod Escapes
pub mod Characters
pub mod Spellings
pub mod StringSpellings
