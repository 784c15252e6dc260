pub mod Every
pub mod Places
pub mod Texts
pub mod ByWord
pub mod Behind
