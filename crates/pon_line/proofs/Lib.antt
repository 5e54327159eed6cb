pub mod AskedEvents
pub mod Asking
mod FieldWords
pub mod LongLines
pub mod OtherLines
