pub mod HeaderReading
