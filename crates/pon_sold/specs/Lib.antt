pub mod Chapters
pub mod Tables
pub mod Watches
