pub mod AsBox
pub mod AsChapterBox
pub mod GoodTogether
pub mod LastChapters
pub mod LastMade
pub mod Recorded
pub mod Written
