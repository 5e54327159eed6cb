mod Answered
mod Drawn
mod Replies
