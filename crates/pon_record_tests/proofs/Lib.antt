mod SameChapters
mod GoodHistories
mod LawfulEvents
mod EachVerdict
