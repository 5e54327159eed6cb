pub mod MapWriting
pub mod OneFault
pub mod OneMap
pub mod ReadsBack
pub mod RowReading
pub mod SeriesLaw
pub mod SeriesRules
pub mod WholeMap
