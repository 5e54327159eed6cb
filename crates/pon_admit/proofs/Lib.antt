pub mod AdmittedSets
pub mod Equality
pub mod OneRow
pub mod Refusals
pub mod RefusedSets
pub mod Rules
