pub mod MapRules
