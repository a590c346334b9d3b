pub mod BlockRules
pub mod Ends
pub mod Judging
pub mod Limits
pub mod RouteRules
pub mod Sheets
pub mod Traces
