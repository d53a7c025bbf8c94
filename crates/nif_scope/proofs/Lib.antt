mod BitNames
pub mod Growing
mod KeptMembers
mod KeptPaths
mod KeptRules
mod KeptValues
mod KeptWidths
mod KnownKinds
mod OneMore
mod OpenFields
pub mod OpenLine
mod Places
mod Powers
