pub mod Numbering
pub mod LeafLemmas
pub mod Pigeonhole
pub mod WalkLemmas
pub mod LineLemmas
pub mod LineLaws
