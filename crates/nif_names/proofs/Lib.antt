pub mod MarkLemmas
pub mod PlaceLemmas
mod ShapeLemmas
pub mod TableLemmas
