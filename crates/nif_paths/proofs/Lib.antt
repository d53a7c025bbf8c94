pub mod Lists
pub mod LevelLemmas
pub mod PathLemmas
pub mod RunLemmas
pub mod ShapeLemmas
pub mod StopLemmas
pub mod TableLemmas
