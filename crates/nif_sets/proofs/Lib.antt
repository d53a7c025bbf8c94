pub mod EqualLemmas
pub mod InsideLemmas
pub mod KeepLemmas
pub mod KeyLemmas
pub mod LikeLemmas
pub mod SetLemmas
