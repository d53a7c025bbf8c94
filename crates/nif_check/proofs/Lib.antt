pub mod ReasonLemmas
pub mod RootLemmas
pub mod FaultLemmas
pub mod ValueLemmas
