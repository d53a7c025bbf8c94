mod Lists
mod OwnLemmas
mod ParentLemmas
mod ReasonLemmas
mod TreeLemmas
mod VisitLemmas
mod WayLemmas
