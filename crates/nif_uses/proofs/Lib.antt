mod Lists
mod Links
mod Marking
mod Spreading
