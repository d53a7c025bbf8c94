mod Counting
mod Cutting
mod Lines
