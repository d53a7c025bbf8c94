mod Gives
mod Lines
mod Parts
mod Writes
