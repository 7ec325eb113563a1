mod Matching
mod Ranges
