mod Accepted
mod Taken
mod Stepping
mod Whole
