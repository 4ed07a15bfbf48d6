mod Chain
mod Passed
