mod Lefts
mod Runs
