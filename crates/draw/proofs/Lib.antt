mod Agree
mod First
mod Kept
mod Large
mod Solved
