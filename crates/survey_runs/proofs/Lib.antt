mod Below
mod Closed
