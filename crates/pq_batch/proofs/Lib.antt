mod Codes
mod Nexts
mod Rounds
mod Shown
mod Worlds
