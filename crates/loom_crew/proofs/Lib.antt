mod Progress
mod Rounds
