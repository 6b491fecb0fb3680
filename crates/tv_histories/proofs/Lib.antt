mod Counted
mod Events
mod Mixing
mod Places
mod Races
mod Standing
