mod Prefixes
mod Rereading
mod Steps
