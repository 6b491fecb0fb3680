mod Beginnings
mod Failing
mod Keeping
mod Promises
mod Refusals
mod Runs
