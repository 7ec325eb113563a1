mod Statuses
mod KeptPromise
mod Endings
mod Outputs
mod DueEndings
