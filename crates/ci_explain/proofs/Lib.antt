mod Leaving
mod Saying
mod Turns
mod Fitting
mod OneLine
