mod Counts
mod Fresh
mod Held
mod Placed
mod Shown
mod Spares
mod Verdicts
