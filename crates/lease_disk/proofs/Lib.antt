mod Bytes
mod Changes
mod Gated
mod Kept
mod Model
mod Restart
