mod Filling
mod Masking
