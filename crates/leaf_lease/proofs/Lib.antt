mod Files
mod Fresh
mod Moments
