mod Feeding
mod Frames
