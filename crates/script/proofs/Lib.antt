mod Places
mod Readings
mod Trimming
