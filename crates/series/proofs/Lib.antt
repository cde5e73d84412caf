mod Rows
mod Recursion
mod Fourier
