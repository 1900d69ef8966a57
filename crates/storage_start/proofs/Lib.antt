mod Elements
mod Fraction
mod Received
