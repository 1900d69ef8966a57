mod Again
mod Csv
mod Loops
