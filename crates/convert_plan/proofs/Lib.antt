mod Found
mod Placed
