mod Turns
mod Sets
