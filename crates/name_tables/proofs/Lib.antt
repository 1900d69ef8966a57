mod InNames
mod Least
