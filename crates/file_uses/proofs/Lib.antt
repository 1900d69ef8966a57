mod Appended
mod InTable
mod Added
