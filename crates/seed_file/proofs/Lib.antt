mod Rest
mod Shape
