mod Points
mod Numbers
mod Rest
