mod Ready
mod Rest
mod Sound
