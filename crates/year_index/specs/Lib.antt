pub mod Years
