mod HeldLaws
mod StoreLaws
