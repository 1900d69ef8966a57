mod CheckLaws
mod WriteLaws
