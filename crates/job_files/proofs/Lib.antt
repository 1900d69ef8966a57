mod LoadLaws
mod NumberLaws
mod ShelfLaws
mod WriteLaws
