pub mod Checked
pub mod CheckedItem
pub mod InFind
pub mod InIndex
pub mod InNames
pub mod InSections
pub mod Laid
pub mod Telling
