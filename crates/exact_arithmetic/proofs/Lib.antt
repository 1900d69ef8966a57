pub mod NarrowLaws
pub mod TextLaws
