pub mod FitLaws
pub mod FormLaws
pub mod HeldLaws
pub mod MeansLaws
pub mod PictureLaws
