pub mod PhaseLaws
pub mod ReadLaws
pub mod ViewLaws
pub mod Advances
pub mod InPlace
pub mod Counts
