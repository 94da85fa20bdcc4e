pub mod Sided
pub mod Strictly
pub mod Fitting
pub mod Telling
