pub mod SoFar
pub mod Grown
pub mod Laws
pub mod ItemLaws
