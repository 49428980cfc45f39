pub mod Clusters
pub mod Tops
pub mod Places
pub mod Numbers
pub mod Layouts
