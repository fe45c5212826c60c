pub mod Regions
pub mod Window
pub mod RegionRows
pub mod KnownRows
pub mod Places
