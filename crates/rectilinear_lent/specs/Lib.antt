-- The rectilinear grid that slices describe.
pub mod Rectilinear
