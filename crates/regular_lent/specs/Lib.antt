-- The regular grid that slices describe.
pub mod Regular
