pub mod RunPosition
pub mod ResolvedLines
pub mod ResolvedViews
pub mod Messages
