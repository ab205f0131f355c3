pub mod Placing
pub mod Within
pub mod Planned
pub mod Rising
pub mod Searching
pub mod FirstLayers
