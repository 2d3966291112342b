pub mod FreeModule
pub mod Images
pub mod Relations
pub mod NumberedImages
