pub mod ReadImage
pub mod Runs
pub mod SoundImages
pub mod GatedImages
