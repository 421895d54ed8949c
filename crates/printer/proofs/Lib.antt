pub mod Printed
pub mod OwnBytes
pub mod ListingBound
pub mod Told
