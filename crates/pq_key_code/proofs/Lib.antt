pub mod Bytes
pub mod CodeBytes
pub mod Escapes
pub mod Fronts
pub mod Order
pub mod Loop
pub mod Reading
pub mod StoreKeys
