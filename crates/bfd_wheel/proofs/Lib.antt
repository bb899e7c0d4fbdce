mod Common
pub mod Rings
pub mod Wheels
pub mod TakenIds
pub mod Order
pub mod Walk
pub mod Swept
pub mod Views
pub mod Linking
