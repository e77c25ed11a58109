pub mod Takes
pub mod CallEqual
