-- Laws and theorems that belong to no one function.
pub mod Decimal
pub mod InOrder
pub mod Room
pub mod Cases
