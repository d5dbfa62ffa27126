-- What a reader must believe of the listing of a datagram: text in a lent output, then numbers, then the lines.
pub mod Text
pub mod Decimal
pub mod Lines
