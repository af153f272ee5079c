mod Guarding
mod Slots
mod Rows
mod Whole
mod Seating
mod Lending
