-- What a lane has of the places of a directory.
-- What stands in a row after a write, and in a row of one value, and what is seen of the rows then.
pub mod RowLemmas
pub mod Shown
