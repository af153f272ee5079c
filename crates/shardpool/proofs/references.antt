-- A lane's references: the rows that count them, the shares under them, and what a caller is told of them.
pub mod Rows
pub mod RowChanges
pub mod Holdings
pub mod Standings
