mod Counting
mod Having
mod Keeping
mod Quiet
mod Rows
mod Sweeping
