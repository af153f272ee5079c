pub mod frame
pub mod references
pub mod free
pub mod calls
pub mod at_close
pub mod count
pub mod parts
