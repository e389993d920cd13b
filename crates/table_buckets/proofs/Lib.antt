-- Laws of a bucket's places in a table, and of rows given back after a loan.
pub mod Places
