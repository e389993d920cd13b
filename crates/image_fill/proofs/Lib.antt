-- A room filled row by row.
mod Filling
