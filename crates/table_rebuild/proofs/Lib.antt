-- Laws of rows that a build leaves in a bucket's room and in the work area.
pub mod Filling
