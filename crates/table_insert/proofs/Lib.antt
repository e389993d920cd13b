-- Laws of the buckets below another, one after the other, and of an accepted add.
pub mod Below
pub mod PutIn
