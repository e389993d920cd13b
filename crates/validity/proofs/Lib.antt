-- The rules' word for "each element passes" and the library's.
pub mod Every
