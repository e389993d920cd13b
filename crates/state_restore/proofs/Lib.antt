-- What the tests of a part say.
mod Parts
