-- Load's checks, one after the other, and the table that it leaves.
mod Steps
mod Loading
