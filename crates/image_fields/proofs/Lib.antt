-- Slots read one by one.
mod Slots
