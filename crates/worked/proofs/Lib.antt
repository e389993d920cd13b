-- The definitions of the rules run on small herds.
mod Computing
mod Running
mod Starred
mod Removals
mod Searches
mod EqualTags
mod Refused
mod Imaged
mod FirstFaults
mod Nationals
mod Alike
mod EndsAlike
mod ShutOut
mod Batches
mod PlainUses
