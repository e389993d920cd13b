pub mod OfOrder
