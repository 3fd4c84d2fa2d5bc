-- What no clause of a public call names: it is for views, invariants and other ghost members, private functions and proofs.
pub mod Sending
