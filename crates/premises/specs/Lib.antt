pub mod PushedRows
pub mod BufferedPremises
pub mod FilledPremises
pub mod DisjunctPlaces
