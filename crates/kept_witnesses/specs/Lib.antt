pub mod StoredOver
pub mod SizedWitnesses
pub mod Renumbering
pub mod KeptWords
pub mod EntryFlags
pub mod PassLaws
pub mod PassSteps
