pub mod Words
pub mod WorkLemmas
pub mod TurnLemmas
pub mod PlanLemmas
