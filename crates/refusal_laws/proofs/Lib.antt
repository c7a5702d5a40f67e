pub mod BestMaps
pub mod OtherEvents
pub mod RefusalLaws
