pub mod ClaimFacts
