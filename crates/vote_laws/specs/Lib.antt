pub mod VoteFacts
pub mod VoteViews
pub mod VoteInvariant
pub mod VoteLaws
