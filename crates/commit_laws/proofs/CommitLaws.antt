-- The law of applied writes, of each journal.
use Rattle.std.proofs.Common.{◌≡◌, ℕ, true}
use Rattle.commit_laws.proofs.CommitEvents.{commits_lead, commits_open}
use Rattle.commit_laws.specs.CommitFacts.{CommitInvariant}
use Rattle.commit_laws.specs.CommitLaws.{applies_are_committed}
use Rattle.ignite_types.specs.declared.journal.Journal.{Journal}
use Rattle.scenes.proofs.EachRun.{few}
use Rattle.scenes.specs.EachRun.{IsRunOf, is_short_run}
use Rattle.transaction_laws.proofs.CountedRuns.{counted_holds}

pub applies_hold : (events : ℕ) → is_short_run events ≡ true → (j : Journal) → IsRunOf events j → applies_are_committed j ≡ true
applies_hold events short j run =
    (counted_holds CommitInvariant commits_lead (λ s is. commits_open s) j run.is_good (few events short j run)
    run.is_legal).commits.applied
