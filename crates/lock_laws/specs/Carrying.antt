-- What is known of the lock queues after some groups of a run.
use Rattle.std.specs.Prelude.{[], true, ◌++◌, ◌≡◌}
use Rattle.ignite_types.specs.declared.journal.Journal.{Journal}
use Rattle.ignite_types.specs.declared.list.List.{List}
use Rattle.ignite_types.specs.declared.scenario.Scenario.{Scenario}
use Rattle.journal_statements.specs.Noted.{Noted, each_from}
use Rattle.journal_statements.specs.Waits.{grant_fits, one_holder}
use Rattle.lock_laws.specs.Tracking.{AllOwnersMatch, AreApart}
use Rattle.tx_model.specs.Opening.{session_nodes_from}
use Rattle.tx_model.specs.Runs.{IsLegal}
use Rattle.tx_model.specs.World.{World}

pub record LockInvariant (s : Scenario) (noted : List Noted) (w : World) : Type 0 where
  pub apart : AreApart w.parts
  pub tell : AllOwnersMatch noted w.parts
  pub session_nodes : w.session_nodes ≡ session_nodes_from 1 [] s.sessions
  pub plan : w.directory.plan ≡ s.plan

-- with what is noted next it is known still, and each grant among it fits
pub record LockStepInvariant (s : Scenario) (noted : List Noted) (after : World) (more : List Noted) : Type 0 where
  pub carries : LockInvariant s (noted ++ more) after
  pub pass : each_from (λ (before : List Noted) (n : Noted). grant_fits before n.node n.rec) noted more ≡ true

-- at every moment of a run at most one transaction holds a key at one node
abbrev pub OneHolder : Journal → Type 0
OneHolder j = IsLegal j → one_holder j ≡ true
