-- The laws of what starters ask and are told, of each journal.
use Rattle.std.proofs.Common.{◌≡◌, ℕ, List, [], ◌∷◌, true, Option, Some, None, refl}
use Rattle.std.specs.List.{list_all}
use Rattle.ignite_types.specs.declared.journal.Journal.{Journal}
use Rattle.ignite_types.specs.declared.journal.Rec.{Rec}
use Rattle.ignite_types.specs.declared.names.NodeId.{NodeId}
use Rattle.journal_statements.specs.Noted.{Noted, noted}
use Rattle.journal_statements.specs.Told.{finds_reach_starters, found_for, is_at_starter}
use Rattle.link_laws.proofs.Journals.{first_rest}
use Rattle.scenes.proofs.EachRun.{few}
use Rattle.scenes.specs.EachRun.{IsRunOf, is_short_run}
use Rattle.told_laws.proofs.FindEvents.{finds_lead, finds_open}
use Rattle.told_laws.specs.FindFacts.{FindInvariant}
use Rattle.told_laws.specs.ToldLaws.{is_recorded_right, is_right_record, starters_ask}
use Rattle.transaction_laws.proofs.CountedRuns.{counted_holds}
use Rattle.ignite_types.specs.declared.journal.Rec.TheVariants as note
use Rattle.ignite_types.specs.declared.message.Message.TheVariants as msg

-- what is found is one of the answers
at_starter : (who : Option NodeId) (r : Rec) → is_right_record who r ≡ true → is_at_starter who (found_for r) ≡ true
at_starter None (note.Deliver from m) right = absurd (cc (right))
at_starter (Some n) (note.Deliver from (msg.LockOk tx key found)) right = right
at_starter (Some n) (note.Deliver from (msg.GetOk tx key found)) right = right
at_starter (Some n) (note.Deliver from _) right = refl
at_starter who _ right = refl

all_at_starters : (recs : List Noted) → list_all is_recorded_right recs ≡ true →
    list_all (λ (n : Noted). is_at_starter n.node (found_for n.rec)) recs ≡ true
all_at_starters [] all = refl
all_at_starters (n ∷ ns) all =
    let both = first_rest (is_recorded_right n) (list_all is_recorded_right ns) all in
    rw (at_starter n.node n.rec both.0) (all_at_starters ns both.1)

module _ (events : ℕ) (short : is_short_run events ≡ true) (j : Journal) (run : IsRunOf events j) where
  pub starters_ask_holds : starters_ask j ≡ true
  starters_ask_holds = (counted_holds FindInvariant finds_lead (λ s is. finds_open s) j run.is_good (few events short j run)
      run.is_legal).finds.told

  pub finds_reach_holds : finds_reach_starters j ≡ true
  finds_reach_holds = all_at_starters (noted j.scenario j.groups) starters_ask_holds
