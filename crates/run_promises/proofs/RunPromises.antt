-- Each promise is what one law says of the journal.
use Rattle.std.proofs.Common.{◌≡◌, ◌<◌, ◌^◌, ◌++◌, ◌&&◌, ◌||◌, ℕ, List, [], ◌∷◌, Bool, true, false, if◌then◌else◌, Option, Some, None, refl, ap, sym, ◌∙◌, length, IsTrue}
use Rattle.std.specs.List.{list_all, list_any}
use Rattle.std.proofs.lemmas.Bool.{lt-ltb}
use Rattle.ignite_types.specs.Good.{good}
use Rattle.ignite_types.specs.Names.{same_top}
use Rattle.ignite_types.specs.declared.journal.Journal.{Journal}
use Rattle.ignite_types.specs.declared.journal.Rec.{Rec}
use Rattle.ignite_types.specs.declared.names.NodeId.{NodeId}
use Rattle.ignite_types.specs.declared.names.TopVer.{TopVer}
use Rattle.ignite_types.specs.declared.scenario.Member.{Member}
use Rattle.journal_statements.specs.MapLaws.{has_installed, is_install_of, members_installed, opening_fits}
use Rattle.journal_statements.specs.Noted.{Noted, each_from, is_lost, noted, recs_of}
use Rattle.journal_statements.specs.Topologies.{Topology, topologies, topology_of}
use Rattle.journal_statements.specs.Versions.{opened_before}
use Rattle.claim_laws.proofs.ClaimLaws.{switches_claimed_hold}
use Rattle.commit_laws.proofs.CommitLaws.{applies_hold}
use Rattle.coordinator_laws.proofs.CoordinatorLaws.{one_coordinator_holds}
use Rattle.link_laws.proofs.Journals.{first_rest}
use Rattle.link_laws.proofs.Runs.{links_hold}
use Rattle.lock_laws.proofs.Runs.{one_holder_at_a_time}
use Rattle.map_laws.proofs.MapLaws.{highest_bases_hold, rising_maps_hold}
use Rattle.owner_laws.proofs.OwnerLaws.{are_tokens, owns_keys}
use Rattle.part_model.specs.Orders.{is_node}
use Rattle.placement_laws.proofs.PlacementLaws.{members_hold}
use Rattle.refusal_laws.proofs.RefusalLaws.{refusals_fit_holds}
use Rattle.run_laws.proofs.Runs.{clocks_agree}
use Rattle.run_promises.specs.RunPromises.{RunPromises}
use Rattle.scenes.specs.EachRun.{IsRunOf, is_short_run}
use Rattle.survivor_laws.proofs.MapsWhole.{maps_hold}
use Rattle.survivor_laws.proofs.OwnersLeft.{owners_left_holds}
use Rattle.told_laws.proofs.ToldLaws.{finds_reach_holds, starters_ask_holds}
use Rattle.topology_laws.proofs.Laws.{one_map_holds, opens_after_all_holds, opens_once_holds}
use Rattle.topology_laws.proofs.Records.{or_second}
use Rattle.topology_laws.specs.TopologyFacts.{is_lost_or_has_installed}
use Rattle.topology_laws.specs.TopologyLaws.{all_have_map, is_opened_after_all}
use Rattle.topology_laws.specs.TopologyScenes.{has_noted_map, is_install_of_version}
use Rattle.transaction_laws.proofs.TransactionLaws.{commits_stand_holds, commits_stand_or_lost_holds, decided_once_holds, recovered_after_loss_holds, rising_names_hold, started_once_holds}
use Rattle.tx_model.specs.Runs.{IsLegal}
use Rattle.vote_laws.proofs.VoteLaws.{ends_stand, votes_stand}
use Rattle.ignite_types.specs.declared.journal.Rec.TheVariants as note

-- Versions open when each live member has installed their map.

installed_there : (before : List Noted) (top : TopVer) (node : NodeId) →
    has_installed before top node ≡ has_noted_map before top node
installed_there [] top node = refl
installed_there (n ∷ ns) top node = by (is_node node n.node) (installed_there ns top node)
  where
    by : (c : Bool) → list_any (is_install_of top) (recs_of node ns) ≡ has_noted_map ns top node →
        list_any (is_install_of top) ((if c then n.rec ∷ [] else []) ++ recs_of node ns)
        ≡ ((c && is_install_of_version top n.rec) || has_noted_map ns top node)
    by true rest = one n.rec rest
      where
        one : (r : Rec) → list_any (is_install_of top) (recs_of node ns) ≡ has_noted_map ns top node →
            (is_install_of top r || list_any (is_install_of top) (recs_of node ns)) ≡ (is_install_of_version top r
            || has_noted_map ns top node)
        one (note.Install m) rest = ap (λ (b : Bool). same_top m.top top || b) rest
        one _ rest = rest
    by false rest = rest

all_installed : (before : List Noted) (top : TopVer) (ms : List Member) → list_all (is_lost_or_has_installed before top) ms
    ≡ list_all (λ (m : Member). is_lost before m.node || has_installed before top m.node) ms
all_installed before top ms =
    λ i. list_all (λ (m : Member). is_lost before m.node || sym (installed_there before top m.node) i) ms

opening_of : (ts : List Topology) (before : List Noted) (r : Rec) → is_opened_after_all ts before r ≡ true →
    opening_fits ts before r ≡ true
opening_of ts before (note.Opened top) after =
    or_second (list_any (same_top top) (opened_before before)) (members_installed before top (topology_of ts top))
    (by (topology_of ts top) after)
  where
    by : (o : Option Topology) → all_have_map before top o ≡ true → members_installed before top o ≡ true
    by None none = absurd (cc (none))
    by (Some t) all = sym (all_installed before top t.members) ∙ all
opening_of ts before _ after = refl

each_opening : (ts : List Topology) (before ns : List Noted) →
    each_from (λ (xs : List Noted) (n : Noted). is_opened_after_all ts xs n.rec) before ns ≡ true →
    each_from (λ (xs : List Noted) (n : Noted). opening_fits ts xs n.rec) before ns ≡ true
each_opening ts before [] all = refl
each_opening ts before (n ∷ ns) all =
    let both = first_rest (is_opened_after_all ts before n.rec)
    (each_from (λ (xs : List Noted) (x : Noted). is_opened_after_all ts xs x.rec) (before ++ n ∷ []) ns) all in
    rw (opening_of ts before n.rec both.0) (each_opening ts (before ++ n ∷ []) ns both.1)

-- Of every run.

pub promises_hold : (events : ℕ) → is_short_run events ≡ true → (j : Journal) → IsRunOf events j → RunPromises j
promises_hold events short j run = record {
  links = links_hold j run.is_good run.is_legal;
  one_holder = one_holder_at_a_time j run.is_legal;
  maps = maps_hold events short j run;
  one_map = one_map_holds events short j run;
  highest_bases = highest_bases_hold events short j run;
  rising_maps = rising_maps_hold events short j run;
  opens_after_all = opens_after_all_holds events short j run;
  opened_when_installed = each_opening (topologies j) [] (noted j.scenario j.groups) (opens_after_all_holds events short j run);
  one_coordinator = one_coordinator_holds events short j run;
  owners_left = owners_left_holds events short j run;
  held_by_members = members_hold events short j run;
  switches_claimed = switches_claimed_hold events short j run;
  refusals_fit = refusals_fit_holds events short j run;
  opens_once = opens_once_holds events short j run;
  decided_once = decided_once_holds events short j run;
  recovered_after_loss = recovered_after_loss_holds events short j run;
  commits_stand_or_lost = commits_stand_or_lost_holds events short j run;
  commits_stand_without_losses = commits_stand_holds events short j run;
  started_once = started_once_holds events short j run;
  rising_names = rising_names_hold events short j run;
  starters_ask = starters_ask_holds events short j run;
  finds_reach_starters = finds_reach_holds events short j run;
  applies_are_committed = applies_hold events short j run;
  keys_are_owned_in_still_topology = owns_keys events short j run;
  locks_are_tokens_in_still_topology = are_tokens events short j run;
  votes_stand_in_still_topology = votes_stand events short j run;
  ends_are_decided_in_still_topology = ends_stand events short j run;
  clocks_agree = clocks_agree j.scenario j.groups;
}

-- of each legal run of a good scenario that is short enough
pub promised : (j : Journal) → IsTrue (good j.scenario) → IsLegal j → length j.groups < 2 ^ 62 → RunPromises j
promised j is_good is_legal few = promises_hold (length j.groups) (lt-ltb (length j.groups) (2 ^ 62) few) j
    (record { is_good = is_good; is_legal = is_legal; has_events = refl })
