-- The invariant of votes is kept by each event.
use Rattle.std.proofs.Common.{◌≡◌, ◌++◌, ℕ, List, ◌∷◌, Bool, true, false, Some, None, refl, sym, subst, ◌∙◌, suc, ◌<◌}
use Rattle.std.specs.Prelude.{drop, ◌^◌}
use Rattle.act_rows.specs.Acts.{after_message}
use Rattle.act_rows.specs.Closing.{after_closing_rules}
use Rattle.act_rows.specs.Commands.{after_answer, after_call}
use Rattle.act_rows.specs.NewNodes.{opening_map_of, opening_node}
use Rattle.act_rows.specs.Searches.{after_expire, is_overdue}
use Rattle.act_rows.specs.Steps.{session_state_of}
use Rattle.ignite_types.proofs.NameLaws.{same_top_itself}
use Rattle.ignite_types.specs.declared.journal.Rec.TheVariants as note
use Rattle.ignite_types.specs.declared.journal.TopoEvent.TheVariants as topo
use Rattle.ignite_types.specs.declared.message.Message.{Message}
use Rattle.ignite_types.specs.declared.names.NodeId.{NodeId}
use Rattle.ignite_types.specs.declared.names.TxId.{TxId}
use Rattle.ignite_types.specs.declared.scenario.Scenario.{Scenario}
use Rattle.journal_statements.specs.Noted.{Noted, is_lost}
use Rattle.map_laws.proofs.MapFrames.{lost_same}
use Rattle.transaction_laws.proofs.StarterNotes.{message_later}
use Rattle.transaction_laws.specs.StarterNotes.{MessageNamesLost}
use Rattle.topology_laws.specs.TopologyFacts.{HoldsOfEach}
use Rattle.std.specs.List.{list_all}
use Rattle.node_state.specs.Node.{NodeState}
use Rattle.node_state.specs.declared.life.Life.TheVariants as life
use Rattle.node_state.specs.declared.session.SessionState.{SessionState}
use Rattle.owner_laws.proofs.OwnerEvents.{held, moves_on, no_switch, none_seen, own_lives, owners_lead, owners_open, still_before, switch_minor}
use Rattle.owner_laws.specs.OwnerInvariant.{OwnerInvariant, stands_still}
use Rattle.part_model.specs.Directory.{first_top, with_answer_given}
use Rattle.part_model.specs.NextMap.{is_member}
use Rattle.scenes.specs.Events.{EachEventLeads, IsReady, IsSound}
use Rattle.scenes.specs.Scenes.{Scene, one_record, opening_life, opening_scene, plan_records, scene_after_take, scene_in_act, scene_with_directory}
use Rattle.transaction_laws.proofs.StarterActs as acts
use Rattle.transaction_laws.proofs.StarterEvents.{call_room, more_counted, past_of, ready, ready_next, taken}
use Rattle.transaction_laws.specs.StarterFacts.{is_aside}
use Rattle.vote_laws.proofs.VoteActs.{answer_act_both, call_act_both, expire_act_both}
use Rattle.vote_laws.proofs.VoteScenes.{acts_fit, aside_decided, drops_fit, map_of, moves_fit, takes_fit, vote_around}
use Rattle.vote_laws.specs.VoteFacts.{VotesHold}
use Rattle.vote_laws.specs.VoteInvariant.{VoteInvariant, VoterStands, VotesFit}
use Rattle.vote_laws.specs.VoteViews.{vote_view}

-- records that decide nothing leave what is true of votes
pub more_votes : (sc : Scene) (more : List Noted) → list_all (λ (x : Noted). is_aside x.rec) more ≡ true →
    VotesHold (vote_view sc) → VotesHold (vote_view (record sc { recs = sc.recs ++ more }))
more_votes sc more aside i = subst (λ d. VotesHold (record (vote_view sc) { decided = d }))
    (λ k. λ n tx. sym (aside_decided sc.recs more aside n tx) k) i

module _ (k : ℕ) (few : k < 2 ^ 62) where
  abbrev Owners : EachEventLeads (OwnerInvariant k) (OwnerInvariant (suc k))
  Owners = owners_lead k few

  answers_lead : (sc : Scene) (n : NodeId) (s : NodeState) (session : ℕ) → IsSound sc → IsReady sc n s → VoteInvariant k sc →
      (let next = scene_with_directory sc (with_answer_given sc.directory) in stands_still next.directory.events ≡ true →
      VotesFit (scene_in_act next n (after_answer s session)))
  answers_lead sc n s session sound r i still =
      let f = i.votes still in
      let next = scene_with_directory sc (with_answer_given sc.directory) in
      let h = held k few sc n s sound r i.owners.starters in
      let me = (acts.answers (past_of k sc n) (own_lives k few sc n s sound r) s session h).face.me_is in
      acts_fit k next n s (after_answer s session) (ready_next sc next n s refl refl r) me h.starter
      (answer_act_both k (map_of sc) (vote_around sc n) s session) (record { votes = f.votes; nodes = f.nodes })

  calls_lead : (sc : Scene) (n : NodeId) (s : NodeState) (session : ℕ) → IsSound sc → IsReady sc n s → VoteInvariant k sc →
      stands_still sc.directory.events ≡ true → VotesFit (scene_in_act sc n (after_closing_rules (after_call s session)))
  calls_lead sc n s session sound r i still =
      let more = more_counted k sc i.owners.starters in
      let lives = own_lives k few sc n s sound r in
      let h = ready (suc k) sc n s lives r more in
      let p = past_of (suc k) sc n in
      let room = λ (d : SessionState) (here : session_state_of s session ≡ Some d).
      call_room k few sc n s r i.owners.starters session d here in
      let me = (acts.closes p lives (after_call s session) (acts.calls p lives s session room h)).face.me_is in
      acts_fit (suc k) sc n s (after_closing_rules (after_call s session)) r me h.starter
      (call_act_both (suc k) (map_of sc) (vote_around sc n) s session room) (i.votes still)

  takes_lead : (sc : Scene) (n : NodeId) (s : NodeState) (from : NodeId) (m : Message) → IsSound sc → IsReady sc n s →
      sc.link from n ≡ m ∷ drop 1 (sc.link from n) → VoteInvariant k sc → stands_still sc.directory.events ≡ true →
      VotesFit (scene_in_act (scene_after_take sc from n m) n (after_closing_rules (after_message s from m)))
  takes_lead sc n s from m sound r first i still =
      let next = scene_after_take sc from n m in
      let one = one_record (Some n) (note.Deliver from m) in
      let lives : is_lost next.recs n ≡ false = lost_same sc.recs one n (λ x. refl) ∙ own_lives k few sc n s sound r in
      let p = past_of k next n in
      let named : MessageNamesLost next.recs m =
      message_later sc.recs one m (subst (λ (ms : List Message). HoldsOfEach (MessageNamesLost sc.recs) ms) first
      (i.owners.starters.links from n)).0 in
      let h = ready k next n s lives (ready_next sc next n s refl refl r) (taken k sc from n m i.owners.starters) in
      let me = (acts.closes p lives (after_message s from m) (acts.messages p lives s from m named h)).face.me_is in
      takes_fit k sc n s from m r first me h.starter (i.votes still)

  expires_lead : (sc : Scene) (n : NodeId) (s : NodeState) (tx : TxId) → IsSound sc → IsReady sc n s →
      is_overdue s tx ≡ true → VoteInvariant k sc → stands_still sc.directory.events ≡ true →
      VotesFit (scene_in_act sc n (after_closing_rules (after_expire s tx)))
  expires_lead sc n s tx sound r due i still =
      let lives = own_lives k few sc n s sound r in
      let p = past_of k sc n in
      let h = held k few sc n s sound r i.owners.starters in
      let me = (acts.closes p lives (after_expire s tx) (acts.expires p lives s tx due h)).face.me_is in
      acts_fit k sc n s (after_closing_rules (after_expire s tx)) r me h.starter
      (expire_act_both k (map_of sc) (vote_around sc n) s tx due) (i.votes still)

  pub votes_lead : EachEventLeads (VoteInvariant k) (VoteInvariant (suc k))
  votes_lead = record {
    answers = λ sc n s session sound r may i. record {
      owners = Owners.answers sc n s session sound r may i.owners;
      votes =
          answers_lead sc n s session sound r i;
    };
    calls = λ sc n s session sound r may i. record {
      owners = Owners.calls sc n s session sound r may i.owners;
      votes =
          calls_lead sc n s session sound r i;
    };
    takes = λ sc n s from m sound r first i. record {
      owners = Owners.takes sc n s from m sound r first i.owners;
      votes =
          takes_lead sc n s from m sound r first i;
    };
    expires = λ sc n s tx sound r own due i. record {
      owners = Owners.expires sc n s tx sound r own due i.owners;
      votes =
          expires_lead sc n s tx sound r due i;
    };
    sees = λ sc n s e sound r there i. record {
      owners = Owners.sees sc n s e sound r there i.owners;
      votes =
          λ still. absurd (none_seen k few sc s.read e there (i.owners.owners still));
    };
    switches = λ sc n s sound r may same i. record {
      owners = Owners.switches sc n s sound r may same i.owners;
      votes =
          λ still. absurd (no_switch k few sc n s r may
          (i.owners.owners (still_before k few sc.directory.events topo.Minor still)));
    };
    moves = λ sc n s out sound r first i. record {
      owners = Owners.moves sc n s out sound r first i.owners;
      votes =
          λ still. moves_fit sc n s out r first (i.votes still);
    };
    drops = λ sc n s out sound r first away i. record {
      owners = Owners.drops sc n s out sound r first away i.owners;
      votes =
          λ still. drops_fit sc n s out r first (i.votes still);
    };
    joins = λ sc m s sound absent new is i. record {
      owners = Owners.joins sc m s sound absent new is i.owners;
      votes =
          λ still. absurd (moves_on sc.directory.events (topo.Join m) refl still);
    };
    loses = λ sc n sound lives i. record {
      owners = Owners.loses sc n sound lives i.owners;
      votes =
          λ still. absurd (moves_on sc.directory.events (topo.Left n) refl still);
    };
    plans = λ sc refused sound i. record {
      owners = Owners.plans sc refused sound i.owners;
      votes = λ still. let f =
          i.votes still in record { votes = more_votes sc (plan_records sc refused) refl f.votes; nodes = f.nodes };
    };
    starts = λ sc e sound is i. record {
      owners = Owners.starts sc e sound is i.owners;
      votes =
          λ still. absurd (moves_on sc.directory.events e (switch_minor e is) still);
    };
    ticks = λ sc to sound i. record {
      owners = Owners.ticks sc to sound i.owners;
      votes = λ still. let f = i.votes still in
          record { votes = more_votes sc (one_record None (note.Tick to)) refl f.votes; nodes = f.nodes };
    };
    breaks = λ sc n sound i. record {
      owners = Owners.breaks sc n sound i.owners;
      votes = λ still. let f = i.votes still in
          record { votes = more_votes sc (one_record (Some n) note.Memory) refl f.votes; nodes = f.nodes };
    };
  }

-- The opening: there is no transaction, no share and no message.

pub votes_open : (s : Scenario) → VoteInvariant 0 (opening_scene s)
votes_open s = record {
  owners = owners_open s;
  votes = λ still. record {
    votes = record {
      facts = λ a b y there. absurd there;
      apart = λ a b. tt;
      shares = λ n t. tt;
      backups = λ n name. tt;
      entries = λ t e there. absurd (cc (there));
    };
    nodes = λ n alive. stands n (is_member s.nodes n) alive;
  };
}
  where
    stands : (n : NodeId) (initial : Bool) → opening_life initial ≡ life.Alive →
        VoterStands (opening_map_of s) (opening_node s (opening_map_of s) n initial)
    stands n true alive = record {
      installed_is = refl;
      seen_is = same_top_itself first_top;
      shares_up = tt;
      backups_up = tt;
      none_left = refl;
    }
    stands n false alive = absurd (cc (alive))
