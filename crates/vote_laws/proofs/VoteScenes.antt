-- What acts and sends leave of the facts of votes.
use Rattle.std.proofs.Common.{◌≡◌, ◌++◌, ℕ, List, [], ◌∷◌, Bool, true, false, if◌then◌else◌, Some, refl, ap, sym, subst, ◌∙◌}
use Rattle.std.specs.List.{list_all}
use Rattle.std.specs.Prelude.{drop}
use Rattle.act_rows.specs.Acts.{after_message}
use Rattle.act_rows.specs.Closing.{after_closing_rules}
use Rattle.act_rows.specs.NewNodes.{opening_map_of}
use Rattle.act_rows.specs.Steps.{entry_of, share_of}
use Rattle.frame_laws.proofs.Extending.{append_none}
use Rattle.ignite_types.proofs.NameLaws.{same_node_true}
use Rattle.ignite_types.specs.Names.{same_node}
use Rattle.ignite_types.specs.declared.journal.Rec.TheVariants as note
use Rattle.ignite_types.specs.declared.journal.Rec.{Rec}
use Rattle.ignite_types.specs.declared.message.Message.{Message}
use Rattle.ignite_types.specs.declared.message.Out.{Out}
use Rattle.ignite_types.specs.declared.names.NodeId.{NodeId}
use Rattle.ignite_types.specs.declared.names.TxId.{TxId}
use Rattle.ignite_types.specs.declared.placement.PartMap.{PartMap}
use Rattle.journal_statements.specs.Noted.{Noted, noted_by, recs_of}
use Rattle.map_laws.proofs.MapFrames.{recs_parts}
use Rattle.node_state.specs.Node.{NodeState}
use Rattle.node_state.specs.declared.life.Life.TheVariants as life
use Rattle.owner_laws.proofs.OwnerScenes.{after, before, dropped, moved_flight, sender, stays, taken_flight}
use Rattle.owner_laws.specs.LockViews.{of_node}
use Rattle.scenes.proofs.Sounds.{turned}
use Rattle.scenes.specs.Events.{IsReady}
use Rattle.scenes.specs.Scenes.{Scene, either_state, one_record, scene_after_drop, scene_after_send, scene_after_take, scene_in_act, state_at_rest, states_with}
use Rattle.scenes.specs.Views.{outbox_for}
use Rattle.transaction_laws.proofs.StarterEvents.{ready_next}
use Rattle.transaction_laws.proofs.StarterFacts.{decisions_append}
use Rattle.transaction_laws.proofs.StarterNotes.{other_recs, own_recs, silent_of}
use Rattle.transaction_laws.specs.StarterFacts.{StarterInAct, decisions, is_aside}
use Rattle.vote_laws.proofs.VoteActs.{VoteBoth, message_act_both}
use Rattle.vote_laws.proofs.VoteFlights.{fewer_keeps, pop_keeps}
use Rattle.vote_laws.proofs.VoteRows.{VoteGood}
use Rattle.vote_laws.proofs.VoteSteps.{fact_link}
use Rattle.vote_laws.specs.VoteFacts.{Fact, InHand, IsNew, VotesHold}
use Rattle.vote_laws.specs.VoteInvariant.{VoterStands, VotesFit}
use Rattle.vote_laws.specs.VoteViews.{VoteAround, VoteView, backups_at, view_in_act, vote_view}

abbrev pub vote_around : Scene → NodeId → VoteAround
vote_around sc n = record { others = sc.state; link = sc.link; mine = recs_of n sc.recs; recs = λ k. recs_of k sc.recs }

abbrev pub map_of : Scene → PartMap
map_of sc = opening_map_of sc.scenario

-- Records that decide nothing.

aside_none : (tx : TxId) (rs : List Rec) → list_all is_aside rs ≡ true → decisions tx rs ≡ []
aside_none tx [] is = refl
aside_none tx (note.Start u top ∷ rs) is = absurd (cc (is))
aside_none tx (note.Decide u commit ∷ rs) is = absurd (cc (is))
aside_none tx (_ ∷ rs) is = aside_none tx rs is

pub aside_decided : (recs more : List Noted) → list_all (λ (x : Noted). is_aside x.rec) more ≡ true →
    (k : NodeId) (tx : TxId) → decisions tx (recs_of k (recs ++ more)) ≡ decisions tx (recs_of k recs)
aside_decided recs more aside k tx =
    ap (decisions tx) (recs_parts k recs more) ∙ decisions_append tx (recs_of k recs) (recs_of k more)
    ∙ ap (λ ds. decisions tx (recs_of k recs) ++ ds) (aside_none tx (recs_of k more) (silent_of k more aside))
    ∙ append_none (decisions tx (recs_of k recs))

-- The acting node among the others, and the scene.

module _ (sc : Scene) (n : NodeId) (s : NodeState) (me : s.me ≡ n) (is : sc.state n ≡ state_at_rest s)
    (none : s.noted ≡ []) where
  decided_begins : (k : NodeId) (tx : TxId) → decisions tx (of_node s.me (recs_of n sc.recs ++ s.noted) k (recs_of k sc.recs))
      ≡ decisions tx (recs_of k sc.recs)
  decided_begins k tx = by (same_node k s.me) refl
    where
      by : (c : Bool) → same_node k s.me ≡ c → decisions tx (if c then recs_of n sc.recs ++ s.noted else recs_of k sc.recs)
          ≡ decisions tx (recs_of k sc.recs)
      by true same =
          let at_n : k ≡ n = same_node_true k s.me same ∙ me in
          ap (λ rs. decisions tx (recs_of n sc.recs ++ rs)) none ∙ ap (decisions tx) (append_none (recs_of n sc.recs))
          ∙ ap (λ (x : NodeId). decisions tx (recs_of x sc.recs)) (sym at_n)
      by false other = refl

  view_begins : view_in_act (vote_around sc n) s ≡ vote_view sc
  view_begins = λ i. record {
    entry = λ x. before sc n s me is entry_of refl x i;
    share = λ x. before sc n s me is share_of refl x i;
    backup = λ x. before sc n s me is backups_at refl x i;
    flight = λ a b. sc.link a b ++ outbox_for b (before sc n s me is (λ (st : NodeState). st.outbox) refl a i);
    decided = λ k tx. decided_begins k tx i;
  }

module _ (sc : Scene) (n : NodeId) (s : NodeState) (me : s.me ≡ n) where
  decided_ends : (k : NodeId) (tx : TxId) → decisions tx (of_node s.me (recs_of n sc.recs ++ s.noted) k (recs_of k sc.recs))
      ≡ decisions tx (recs_of k (sc.recs ++ noted_by (Some n) s.noted))
  decided_ends k tx = by (same_node k s.me) refl
    where
      by : (c : Bool) → same_node k s.me ≡ c → decisions tx (if c then recs_of n sc.recs ++ s.noted else recs_of k sc.recs)
          ≡ decisions tx (recs_of k (sc.recs ++ noted_by (Some n) s.noted))
      by true same =
          let at_n : k ≡ n = same_node_true k s.me same ∙ me in
          ap (decisions tx) (sym (own_recs n sc.recs s.noted))
          ∙ ap (λ (x : NodeId). decisions tx (recs_of x (sc.recs ++ noted_by (Some n) s.noted))) (sym at_n)
      by false other = ap (decisions tx) (sym (other_recs k n sc.recs s.noted (turned n k ∙ ap (same_node k) (sym me) ∙ other)))

  view_ends : view_in_act (vote_around sc n) s ≡ vote_view (scene_in_act sc n s)
  view_ends = λ i. record {
    entry = λ x. after sc n s me entry_of refl x i;
    share = λ x. after sc n s me share_of refl x i;
    backup = λ x. after sc n s me backups_at refl x i;
    flight = λ a b. sc.link a b ++ outbox_for b (after sc n s me (λ (st : NodeState). st.outbox) refl a i);
    decided = λ k tx. decided_ends k tx i;
  }

-- A node acts.

pub begins : (sc : Scene) (n : NodeId) (s : NodeState) → IsReady sc n s → VotesFit sc →
    VoteGood (map_of sc) (vote_around sc n) s
begins sc n s r f =
    let stands : VoterStands (map_of sc) (state_at_rest s) = subst (VoterStands (map_of sc)) r.state_is (f.nodes n r.alive) in
    record {
      votes = subst VotesHold (sym (view_begins sc n s r.me_is r.state_is r.none_noted)) f.votes;
      stands = stands;
    }

pub ends : (sc : Scene) (n : NodeId) (s : NodeState) → s.me ≡ n → VotesFit sc → VoteGood (map_of sc) (vote_around sc n) s →
    VotesFit (scene_in_act sc n s)
ends sc n s me f g = record {
  votes = subst VotesHold (view_ends sc n s me) g.votes;
  nodes = λ x alive. by x (same_node n x) alive;
}
  where
    by : (x : NodeId) (c : Bool) → sc.life x ≡ life.Alive →
        VoterStands (map_of sc) (either_state c (state_at_rest s) (sc.state x))
    by x true alive = g.stands
    by x false alive = f.nodes x alive

abbrev pub BothAt : ℕ → Scene → NodeId → NodeState → Type 0
BothAt k sc n s = VoteBoth k (map_of sc) (vote_around sc n) s

pub acts_fit : (k : ℕ) (sc : Scene) (n : NodeId) (s b : NodeState) → IsReady sc n s → b.me ≡ n →
    StarterInAct (recs_of n sc.recs) s → (BothAt k sc n s → BothAt k sc n b) → VotesFit sc → VotesFit (scene_in_act sc n b)
acts_fit k sc n s b r me near row f = ends sc n b me f (row (record { near = near; good = begins sc n s r f })).good

-- A message is taken.

pub takes_fit : (k : ℕ) (sc : Scene) (n : NodeId) (s : NodeState) (from : NodeId) (m : Message) → IsReady sc n s →
    sc.link from n ≡ m ∷ drop 1 (sc.link from n) → (after_closing_rules (after_message s from m)).me ≡ n
    → StarterInAct (recs_of n (scene_after_take sc from n m).recs) s → VotesFit sc →
    VotesFit (scene_in_act (scene_after_take sc from n m) n (after_closing_rules (after_message s from m)))
takes_fit k sc n s from m r first me near f =
    acts_fit k next n s (after_closing_rules (after_message s from m)) (ready_next sc next n s refl refl r) me near
    (message_act_both k (map_of sc) (vote_around next n) s from m hand) fits
  where
    next : Scene
    next = scene_after_take sc from n m

    same_decided : (x : NodeId) (tx : TxId) → decisions tx (recs_of x sc.recs) ≡ decisions tx (recs_of x next.recs)
    same_decided x tx = sym (aside_decided sc.recs (one_record (Some n) (note.Deliver from m)) refl x tx)

    popped : VotesHold (record (vote_view sc) { flight = (vote_view next).flight }) × Fact (vote_view sc) from n m
        × IsNew m ((vote_view next).flight from n)
    popped = pop_keeps (vote_view sc) (vote_view next).flight from n m (taken_flight sc from n m first) f.votes

    fits : VotesFit next
    fits = record {
      votes = subst (λ d. VotesHold (record (vote_view next) { decided = d }))
          (λ i. λ x tx. same_decided x tx i) popped.0;
      nodes = f.nodes;
    }

    fact : Fact (vote_view next) from n m
    fact = subst (λ d. Fact (record (vote_view next) { decided = d }) from n m) (λ i. λ x tx. same_decided x tx i)
        (fact_link (vote_view sc) (vote_view next).flight from n m popped.1)

    in_scene : InHand (view_in_act (vote_around next n) s) n (record { from = from; message = m })
    in_scene = subst (λ (v : VoteView). InHand v n (record { from = from; message = m }))
        (sym (view_begins next n s r.me_is r.state_is r.none_noted)) (fact, popped.2)

    hand : InHand (view_in_act (vote_around next n) s) s.me (record { from = from; message = m })
    hand = subst (λ (x : NodeId). InHand (view_in_act (vote_around next n) s) x (record { from = from; message = m }))
        (sym r.me_is) in_scene

-- A message leaves the outbox: it lies on the link then, or is lost.

module _ (sc : Scene) (n : NodeId) (s : NodeState) (out : Out) (r : IsReady sc n s)
    (first : s.outbox ≡ out ∷ drop 1 s.outbox) where
  abbrev rest : NodeState
  rest = sender sc n s out r first

  sent : List Noted
  sent = one_record (Some n) (note.Sent out.to out.msg)

  sent_decided : (k : NodeId) (tx : TxId) → decisions tx (recs_of k sc.recs) ≡ decisions tx
      (recs_of k ((sc.recs ++ one_record (Some n) (note.Sent out.to out.msg)) ++ noted_by (Some n) s.noted))
  sent_decided k tx =
      let one = one_record (Some n) (note.Sent out.to out.msg) in
      sym (aside_decided sc.recs one refl k tx) ∙ sym (ap (λ rs. decisions tx (recs_of k rs)) (append_none (sc.recs ++ one)))
      ∙ sym (ap (λ rs. decisions tx (recs_of k ((sc.recs ++ one) ++ noted_by (Some n) rs))) r.none_noted)

  sender_fits : VotesFit sc → (x : NodeId) → sc.life x ≡ life.Alive →
      VoterStands (map_of sc) (states_with n (state_at_rest rest) sc.state x)
  sender_fits f x alive = by (same_node n x) refl
    where
      by : (c : Bool) → same_node n x ≡ c → VoterStands (map_of sc) (either_state c (state_at_rest rest) (sc.state x))
      by true is = let stands : VoterStands (map_of sc) (state_at_rest s) =
          subst (VoterStands (map_of sc)) r.state_is (f.nodes n r.alive) in stands
      by false other = f.nodes x alive

  moved_view : vote_view sc ≡ vote_view (scene_in_act (scene_after_send sc n out) n rest)
  moved_view = λ i. record {
    entry = λ x. stays sc n s out r first entry_of refl x i;
    share = λ x. stays sc n s out r first share_of refl x i;
    backup = λ x. stays sc n s out r first backups_at refl x i;
    flight = λ a b. moved_flight sc n s out r first a b i;
    decided = λ k tx. sent_decided k tx i;
  }

  pub moves_fit : VotesFit sc → VotesFit (scene_in_act (scene_after_send sc n out) n rest)
  moves_fit f = record { votes = subst VotesHold moved_view f.votes; nodes = λ x alive. sender_fits f x alive }

  dropped_view : record (vote_view sc) { flight = (vote_view (scene_in_act (scene_after_drop sc n out) n rest)).flight }
      ≡ vote_view (scene_in_act (scene_after_drop sc n out) n rest)
  dropped_view = λ i. record {
    entry = λ x. stays sc n s out r first entry_of refl x i;
    share = λ x. stays sc n s out r first share_of refl x i;
    backup = λ x. stays sc n s out r first backups_at refl x i;
    flight = (vote_view (scene_in_act (scene_after_drop sc n out) n rest)).flight;
    decided = λ k tx. sent_decided k tx i;
  }

  pub drops_fit : VotesFit sc → VotesFit (scene_in_act (scene_after_drop sc n out) n rest)
  drops_fit f = record {
    votes = subst VotesHold dropped_view
        (fewer_keeps (vote_view sc) (vote_view (scene_in_act (scene_after_drop sc n out) n rest)).flight out.msg
        (dropped sc n s out r first) f.votes);
    nodes = λ x alive. sender_fits f x alive;
  }
