-- Each event keeps that claims are told.
use Rattle.std.proofs.Common.{◌≡◌, ◌++◌, List, [], None, Some, Bool, true, false, if◌then◌else◌, refl, ap, sym, subst, ◌∙◌}
use Rattle.std.specs.List.{list_all, list_any}
use Rattle.std.specs.Prelude.{drop}
use Rattle.std.proofs.lemmas.List.Folds.{list_any-append}
use Rattle.act_rows.specs.Acts.{after_message, after_see}
use Rattle.act_rows.specs.Closing.{after_closing_rules}
use Rattle.act_rows.specs.Commands.{after_answer, after_call}
use Rattle.act_rows.specs.Searches.{after_expire}
use Rattle.claim_laws.proofs.ClaimRows.{claims_keep, learned_claims, sees_claims, takes_claims}
use Rattle.claim_laws.specs.ClaimFacts.{ClaimsAreTold, KeepsClaims, is_told}
use Rattle.frame_laws.proofs.ActsKept.{then_closed_kept}
use Rattle.frame_laws.proofs.Commands.{answer_row_kept, call_row_kept}
use Rattle.frame_laws.proofs.Searches.{expire_row_kept}
use Rattle.ignite_types.proofs.NameLaws.{same_node_itself, same_node_true, same_top_itself}
use Rattle.ignite_types.specs.Names.{same_node}
use Rattle.ignite_types.specs.declared.names.NodeId.{NodeId}
use Rattle.ignite_types.specs.declared.names.TopVer.{TopVer}
use Rattle.ignite_types.specs.declared.message.Message.{Message}
use Rattle.ignite_types.specs.declared.scenario.Scenario.{Scenario}
use Rattle.act_rows.specs.NewNodes.{opening_map_of, opening_node}
use Rattle.journal_statements.specs.MapLaws.{is_claim_of}
use Rattle.journal_statements.specs.Noted.{Noted, recs_of}
use Rattle.link_laws.proofs.Frames.{all_change}
use Rattle.map_laws.proofs.MapFrames.{recs_parts}
use Rattle.node_state.specs.Node.{NodeState}
use Rattle.node_state.specs.declared.topology.Claim.{Claim}
use Rattle.part_model.specs.NextMap.{is_member}
use Rattle.scenes.specs.Events.{EachEventKeeps, IsReady, joiner_end, joiner_start}
use Rattle.scenes.specs.Scenes.{Scene, one_record, opening_scene, scene_after_take, scene_in_act, state_at_rest}
use Rattle.topology_laws.proofs.Records.{or_first, or_second}
use Rattle.ignite_types.specs.declared.journal.Rec.TheVariants as note
use Rattle.ignite_types.specs.declared.journal.TopoEvent.TheVariants as topo
use Rattle.ignite_types.specs.declared.message.Message.TheVariants as msg

-- Further records.

told_more : (recs more : List Noted) (n : NodeId) (claim : Claim) → is_told recs n claim ≡ true →
    is_told (recs ++ more) n claim ≡ true
told_more recs more n claim told =
    let test = is_claim_of claim.node claim.top in
    ap (list_any test) (recs_parts n recs more) ∙ list_any-append test (recs_of n recs) (recs_of n more)
    ∙ or_first (list_any test (recs_of n recs)) (list_any test (recs_of n more)) told

all_told_more : (recs more : List Noted) (n : NodeId) (claims : List Claim) → list_all (is_told recs n) claims ≡ true →
    list_all (is_told (recs ++ more) n) claims ≡ true
all_told_more recs more n claims all =
    all_change (is_told recs n) (is_told (recs ++ more) n) claims (λ c told. told_more recs more n c told) all

-- Acts.

-- a node acts, and keeps the claims that are told
acts_told : (sc : Scene) (n : NodeId) (s b : NodeState) (more : List Noted) → sc.state n ≡ state_at_rest s →
    KeepsClaims (is_told sc.recs n) s b → ClaimsAreTold sc → (k : NodeId) →
    list_all (is_told (sc.recs ++ more) k) (if same_node n k then b.claims else (sc.state k).claims) ≡ true
acts_told sc n s b more is keeps i k = by (same_node n k) refl
  where
    by : (c : Bool) → same_node n k ≡ c →
        list_all (is_told (sc.recs ++ more) k) (if c then b.claims else (sc.state k).claims) ≡ true
    by true same =
        let own : list_all (is_told sc.recs n) s.claims ≡ true =
        ap (λ (x : NodeState). list_all (is_told sc.recs n) x.claims) (sym is) ∙ i n in
        subst (λ (x : NodeId). list_all (is_told (sc.recs ++ more) x) b.claims ≡ true) (same_node_true n k same)
        (all_told_more sc.recs more n b.claims (keeps own))
    by false other = all_told_more sc.recs more k (sc.state k).claims (i k)

-- the claim of a Complete that was just taken
taken_told : (recs : List Noted) (n from : NodeId) (top : TopVer) →
    is_told (recs ++ one_record (Some n) (note.Deliver from (msg.Complete top))) n (record { top = top; node = from }) ≡ true
taken_told recs n from top =
    let test = is_claim_of from top in
    let one = one_record (Some n) (note.Deliver from (msg.Complete top)) in
    ap (list_any test) (recs_parts n recs one) ∙ list_any-append test (recs_of n recs) (recs_of n one)
    ∙ or_second (list_any test (recs_of n recs)) (list_any test (recs_of n one))
    (rw (same_node_itself n, same_node_itself from, same_top_itself top) refl)

takes_told : (sc : Scene) (n : NodeId) (s : NodeState) (from : NodeId) (m : Message) → IsReady sc n s → ClaimsAreTold sc →
    ClaimsAreTold (scene_in_act (scene_after_take sc from n m) n (after_closing_rules (after_message s from m)))
takes_told sc n s from m r i =
    let one = one_record (Some n) (note.Deliver from m) in
    let next = scene_after_take sc from n m in
    let there : ClaimsAreTold next = λ k. all_told_more sc.recs one k (sc.state k).claims (i k) in
    acts_told next n s (after_closing_rules (after_message s from m)) _ r.state_is
    (takes_claims (is_told next.recs n) s from m
    (λ top is. subst (λ (x : Message). is_told (sc.recs ++ one_record (Some n) (note.Deliver from x)) n
    (record { top = top; node = from }) ≡ true) (sym is) (taken_told sc.recs n from top))) there

-- Each event.

pub claims_kept : EachEventKeeps ClaimsAreTold
claims_kept = record {
  answers = λ sc n s session sound r may i. acts_told sc n s (after_answer s session) _ r.state_is
      (answer_row_kept (KeepsClaims (is_told sc.recs n)) (claims_keep (is_told sc.recs n)).plain s session) i;
  calls = λ sc n s session sound r may i. acts_told sc n s (after_closing_rules (after_call s session)) _ r.state_is
      (then_closed_kept (KeepsClaims (is_told sc.recs n)) (claims_keep (is_told sc.recs n)) s (after_call s session)
      (call_row_kept (KeepsClaims (is_told sc.recs n)) (claims_keep (is_told sc.recs n)).plain s session)) i;
  takes = λ sc n s from m sound r first i. takes_told sc n s from m r i;
  expires = λ sc n s tx sound r own may i. acts_told sc n s (after_closing_rules (after_expire s tx)) _ r.state_is
      (then_closed_kept (KeepsClaims (is_told sc.recs n)) (claims_keep (is_told sc.recs n)) s (after_expire s tx)
      (expire_row_kept (KeepsClaims (is_told sc.recs n)) (claims_keep (is_told sc.recs n)).plain s tx)) i;
  sees = λ sc n s e sound r there i. acts_told sc n s (after_closing_rules (after_see s s.read e)) _ r.state_is
      (sees_claims (is_told sc.recs n) s s.read e) i;
  switches = λ sc n s sound r may same i. i;
  moves = λ sc n s out sound r first i.
      let one = one_record (Some n) (note.Sent out.to out.msg) in
      acts_told (record sc { recs = sc.recs ++ one }) n s (record s { outbox = drop 1 s.outbox }) _ r.state_is (λ all. all)
      (λ k. all_told_more sc.recs one k (sc.state k).claims (i k));
  drops = λ sc n s out sound r first away i.
      let one = one_record (Some n) (note.Sent out.to out.msg) in
      acts_told (record sc { recs = sc.recs ++ one }) n s (record s { outbox = drop 1 s.outbox }) _ r.state_is (λ all. all)
      (λ k. all_told_more sc.recs one k (sc.state k).claims (i k));
  joins = λ sc m s sound absent new is i.
      let start = joiner_start sc s in
      let one = one_record None (note.Planned sc.directory.done None) in
      acts_told (record sc { recs = sc.recs ++ one }) m.node s (joiner_end sc m s) _ is
      (λ all. sees_claims (is_told (sc.recs ++ one) m.node) start start.read (topo.Join m)
      (learned_claims (is_told (sc.recs ++ one) m.node) sc.directory.events s all))
      (λ k. all_told_more sc.recs one k (sc.state k).claims (i k));
  loses = λ sc n sound lives i k. all_told_more sc.recs _ k (sc.state k).claims (i k);
  plans = λ sc refused sound i k. all_told_more sc.recs _ k (sc.state k).claims (i k);
  starts = λ sc e sound is i k. all_told_more sc.recs _ k (sc.state k).claims (i k);
  ticks = λ sc to sound i k. all_told_more sc.recs _ k (sc.state k).claims (i k);
  breaks = λ sc n sound i k. all_told_more sc.recs _ k (sc.state k).claims (i k);
}

-- nobody has a claim at the opening
pub opening_told : (s : Scenario) → ClaimsAreTold (opening_scene s)
opening_told s n = by (is_member s.nodes n)
  where
    by : (c : Bool) → list_all (is_told [] n) (opening_node s (opening_map_of s) n c).claims ≡ true
    by true = refl
    by false = refl
