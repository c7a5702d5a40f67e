-- A node that is lost does nothing any more: it stays lost, and its state stays as it was.
use Rattle.std.proofs.Common.{◌≡◌, ◌≢◌, ◌≤◌, ◌<◌, ◌^◌, ◌++◌, List, Bool, true, false, if◌then◌else◌, length, refl, ap, sym, subst, ◌∙◌, arith}
use Rattle.std.specs.Prelude.{IsTrue, drop}
use Rattle.std.proofs.lemmas.List.{length-append}
use Rattle.act_rows.specs.Acts.{after_message, after_see}
use Rattle.act_rows.specs.Closing.{after_closing_rules}
use Rattle.act_rows.specs.Commands.{after_answer, after_call}
use Rattle.act_rows.specs.Searches.{after_expire}
use Rattle.ignite_types.proofs.NameLaws.{same_node_true}
use Rattle.ignite_types.specs.Good.{good}
use Rattle.ignite_types.specs.Names.{same_node}
use Rattle.ignite_types.specs.declared.journal.Group.{Group}
use Rattle.ignite_types.specs.declared.names.NodeId.{NodeId}
use Rattle.ignite_types.specs.declared.scenario.Scenario.{Scenario}
use Rattle.journal_statements.specs.Noted.{Noted, noted}
use Rattle.node_state.specs.declared.life.Life.{Life}
use Rattle.node_state.specs.Node.{NodeState}
use Rattle.scenes.specs.Events.{EachEventKeeps}
use Rattle.scenes.specs.Scenes.{Scene, either_state, lives_with, scene_of, state_after_loss, state_at_moment, state_at_rest, states_with}
use Rattle.scenes.proofs.Runs.{Holds, after_parts, groups_hold, noted_parts, plan_of_good, run_holds, steps_parts}
use Rattle.scenes.proofs.Sounds.{Base, base_kept, joiner}
use Rattle.scenes.proofs.Openings.{opening_base}
use Rattle.tx_model.specs.Opening.{opening}
use Rattle.tx_model.specs.Runs.{AreSteps, world_after}
use Rattle.tx_model.specs.World.{World, is_alive}
use Rattle.node_state.specs.declared.life.Life.TheVariants as life

-- this node is lost, in this state
pub record IsFrozen (n : NodeId) (x : NodeState) (sc : Scene) : Type 0 where
  pub lost : sc.life n ≡ life.Gone
  pub same : sc.state n ≡ x

-- another node acts
still : (lives : NodeId → Life) (states : NodeId → NodeState) (m n : NodeId) (st x : NodeState) → lives m ≢ life.Gone →
    lives n ≡ life.Gone → states n ≡ x → states_with m st states n ≡ x
still lives states m n st x other lost same = by (same_node m n) refl
  where
    by : (c : Bool) → same_node m n ≡ c → either_state c st (states n) ≡ x
    by true is = absurd (other (ap lives (same_node_true m n is) ∙ lost))
    by false is = same

not_gone : (at : Life) → at ≡ life.Alive → at ≢ life.Gone
not_gone at is gone = absurd (cc (is, gone))

act_frozen : (sc : Scene) (m n : NodeId) (st x : NodeState) → sc.life m ≡ life.Alive → IsFrozen n x sc →
    states_with m (state_at_rest st) sc.state n ≡ x
act_frozen sc m n st x alive f = still sc.life sc.state m n (state_at_rest st) x (not_gone (sc.life m) alive) f.lost f.same

loss_frozen : (id : NodeId) (c : Bool) (at : Life) (st : NodeState) → at ≡ life.Gone →
    state_after_loss id (if c then false else is_alive at) st ≡ st
loss_frozen id true at st is = refl
loss_frozen id false at st is = ap (λ (l : Life). state_after_loss id (is_alive l) st) is

joins_not : (lives : NodeId → Life) (m n : NodeId) → lives m ≡ life.Absent → lives n ≡ life.Gone →
    lives_with m life.Alive lives n ≡ life.Gone
joins_not lives m n absent lost = by (same_node m n) refl
  where
    by : (c : Bool) → same_node m n ≡ c → (if c then life.Alive else lives n) ≡ life.Gone
    by true is = let there = ap lives (same_node_true m n is) in absurd (cc (there, absent, lost))
    by false is = lost

loses_too : (lives : NodeId → Life) (m n : NodeId) → lives n ≡ life.Gone → lives_with m life.Gone lives n ≡ life.Gone
loses_too lives m n lost = by (same_node m n)
  where
    by : (c : Bool) → (if c then life.Gone else lives n) ≡ life.Gone
    by true = refl
    by false = lost

absent_not_gone : (at : Life) → at ≡ life.Absent → at ≢ life.Gone
absent_not_gone at is gone = absurd (cc (is, gone))

frozen_kept : (n : NodeId) (x : NodeState) → EachEventKeeps (IsFrozen n x)
frozen_kept n x = record {
  answers = λ sc m s session sound r may f. record {
    lost = f.lost;
    same =
        act_frozen sc m n (after_answer s session) x r.alive f;
  };
  calls = λ sc m s session sound r may f. record {
    lost = f.lost;
    same =
        act_frozen sc m n (after_closing_rules (after_call s session)) x r.alive f;
  };
  takes = λ sc m s from y sound r is f. record {
    lost = f.lost;
    same =
        act_frozen sc m n (after_closing_rules (after_message s from y)) x r.alive f;
  };
  expires = λ sc m s tx sound r own is f. record {
    lost = f.lost;
    same =
        act_frozen sc m n (after_closing_rules (after_expire s tx)) x r.alive f;
  };
  sees = λ sc m s e sound r is f. record {
    lost = f.lost;
    same =
        act_frozen sc m n (after_closing_rules (after_see s s.read e)) x r.alive f;
  };
  switches = λ sc m s sound r may same f. record { lost = f.lost; same = f.same };
  moves = λ sc m s out sound r is f. record {
    lost = f.lost;
    same =
        act_frozen sc m n (record s { outbox = drop 1 s.outbox }) x r.alive f;
  };
  drops = λ sc m s out sound r is away f. record {
    lost = f.lost;
    same =
        act_frozen sc m n (record s { outbox = drop 1 s.outbox }) x r.alive f;
  };
  joins = λ sc m s sound absent new is f. record {
    lost = joins_not sc.life m.node n absent f.lost;
    same = still sc.life sc.state m.node n (state_at_rest (joiner sc m s)) x (absent_not_gone (sc.life m.node) absent) f.lost
        f.same;
  };
  loses = λ sc m sound lives f. record {
    lost = loses_too sc.life m n f.lost;
    same = loss_frozen m (same_node m n) (sc.life n) (sc.state n) f.lost ∙ f.same;
  };
  plans = λ sc refused sound f. record { lost = f.lost; same = f.same };
  starts = λ sc e sound is f. record { lost = f.lost; same = f.same };
  ticks = λ sc to sound f. record {
    lost = f.lost;
    same =
        ap (λ (l : Life). state_at_moment to (is_alive l) (sc.state n)) f.lost ∙ f.same;
  };
  breaks = λ sc m sound f. record { lost = f.lost; same = f.same };
}

-- in any two parts of a run
module _ (s : Scenario) (gs more : List Group) (is_good : IsTrue (good s)) (few : length (gs ++ more) < 2 ^ 62)
    (steps : AreSteps (opening s) (gs ++ more)) where
  abbrev middle : World
  middle = world_after (opening s) gs

  apart : AreSteps (opening s) gs × AreSteps middle more
  apart = steps_parts (opening s) gs more steps

  short : length s.plan ≤ 64
  short = plan_of_good s is_good

  pub frozen_after : (n : NodeId) → (scene_of s (noted s gs) middle).life n ≡ life.Gone
      → IsFrozen n ((scene_of s (noted s gs) middle).state n)
      (scene_of s (noted s (gs ++ more)) (world_after (opening s) (gs ++ more)))
  frozen_after n lost =
      let x : NodeState = (scene_of s (noted s gs) middle).state n in
      let sum = length-append gs more in
      let first = groups_hold Base base_kept s gs is_good (omega (arith, sum, few)) (opening_base s) apart.0 in
      let h = first.0 in
      let count = first.1 in
      let now : Holds (IsFrozen n x) s (noted s gs) middle = record {
        carries = h.carries;
        base = h.base;
        full = h.full;
        inv =
            record { lost = lost; same = refl };
      } in
      let rest = run_holds (IsFrozen n x) (frozen_kept n x) s (noted s gs) middle more short (omega (arith, count, sum, few))
      now apart.1 in
      let inv = rest.0.inv in
      subst (λ (w : World). IsFrozen n x (scene_of s (noted s (gs ++ more)) w)) (sym (after_parts (opening s) gs more))
      (subst (λ (rs : List Noted). IsFrozen n x (scene_of s rs (world_after middle more))) (sym (noted_parts s gs more)) inv)
