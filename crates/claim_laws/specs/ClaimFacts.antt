-- What is known of the claims that a node keeps, by the records so far.
use Rattle.std.specs.List.{list_all, list_any}
use Rattle.std.specs.Prelude.{Bool, true, ◌≡◌}
use Rattle.ignite_types.specs.declared.list.List.{List}
use Rattle.ignite_types.specs.declared.names.NodeId.{NodeId}
use Rattle.journal_statements.specs.MapLaws.{is_claim_of}
use Rattle.journal_statements.specs.Noted.{Noted, recs_of}
use Rattle.node_state.specs.Node.{NodeState}
use Rattle.node_state.specs.declared.topology.Claim.{Claim}
use Rattle.scenes.specs.Scenes.{Scene}

-- the node has taken the Complete that made this claim
abbrev pub is_told : List Noted → NodeId → Claim → Bool
is_told recs node claim = list_any (is_claim_of claim.node claim.top) (recs_of node recs)

-- a change after which claims pass a test that they passed before it
abbrev pub KeepsClaims : (Claim → Bool) → NodeState → NodeState → Type 0
KeepsClaims test before after = list_all test before.claims ≡ true → list_all test after.claims ≡ true

-- the invariant: each claim that a node keeps, lost or not, came with a Complete that it took
abbrev pub ClaimsAreTold : Scene → Type 0
ClaimsAreTold sc = (n : NodeId) → list_all (is_told sc.recs n) (sc.state n).claims ≡ true
